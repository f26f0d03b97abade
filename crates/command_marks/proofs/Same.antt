-- A set-up that is the exercise has as many calls.
use Rattle.std.proofs.Common.{◌≡◌, ◌∙◌, ◌&&◌, suc, List, [], ◌∷◌, length, Bool, true, false, refl, sym, ap}
use Rattle.std.specs.Cmp.Lexicographic.{pointwise}
use Rattle.std.proofs.lemmas.List.{length-map}
use Rattle.setup_format.specs.Views.{CallView, SetupView}
use Rattle.command_marks.specs.Against.{is_same}

second : (a b : Bool) → a && b ≡ true → b ≡ true
second true b e = e
second false b e = absurd cc

as_many : {A : Type 0} (E : A → A → Bool) (a b : List A) → pointwise E a b ≡ true → length a ≡ length b
as_many E [] [] e = refl
as_many E [] (y ∷ ys) e = absurd cc
as_many E (x ∷ xs) [] e = absurd cc
as_many E (x ∷ xs) (y ∷ ys) e = ap suc (as_many E xs ys (second _ _ e))

pub same_lengths : (exercise setup : SetupView) → is_same exercise setup ≡ true → length exercise.calls ≡ length setup.calls
same_lengths exercise setup same =
    sym (length-map exercise.calls (λ (c : CallView). c.call)) ∙ as_many _ _ _ (second _ _ (second _ _ same)) ∙ length-map setup.calls (λ (c : CallView). c.call)
