-- The texts of a list's elements, one behind another.
use Rattle.std.proofs.Common.{◌≡◌, ℕ, ◌+◌, ◌<◌, List, [], ◌∷◌, ◌++◌, map, take, length, get_or, refl, sym, ap, ◌∙◌, append_assoc, append-nil}
use Rattle.std.proofs.lemmas.List.{take_more}
use Rattle.std.proofs.lemmas.List.Concat.{flat_map-append}
use Rattle.std.specs.List.{flat_map}

pub flat_seen : {X Y : Type 0} (f : Y → List ℕ) (g : X → Y) (xs : List X) → flat_map (λ x. f (g x)) xs ≡ flat_map f (map g xs)
flat_seen f g [] = refl
flat_seen f g (x ∷ xs) = ap (λ l. f (g x) ++ l) (flat_seen f g xs)

-- the text of one more element
pub flat_next : {X : Type 0} (f : X → List ℕ) (xs : List X) (i : ℕ) (d : X) (start : List ℕ) → i < length xs →
    (start ++ flat_map f (take i xs)) ++ f (get_or xs i d) ≡ start ++ flat_map f (take (i + 1) xs)
flat_next f xs i d start within =
    append_assoc start (flat_map f (take i xs)) (f (get_or xs i d))
    ∙ ap (λ l. start ++ l)
    (ap (λ l. flat_map f (take i xs) ++ l) (sym (append-nil (f (get_or xs i d))))
    ∙ (sym (flat_map-append f (take i xs) (get_or xs i d ∷ [])) ∙ ap (flat_map f) (sym (take_more xs i d within))))

pub flat_step : {X : Type 0} (f : X → List ℕ) (xs : List X) (i : ℕ) (d : X) (start before after : List ℕ) → i < length xs →
    before ≡ start ++ flat_map f (take i xs) → after ≡ before ++ f (get_or xs i d) → after ≡ start ++ flat_map f (take (i + 1) xs)
flat_step f xs i d start before after within is so = so ∙ (ap (λ l. l ++ f (get_or xs i d)) is ∙ flat_next f xs i d start within)
