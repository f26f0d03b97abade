-- Tests of the elements of a list.
use Rattle.std.proofs.Common.{◌≡◌, ℕ, Bool, true, false, ◌==◌, ◌||◌, List, [], ◌∷◌, map, Option, Some, None, filter_map, inl, inr, refl, sym, ap, subst, ◌∙◌, eq-eqb}
use Rattle.std.specs.List.{list_any, cons_option}
use Rattle.std.proofs.lemmas.Bool.{false≢true, eqb-true}
use Rattle.kernel_delete.proofs.Members.{either_true, true_left, true_right}
use Rattle.setup_report.specs.State.{is_in}

pub neither : (b c : Bool) → b || c ≡ false → (b ≡ false) × (c ≡ false)
neither true c h = cc
neither false c h = (refl, h)

-- a test that none passes
pub none_at : (f : ℕ → Bool) (e : ℕ) (xs : List ℕ) → list_any f xs ≡ false → is_in e xs ≡ true → f e ≡ false
none_at f e [] none there = absurd (false≢true there)
none_at f e (x ∷ xs) none there =
    let both = neither (f x) (list_any f xs) none in
    elim (either_true (e == x) (is_in e xs) there) [
      | inl same ↦ ap f (eqb-true e x same) ∙ both.0
      | inr rest ↦ none_at f e xs both.1 rest
    ]

pub is_in_mapped : {X : Type 0} (g : X → ℕ) (e : ℕ) (f : X → Bool) → ((x : X) → f x ≡ true → g x ≡ e) → (xs : List X) → list_any f xs ≡ true → is_in e (map g xs) ≡ true
is_in_mapped g e f at [] h = h
is_in_mapped g e f at (x ∷ xs) h = elim (either_true (f x) (list_any f xs) h) [
  | inl here ↦ true_left (e == g x) (is_in e (map g xs)) (eq-eqb e (g x) (sym (at x here)))
  | inr rest ↦ true_right (e == g x) (is_in e (map g xs)) (is_in_mapped g e f at xs rest)
]

-- what a member of a list gives passes a test
pub any_given : {Y : Type 0} (g : ℕ → Option Y) (f : Y → Bool) (t : ℕ) (y : Y) → g t ≡ Some y → f y ≡ true → (xs : List ℕ) → is_in t xs ≡ true →
    list_any f (filter_map g xs) ≡ true
any_given g f t y gives passes [] there = absurd (false≢true there)
any_given {Y} g f t y gives passes (x ∷ xs) there = elim (either_true (t == x) (is_in t xs) there) [
  | inl same ↦ subst (λ (o : Option Y). list_any f (cons_option o (filter_map g xs)) ≡ true) (sym gives ∙ ap g (eqb-true t x same))
      (true_left (f y) (list_any f (filter_map g xs)) passes)
  | inr rest ↦ passed (g x) (any_given g f t y gives passes xs rest)
]
  where
    passed : (o : Option Y) → list_any f (filter_map g xs) ≡ true → list_any f (cons_option o (filter_map g xs)) ≡ true
    passed None h = h
    passed (Some z) h = true_right (f z) (list_any f (filter_map g xs)) h
