-- A text that equals another, or begins with it followed by a space.
use Rattle.std.proofs.Common.{◌≡◌, ℕ, Bool, true, false, ◌&&◌, ◌||◌, ◌==◌, ◌≤◌, slice_index_or, arith, List, [], ◌∷◌, ◌++◌, codes, length, take, drop, nat_eq, refl, sym, ap, ◌∙◌, ◌⊎◌, inl, inr, eq-eqb}
use Rattle.std.proofs.lemmas.Bool.{ne_eqb}
use Rattle.std.proofs.lemmas.Bool.Decides.{eqb_tells}
use Rattle.std.specs.List.{starts_with}
use lib.Pointwise.{pointwise}
use Rattle.setup_report.specs.Text.{begins_as}

-- what is behind the other text: nothing, or a space first
abbrev ends_or_spaced : List ℕ → Bool
ends_or_spaced [] = true
ends_or_spaced (c ∷ cs) = 32 == c

and_true : (b : Bool) → (b && true) ≡ b
and_true true = refl
and_true false = refl

same_first : (b b' p q r s : Bool) → b' ≡ b → (p || q) ≡ (r && s) → ((b && p) || (b' && q)) ≡ ((b && r) && s)
same_first true b' p q r s same h = ap (λ b. p || (b && q)) same ∙ h
same_first false b' p q r s same h = ap (λ b. b && q) same

eqb_swap : (x y : ℕ) → (y == x) ≡ (x == y)
eqb_swap x y = told (eqb_tells x y)
  where
    told : (((x == y) ≡ true) × (x ≡ y)) ⊎ (((x == y) ≡ false) × (x ≡ y → ⊥)) → (y == x) ≡ (x == y)
    told (inl w) = eq-eqb y x (sym w.1) ∙ sym w.0
    told (inr w) = ne_eqb y x (λ e. w.1 (sym e)) ∙ sym w.0

begins : (text other : List ℕ) → begins_as text other ≡ (pointwise nat_eq (take (length other) text) other && ends_or_spaced (drop (length other) text))
begins [] [] = refl
begins (c ∷ cs) [] = and_true (32 == c)
begins [] (x ∷ xs) = refl
begins (c ∷ cs) (x ∷ xs) =
    same_first (c == x) (x == c) (pointwise nat_eq cs xs) (starts_with nat_eq cs (xs ++ codes " ")) (pointwise nat_eq (take (length xs) cs) xs) (ends_or_spaced (drop (length xs) cs))
    (eqb_swap c x) (begins cs xs)

pub begins_not : (text other : List ℕ) → pointwise nat_eq (take (length other) text) other ≡ false → false ≡ begins_as text other
begins_not text other h = sym (begins text other ∙ ap (λ b. b && ends_or_spaced (drop (length other) text)) h)

pub begins_with : (text other rest : List ℕ) → pointwise nat_eq (take (length other) text) other ≡ true → rest ≡ drop (length other) text → begins_as text other ≡ ends_or_spaced rest
begins_with text other rest h is = begins text other ∙ ap (λ b. b && ends_or_spaced (drop (length other) text)) h ∙ ap ends_or_spaced (sym is)

pub begins_whole : (text other : List ℕ) → pointwise nat_eq (take (length other) text) other ≡ true → [] ≡ drop (length other) text → true ≡ begins_as text other
begins_whole text other h is = sym (begins_with text other [] h is)

pub begins_first : (text other rest : List ℕ) → 1 ≤ length rest → pointwise nat_eq (take (length other) text) other ≡ true → rest ≡ drop (length other) text → nat_eq (slice_index_or rest 0 0) 32 ≡ begins_as text other
begins_first text other [] some h is = absurd (omega arith)
begins_first text other (c ∷ cs) some h is = eqb_swap 32 c ∙ sym (begins_with text other (c ∷ cs) h is)
