-- What is left of a forest where all that stands below a slot has left.
use Rattle.std.proofs.Common.{◌≡◌, inl, inr, ℕ, Bool, true, false, cond, List, [], ◌∷◌, filter, map, refl, sym, ap, ◌∙◌}
use Rattle.std.specs.List.{list_any}
use Rattle.std.proofs.lemmas.Bool.{eqb-true}
use Rattle.cap_core.specs.Objects.{is_null}
use Rattle.kernel_forest.specs.Forest.{Forest, preorder}
use Rattle.kernel_forest.specs.Entries.{Entry, is_at, cap_at}
use Rattle.kernel_forest.specs.Without.{without}
use Rattle.kernel_delete.specs.Members.{In, AreApart}
use Rattle.kernel_delete.proofs.Kept.{in_without, without_in}
use Rattle.kernel_delete.proofs.Lookups.{cap_at_only, cap_at_empty}
use Rattle.kernel_delete.proofs.Members.{any_of, tells}
use Rattle.kernel_delete.proofs.Orders.{one_only}
use Rattle.query_revoke.specs.Below.{is_below}

pub mapped_in : {A B : Type 0} (g : A → B) (xs : List A) (x : A) → In x xs → In (g x) (map g xs)
mapped_in g [] x i = absurd i
mapped_in g (y ∷ xs) x (inl e) = inl (ap g e)
mapped_in g (y ∷ xs) x (inr i) = inr (mapped_in g xs x i)

pub in_mapped : {A B : Type 0} (g : A → B) (xs : List A) (y : B) → In y (map g xs) → (x : A) × (In x xs × (g x ≡ y))
in_mapped g [] y i = absurd i
in_mapped g (x ∷ xs) y (inl e) = (x, (inl refl, sym e))
in_mapped g (x ∷ xs) y (inr i) = let w = in_mapped g xs y i in (w.0, (inr w.1.0, w.1.1))

abbrev pub left_over : ℕ → Forest Entry → Forest Entry
left_over s f = without (λ (e : Entry). is_below s f e.slot) f

pub cleared_where : (f : Forest Entry) (s n : ℕ) → AreApart (preorder f) → ((a : Entry) → In a (preorder f) → is_null a.cap ≡ false) → list_any (is_at n) (preorder f) ≡ true →
    is_null (cap_at (left_over s f) n) ≡ is_below s f n
cleared_where f s n apart full there = elim (tells (is_below s f n)) [
  | inl below ↦ (
      let none : list_any (is_at n) (preorder (left_over s f)) ≡ false = elim (tells (list_any (is_at n) (preorder (left_over s f)))) [
        | inr fails ↦ fails
        | inl passes ↦ absurd (let w = any_of (is_at n) (preorder (left_over s f)) passes in
            let stays = (in_without (λ (e : Entry). is_below s f e.slot) f w.0 w.1.0).1 in
            let z : true ≡ false = sym below ∙ ap (is_below s f) (sym (eqb-true w.0.slot n w.1.1)) ∙ stays in
            cc)
      ] in
      ap is_null (cap_at_empty (preorder (left_over s f)) n none) ∙ sym below)
  | inr stays ↦ (
      let w = any_of (is_at n) (preorder f) there in
      let slot : w.0.slot ≡ n = eqb-true w.0.slot n w.1.1 in
      let i : In w.0 (preorder (left_over s f)) = without_in (λ (e : Entry). is_below s f e.slot) f w.0 w.1.0 (ap (is_below s f) slot ∙ stays) in
      let held = cap_at_only (preorder (left_over s f)) n w.0 i w.1.1
      (λ b j e. one_only (is_at n) (preorder f) (apart n) w.0 b w.1.0 (in_without (λ (e : Entry). is_below s f e.slot) f b j).0 w.1.1 e) in
      ap is_null held ∙ full w.0 w.1.0 ∙ sym stays)
]

pub alike : (q r : ℕ → Bool) (xs : List ℕ) → ((n : ℕ) → In n xs → q n ≡ r n) → filter q xs ≡ filter r xs
alike q r [] h = refl
alike q r (x ∷ xs) h =
    (λ i. cond (h x (inl refl) i) (x ∷ filter q xs) (filter q xs))
    ∙ ap (λ l. cond (r x) (x ∷ l) l) (alike q r xs (λ n j. h n (inr j)))
