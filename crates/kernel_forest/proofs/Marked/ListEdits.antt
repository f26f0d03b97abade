-- The edits of the marked list, at a slot that stands in it.
use Rattle.std.proofs.Common.{◌≡◌, ℕ, ◌*◌, true, false, ◌==◌, eq-eqb, List, [], ◌∷◌, ◌++◌, refl, sym, ◌∙◌, ap}
use Rattle.std.proofs.lemmas.Bool.{eqb-true}
use Rattle.cap_core.specs.declared.profile.ProfileName.{ProfileName}
use Rattle.cap_core.specs.declared.capability.Cap.{Cap}
use Rattle.cap_core.specs.Numbers.{slot_size}
use Rattle.kernel_forest.specs.Derivation.{is_new_original}
use Rattle.kernel_forest.specs.Marked.{Marked, marked, stands_at, row_in}
use Rattle.kernel_forest.specs.MarkedEdits.{put_behind, derived_behind, changed_at, handed_on, taken_out}
use Rattle.kernel_forest.proofs.Trees.Built.{Absent}

other_place : (p : ProfileName) (i j : ℕ) → (i * slot_size p == j * slot_size p) ≡ false → (i == j) ≡ false
other_place p i j h =
    (elim (i == j) as (λ c. (i == j) ≡ c → c ≡ false) [
      | true ↦ λ e. sym (eq-eqb (i * slot_size p) (j * slot_size p) (ap (λ k. k * slot_size p) (eqb-true i j e))) ∙ h
      | false ↦ λ e. refl
    ]) refl

own_place : (i : ℕ) → (i == i) ≡ true
own_place i = eq-eqb i i refl

pub row_in-at : (p : ProfileName) (pre : List Marked) (s : Marked) (post : List Marked) → Absent (stands_at p s.place) pre → row_in s.place (pre ++ s ∷ post) ≡ s
row_in-at p [] s post h = rw (own_place s.place)
row_in-at p (a ∷ pre) s post h = rw (other_place p a.place s.place h.0) (row_in-at p pre s post h.1)

pub put_behind-at : (p : ProfileName) (x : Marked) (pre : List Marked) (s : Marked) (post : List Marked) → Absent (stands_at p s.place) pre
    → put_behind s.place x (pre ++ s ∷ post) ≡ pre ++ s ∷ x ∷ post
put_behind-at p x [] s post h = rw (own_place s.place)
put_behind-at p x (a ∷ pre) s post h = rw (other_place p a.place s.place h.0) (ap (λ l. a ∷ l) (put_behind-at p x pre s post h.1))

pub derived_behind-at : (p : ProfileName) (n : ℕ) (cap : Cap) (pre : List Marked) (s : Marked) (post : List Marked) → Absent (stands_at p s.place) pre
    → derived_behind s.place n cap (pre ++ s ∷ post) ≡ pre ++ s ∷ marked n cap (is_new_original s.cap cap) (is_new_original s.cap cap) ∷ post
derived_behind-at p n cap pre s post h =
    ap (λ (r : Marked). put_behind s.place (marked n cap (is_new_original r.cap cap) (is_new_original r.cap cap)) (pre ++ s ∷ post)) (row_in-at p pre s post h)
    ∙ put_behind-at p (marked n cap (is_new_original s.cap cap) (is_new_original s.cap cap)) pre s post h

pub changed_at-at : (p : ProfileName) (change : Marked → Marked) (pre : List Marked) (s : Marked) (post : List Marked) → Absent (stands_at p s.place) pre
    → changed_at s.place change (pre ++ s ∷ post) ≡ pre ++ change s ∷ post
changed_at-at p change [] s post h = rw (own_place s.place)
changed_at-at p change (a ∷ pre) s post h = rw (other_place p a.place s.place h.0) (ap (λ l. a ∷ l) (changed_at-at p change pre s post h.1))

pub taken_out-at : (p : ProfileName) (pre : List Marked) (s : Marked) (post : List Marked) → Absent (stands_at p s.place) pre
    → taken_out s.place (pre ++ s ∷ post) ≡ pre ++ handed_on s.first_badged post
taken_out-at p [] s post h = rw (own_place s.place)
taken_out-at p (a ∷ pre) s post h = rw (other_place p a.place s.place h.0) (ap (λ l. a ∷ l) (taken_out-at p pre s post h.1))
