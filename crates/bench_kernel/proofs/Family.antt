-- What holds of a capability with so many that are derived from it.
use Rattle.std.proofs.Common.{◌≡◌, ◌≢◌, ℕ, zero, suc, ◌+◌, ◌≤◌, true, false, cond, ◌==◌, ◌||◌, refl, sym, ap, ◌∙◌, arith, eq-eqb}
use Rattle.std.specs.List.{AllByRecursion as Each, Contains}
use Rattle.std.proofs.lemmas.Bool.Decides.{nat_tests}
use Rattle.cap_core.specs.declared.profile.ProfileName.TheVariants.{Wide}
use Rattle.cap_core.specs.Objects.{is_untyped, contains, same_object}
use Rattle.kernel_forest.specs.Forest.{Forest, none, tree, join, out, preorder}
use Rattle.kernel_forest.specs.Entries.{Entry, entry, is_at, is_full, cap_at}
use Rattle.kernel_forest.specs.Derivation.{derived, emptied}
use Rattle.kernel_forest.specs.Disjoint.{IsDisjoint}
use Rattle.kernel_forest.proofs.Trees.Forests.{each-contained}
use Rattle.kernel_forest.proofs.Slots.Edits.{each-derived, full-derived, cap-derived_other}
use Rattle.kernel_forest.proofs.Disjoint.Disjointness.{disjoint-none, disjoint-rooted, disjoint-derived}
use Rattle.bench_kernel.specs.Cycle.{bench_endpoint, at, family}

other_place : (i j : ℕ) → i ≢ j → (at i == at j) ≡ false
other_place i j ne = grind (arith, nat_tests)

pub first_full : (k : ℕ) → is_full (at 1) (family k) ≡ true
first_full zero = refl
first_full (suc k) = full-derived (at 1) (at 1) (at (k + 2)) (bench_endpoint 5) (family k) (first_full k) ∙ ap (λ b. b || (at (k + 2) == at 1)) (first_full k)

pub next_empty : (k i : ℕ) → k + 2 ≤ i → is_full (at i) (family k) ≡ false
next_empty zero i h = ap (λ b. b || false) (other_place 1 i (λ e. omega arith))
next_empty (suc k) i h =
    full-derived (at i) (at 1) (at (k + 2)) (bench_endpoint 5) (family k) (first_full k)
    ∙ ap (λ b. b || (at (k + 2) == at i)) (next_empty k i (omega arith))
    ∙ other_place (k + 2) i (λ e. omega arith)

pub last_full : (k : ℕ) → is_full (at (k + 2)) (family (suc k)) ≡ true
last_full k =
    full-derived (at (k + 2)) (at 1) (at (k + 2)) (bench_endpoint 5) (family k) (first_full k)
    ∙ ap (λ b. b || (at (k + 2) == at (k + 2))) (next_empty k (k + 2) (omega arith))
    ∙ eq-eqb (at (k + 2)) (at (k + 2)) refl

pub first_holds : (k : ℕ) → cap_at (family k) (at 1) ≡ bench_endpoint 0
first_holds zero = refl
first_holds (suc k) = cap-derived_other (at 1) (at 1) (at (k + 2)) (bench_endpoint 5) (family k) (λ e. omega arith) ∙ first_holds k

-- disjoint, and no untyped region in it
pub record IsTyped (f : Forest Entry) : Type 0 where
  pub disjoint : IsDisjoint Wide f
  pub typed : Each (λ (e : Entry). is_untyped e.cap ≡ false) (preorder f)

pub family_typed : (k : ℕ) → IsTyped (family k)
family_typed zero = record {
  disjoint = disjoint-rooted Wide (at 1) (bench_endpoint 0) none (disjoint-none Wide) refl (λ e h. absurd (omega (arith, h.1)));
  typed = (refl, tt);
}
family_typed (suc k) = record {
  disjoint = disjoint-derived Wide (at 1) (at (k + 2)) (bench_endpoint 5) (family k) (family_typed k).disjoint (first_full k) (next_empty k (k + 2) (omega arith))
      (ap (λ c. same_object c (bench_endpoint 5)) (first_holds k)) (outside (family_typed k).typed);
  typed = each-derived (λ (e : Entry). is_untyped e.cap ≡ false) (at 1) (at (k + 2)) (bench_endpoint 5) (family k) (family_typed k).typed refl;
}
  where
    outside : Each (λ (e : Entry). is_untyped e.cap ≡ false) (preorder (family k)) → (u : Entry) → Contains (preorder (family k)) u → is_untyped u.cap ≡ true → contains Wide u.cap (bench_endpoint 5) ≡ false
    outside typed u m t = absurd (let n : is_untyped u.cap ≡ false = each-contained (λ (e : Entry). is_untyped e.cap ≡ false) (preorder (family k)) u typed m in cc)

-- the tree that it is

top : Entry
top = entry (at 1) (bench_endpoint 0) true

abbrev kids : ℕ → Forest Entry
kids zero = none
kids (suc k) = tree (entry (at (k + 2)) (bench_endpoint 5) true) none (kids k)

shape : (k : ℕ) → family k ≡ tree top (kids k) none
unfolding top
shape zero = refl
shape (suc k) = ap (derived (at 1) (at (k + 2)) (bench_endpoint 5)) (shape k)

-- what was put last is taken out again
pub last_out : (k : ℕ) → emptied (at (k + 2)) (family (suc k)) ≡ family k
unfolding top
last_out k =
    ap (emptied (at (k + 2))) (shape (suc k))
    ∙ ap (λ b. cond b (join (kids (suc k)) none) (tree top (out (is_at (at (k + 2))) (kids (suc k))) none)) (other_place 1 (k + 2) (λ e. omega arith))
    ∙ ap (λ b. tree top (cond b (kids k) (tree (entry (at (k + 2)) (bench_endpoint 5) true) none (out (is_at (at (k + 2))) (kids k)))) none) (eq-eqb (at (k + 2)) (at (k + 2)) refl)
    ∙ sym (shape k)
