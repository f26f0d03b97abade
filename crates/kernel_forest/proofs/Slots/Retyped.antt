-- What a retype changes: which slots are full, and of what.
use Rattle.std.proofs.Common.{◌≡◌, ◌≢◌, ℕ, Bool, true, false, ◌&&◌, ◌||◌, ◌==◌, eqb, ◌⊎◌, ◌∙◌, ap}
use Rattle.std.specs.List.{AllByRecursion as Each, Contains, list_any, IsDistinct}
use Rattle.cap_core.specs.declared.capability.Cap.{Cap}
use Rattle.kernel_forest.specs.Forest.{Forest, preorder}
use Rattle.kernel_forest.specs.Entries.{Entry, entry, is_at, is_full, cap_at, slots}
use Rattle.kernel_forest.specs.Derivation.{retyped}
use Rattle.kernel_forest.proofs.Trees.Forests.{each-below, contains-below, any-below, filter-below}
use Rattle.kernel_forest.proofs.Slots.Edits.{other_at}
use Rattle.kernel_forest.proofs.Slots.Distinct.{inserted-below, once_at}
use Rattle.kernel_forest.proofs.Slots.Holding.{cap_in-same_entries}
use Rattle.kernel_forest.proofs.Slots.DistinctEntries.{distinct-inserted}

-- which entries there are, and what holds of each

pub each-retyped : (P : Entry → Type 0) (parent slot : ℕ) (cap : Cap) (f : Forest Entry) → Each P (preorder f) → P (entry slot cap true) → Each P (preorder (retyped parent slot cap f))
each-retyped P parent slot cap f h e = each-below P (is_at parent) (entry slot cap true) f h e

pub contains-retyped : (parent slot : ℕ) (cap : Cap) (f : Forest Entry) (e : Entry) → Contains (preorder (retyped parent slot cap f)) e → Contains (preorder f) e ⊎ (entry slot cap true ≡ e)
contains-retyped parent slot cap f e h = contains-below (is_at parent) (entry slot cap true) f e h

-- which slots are full, and which objects are named

pub any-retyped : (q : Entry → Bool) (parent slot : ℕ) (cap : Cap) (f : Forest Entry) → is_full parent f ≡ true
    → list_any q (preorder (retyped parent slot cap f)) ≡ (list_any q (preorder f) || q (entry slot cap true))
any-retyped q parent slot cap f h = any-below (is_at parent) q (entry slot cap true) f ∙ ap (λ b. list_any q (preorder f) || (b && q (entry slot cap true))) h

pub full-retyped : (a parent slot : ℕ) (cap : Cap) (f : Forest Entry) → is_full parent f ≡ true → is_full a (retyped parent slot cap f) ≡ (is_full a f || (slot == a))
full-retyped a parent slot cap f h = any-retyped (is_at a) parent slot cap f h

-- other slots hold what they held

pub cap-retyped_other : (a parent slot : ℕ) (cap : Cap) (f : Forest Entry) → a ≢ slot → cap_at (retyped parent slot cap f) a ≡ cap_at f a
cap-retyped_other a parent slot cap f h =
    cap_in-same_entries a (preorder (retyped parent slot cap f)) (preorder f) (filter-below (is_at parent) (is_at a) (entry slot cap true) f (other_at a slot h))

-- the slot holds the new capability, which is original

-- slots stay distinct

pub distinct-retyped : (parent slot : ℕ) (cap : Cap) (f : Forest Entry) → IsDistinct eqb (slots f) → is_full parent f ≡ true → is_full slot f ≡ false
    → IsDistinct eqb (slots (retyped parent slot cap f))
distinct-retyped parent slot cap f d s h =
    distinct-inserted (entry slot cap true) (preorder f) (preorder (retyped parent slot cap f)) (inserted-below (is_at parent) (entry slot cap true) f (once_at parent (preorder f) d) s) d h
