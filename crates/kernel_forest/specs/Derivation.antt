-- How a capability comes into the forest, and when it is the last of its object.
use Rattle.std.specs.Prelude.{ℕ, Bool, true, cond, not, ◌==◌, ◌&&◌, ◌||◌}
use Rattle.std.specs.List.{list_any}
use Rattle.cap_core.specs.declared.capability.Cap.{Cap}
use Rattle.cap_core.specs.declared.capability.Cap.TheVariants.{Untyped}
use Rattle.cap_core.specs.Objects.{is_untyped, badge_of, same_object}
use Rattle.kernel_forest.specs.Forest.{Forest, preorder, below, after, root, out, renamed}
use Rattle.kernel_forest.specs.Entries.{Entry, entry, is_at, is_original, cap_at}

-- a capability derived from one in a slot is original if it is untyped or its badge is another
abbrev pub is_new_original : Cap → Cap → Bool
is_new_original from cap = is_untyped cap || not (badge_of cap == badge_of from)

-- the entry of a capability that is derived from the one in a slot
abbrev pub derived_entry : ℕ → ℕ → Cap → Forest Entry → Entry
derived_entry source slot cap f = entry slot cap (is_new_original (cap_at f source) cap)

-- a derived capability becomes the first child of an original source, and the next sibling of another
abbrev pub derived : ℕ → ℕ → Cap → Forest Entry → Forest Entry
derived source slot cap f =
    cond (is_original source f) (below (is_at source) (derived_entry source slot cap f) f)
    (after (is_at source) (derived_entry source slot cap f) f)

-- a capability that is derived from none: a tree of its own, the last one
abbrev pub rooted : ℕ → Cap → Forest Entry → Forest Entry
rooted slot cap f = root (entry slot cap true) f

-- a capability made by a retype: original, and the first child of its untyped
abbrev pub retyped : ℕ → ℕ → Cap → Forest Entry → Forest Entry
retyped parent slot cap f = below (is_at parent) (entry slot cap true) f

-- a capability that moves keeps its place in the forest and whether it is original
abbrev pub moved : ℕ → ℕ → Cap → Forest Entry → Forest Entry
moved source slot cap f = renamed (λ (e : Entry). cond (is_at source e) (entry slot cap e.original) e) f

-- an untyped capability with another free index; every other capability as it is
abbrev pub with_free : ℕ → Cap → Cap
with_free free (Untyped base bits former) = Untyped base bits free
with_free free cap = cap

abbrev pub freed : ℕ → ℕ → Forest Entry → Forest Entry
freed slot free f = renamed (λ (e : Entry). cond (is_at slot e) (entry e.slot (with_free free e.cap) e.original) e) f

-- a slot is emptied, and its children take its place, in their order
abbrev pub emptied : ℕ → Forest Entry → Forest Entry
emptied slot f = out (is_at slot) f

-- both name one object, or one untyped region of the same range
abbrev pub names_same : Cap → Cap → Bool
names_same (Untyped a bits free) (Untyped b bits' free') = a == b && bits == bits'
names_same a b = same_object a b

-- some slot names the object of a capability that is not untyped
abbrev pub is_named : Cap → Forest Entry → Bool
is_named cap f = list_any (λ (e : Entry). same_object e.cap cap) (preorder f)

-- the capability in a slot is the last of its object: it is untyped, or no other slot names the object
abbrev pub is_last : ℕ → Forest Entry → Bool
is_last slot f =
    is_untyped (cap_at f slot)
    || not (list_any (λ (e : Entry). not (e.slot == slot) && same_object e.cap (cap_at f slot)) (preorder f))
