-- Live objects are disjoint, and a capability stands in one line with each untyped one whose range contains its object.
use Rattle.std.specs.Prelude.{◌≡◌, Bool, ◌&&◌, ◌||◌, ◌⊎◌, IsTrue}
use Rattle.std.specs.List.{Contains}
use Rattle.cap_core.specs.declared.profile.ProfileName.{ProfileName}
use Rattle.cap_core.specs.declared.capability.Cap.{Cap}
use Rattle.cap_core.specs.Objects.{is_untyped, same_object, contains, are_apart}
use Rattle.kernel_forest.specs.Forest.{Forest, preorder, descendants, ancestors}
use Rattle.kernel_forest.specs.Entries.{Entry, is_at}

-- the ranges are apart, or it is one object, or one is an untyped region that contains the other
abbrev pub are_disjoint : ProfileName → Cap → Cap → Bool
are_disjoint p a b =
    are_apart p a b
    || (same_object a b || ((is_untyped a && contains p a b) || (is_untyped b && contains p b a)))

-- c stands in the slot of u, below it or above it
abbrev pub AreInLine : Forest Entry → Entry → Entry → Type 0
AreInLine f u c =
    (c.slot ≡ u.slot) ⊎ (Contains (descendants (is_at u.slot) f) c ⊎ Contains (ancestors (is_at u.slot) f) c)

-- live objects have no address in common, or one is an untyped region around the other
pub record IsDisjoint (p : ProfileName) (f : Forest Entry) : Type 0 where
  pub objects : (a b : Entry) → Contains (preorder f) a → Contains (preorder f) b → IsTrue (are_disjoint p a.cap b.cap)
  pub lines : (u c : Entry) → Contains (preorder f) u → Contains (preorder f) c → IsTrue (is_untyped u.cap) →
      IsTrue (contains p u.cap c.cap) → AreInLine f u c
