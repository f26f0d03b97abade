-- What the derivation forest of a kernel keeps besides disjoint objects: what stands below a capability lies in its region.
use Rattle.std.specs.Prelude.{◌≡◌, ℕ, ◌+◌, ◌≤◌, ◌==◌, true}
use Rattle.std.specs.List.{Contains, IsDistinct}
use Rattle.cap_core.specs.declared.profile.ProfileName.{ProfileName}
use Rattle.cap_core.specs.declared.capability.Cap.{Cap}
use Rattle.cap_core.specs.declared.capability.Cap.TheVariants.{Untyped}
use Rattle.cap_core.specs.Objects.{is_untyped, in_region, base_of, end_of}
use Rattle.kernel_forest.specs.Forest.{Forest, preorder, descendants}
use Rattle.kernel_forest.specs.Entries.{Entry, is_at, slots}
use Rattle.kernel_forest.specs.Disjoint.{IsDisjoint}

-- how many bytes of an untyped region are used
abbrev pub free_of : Cap → ℕ
free_of (Untyped base bits free) = free
free_of cap = 0

-- every object of an untyped's descendants ends where the untyped is used up, or before
abbrev pub IsUsedUp : ProfileName → Forest Entry → Type 0
IsUsedUp p f = (u d : Entry) → Contains (preorder f) u → is_untyped u.cap ≡ true → Contains (descendants (is_at u.slot) f) d → end_of p d.cap ≤ base_of u.cap + free_of u.cap

-- untyped capabilities are original, what stands below a capability lies in its region, and is used there
pub record AreRegions (p : ProfileName) (f : Forest Entry) : Type 0 where
  pub original : (u : Entry) → Contains (preorder f) u → is_untyped u.cap ≡ true → u.original ≡ true
  pub below : (a d : Entry) → Contains (preorder f) a → Contains (descendants (is_at a.slot) f) d → in_region p a.cap d.cap ≡ true
  pub used : IsUsedUp p f

-- what the derivation forest of every kernel is: each slot stands once, live objects are disjoint, and regions hold what stands
-- below them
pub record IsForest (p : ProfileName) (f : Forest Entry) : Type 0 where
  pub distinct : IsDistinct (λ (a b : ℕ). a == b) (slots f)
  pub disjoint : IsDisjoint p f
  pub regions : AreRegions p f

-- live objects are disjoint, or one is an untyped region around the other; a capability stands in one line with each untyped
-- one around its object; and if an untyped has children, what is below it ends within what is used
pub record AreObjectsApart (p : ProfileName) (f : Forest Entry) : Type 0 where
  pub disjoint : IsDisjoint p f
  pub used : IsUsedUp p f
