-- What the tests keep of a store while they go through a sequence of calls.
use Rattle.std.specs.Prelude.{◌≡◌, ℕ, ◌*◌, ◌<◌, Bool, true, false, not, nat_le, eqb, ◌||◌, ⊤}
use Rattle.std.specs.List.{AllByRecursion as Each, IsDistinct}
use Rattle.cap_core.specs.declared.profile.ProfileName.{ProfileName}
use Rattle.cap_core.specs.declared.capability.Cap.{Cap}
use Rattle.cap_core.specs.Numbers.{slot_size}
use Rattle.cap_core.specs.Objects.{IsLawful, is_null, is_untyped, contains, are_apart, base_of, end_of}
use Rattle.kernel_forest.specs.Forest.{Forest, none, tree, preorder}
use Rattle.kernel_forest.specs.Entries.{Entry, is_at, slots}
use Rattle.kernel_forest.specs.Disjoint.{IsDisjoint}

-- R holds between each and all that stands below it
abbrev pub HoldsBelow : {A : Type 0} → (A → A → Type 0) → Forest A → Type 0
HoldsBelow R none = ⊤
HoldsBelow R (tree a under others) = Each (R a) (preorder under) × (HoldsBelow R under × HoldsBelow R others)

-- below an untyped region stands what it contains, and untyped regions stand only below untyped ones
pub record IsNest (p : ProfileName) (a b : Entry) : Type 0 where
  pub inside : is_untyped a.cap ≡ true → contains p a.cap b.cap ≡ true
  pub untyped : is_untyped b.cap ≡ true → is_untyped a.cap ≡ true

-- one of the first sixteen slots, with a lawful capability in a memory of 2^12 bytes
pub record IsTestEntry (p : ProfileName) (e : Entry) : Type 0 where
  pub lawful : IsLawful p 12 e.cap
  pub placed : (i : ℕ) × (i < 16) × (e.slot ≡ i * slot_size p)
  pub original : is_untyped e.cap ≡ true → e.original ≡ true

pub record IsTestForest (p : ProfileName) (f : Forest Entry) : Type 0 where
  pub entries : Each (IsTestEntry p) (preorder f)
  pub distinct : IsDistinct eqb (slots f)
  pub disjoint : IsDisjoint p f
  pub nested : HoldsBelow (IsNest p) f

-- what a slot holds is apart from a capability's object
abbrev pub is_clear : ProfileName → Cap → Cap → Bool
is_clear p cap held = is_null held || are_apart p held cap

-- what a slot holds lies outside the region, or ends in front of a capability's object
abbrev pub leaves_room : ProfileName → Cap → Cap → Cap → Bool
leaves_room p region cap held = is_null held || (not (contains p region held) || nat_le (end_of p held) (base_of cap))

-- all but what stands at the parent's place lies outside the region, or ends in front of a capability's object
abbrev pub HasRoom : ProfileName → ℕ → Cap → Cap → Forest Entry → Type 0
HasRoom p parent region cap f =
    Each (λ (e : Entry). is_at (parent * slot_size p) e ≡ false → leaves_room p region cap e.cap ≡ true) (preorder f)
