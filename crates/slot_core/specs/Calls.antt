-- What a store's calls speak of, at slots: what a slot holds, and the edits of the derivation forest.
use Rattle.std.specs.Prelude.{◌≡◌, ℕ, true, Bool, Option, None, option_map, ◌⊎◌}
use Rattle.cap_core.specs.declared.profile.ProfileName.{ProfileName}
use Rattle.cap_core.specs.declared.capability.Cap.{Cap}
use Rattle.cap_core.specs.Objects.{is_untyped, badge_of}
use Rattle.kernel_forest.specs.Forest.{Forest}
use Rattle.kernel_forest.specs.Entries.{Entry, entry, cap_at, is_full, first_child}
use Rattle.kernel_forest.specs.Derivation.{derived, rooted, retyped, moved, freed, emptied}
use Rattle.slot_core.specs.declared.slot.Slot.{Slot}
use Rattle.slot_core.specs.declared.derivations.Derivation.{Derivation}
use Rattle.slot_core.specs.Places.{address_of}

-- the capability that a slot holds
abbrev pub held : ProfileName → Slot → Forest Entry → Cap
held p slot f = cap_at f (address_of p slot)

-- a slot holds a capability
abbrev pub is_filled : ProfileName → Slot → Forest Entry → Bool
is_filled p slot f = is_full (address_of p slot) f

-- the address of the newest child of a slot
abbrev pub newest_child : ProfileName → Slot → Forest Entry → Option ℕ
newest_child p slot f = first_child (address_of p slot) f

-- the edit `rooted` of a forest, at the address of a slot
abbrev pub rooted_at : ProfileName → Slot → Cap → Forest Entry → Forest Entry
rooted_at p slot cap f = rooted (address_of p slot) cap f

-- the edit `retyped` of a forest, at the addresses of slots
abbrev pub retyped_at : ProfileName → Slot → Slot → Cap → Forest Entry → Forest Entry
retyped_at p parent slot cap f = retyped (address_of p parent) (address_of p slot) cap f

-- the edit `derived` of a forest, at the addresses of slots
abbrev pub derived_at : ProfileName → Slot → Slot → Cap → Forest Entry → Forest Entry
derived_at p source slot cap f = derived (address_of p source) (address_of p slot) cap f

-- the edit `moved` of a forest, at the addresses of slots
abbrev pub moved_at : ProfileName → Slot → Slot → Cap → Forest Entry → Forest Entry
moved_at p source slot cap f = moved (address_of p source) (address_of p slot) cap f

-- the edit `freed` of a forest, at the address of a slot
abbrev pub freed_at : ProfileName → Slot → ℕ → Forest Entry → Forest Entry
freed_at p slot free f = freed (address_of p slot) free f

-- the edit `emptied` of a forest, at the address of a slot
abbrev pub emptied_at : ProfileName → Slot → Forest Entry → Forest Entry
emptied_at p slot f = emptied (address_of p slot) f

-- a derived capability has the badge of the one that it is derived from, or that has none
abbrev pub KeepsBadge : Cap → Cap → Type 0
KeepsBadge from cap = (badge_of cap ≡ badge_of from) ⊎ (badge_of from ≡ 0)

-- an untyped capability is derived only from one with no child
abbrev pub IsChildless : ProfileName → Slot → Cap → Forest Entry → Type 0
IsChildless p source cap f = is_untyped cap ≡ true → newest_child p source f ≡ None

-- a derivation as an entry of the forest, with the slot of the one right above it
abbrev pub derivation_view : ProfileName → Derivation → Entry × Option ℕ
derivation_view p d = (entry (address_of p d.slot) d.cap d.original, option_map (address_of p) d.parent)
