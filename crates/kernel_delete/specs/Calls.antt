-- What the calls of deletion say of a slot.
use Rattle.std.specs.Prelude.{◌≡◌, ℕ, Bool, true, ◌&&◌, ◌||◌, List}
use Rattle.cap_core.specs.declared.profile.ProfileName.{ProfileName}
use Rattle.cap_core.specs.declared.capability.Cap.{Cap}
use Rattle.cap_core.specs.declared.capability.Cap.TheVariants.{Null}
use Rattle.cap_core.specs.Objects.{same_object}
use Rattle.slot_core.specs.declared.slot.Slot.{Slot}
use Rattle.slot_core.specs.Places.{address_of}
use Rattle.kernel_forest.specs.Forest.{Forest, preorder}
use Rattle.kernel_forest.specs.Entries.{Entry, cap_at, is_full}
use Rattle.kernel_delete.specs.Work.{ends, list_after}

-- a capability passes one of two tests
abbrev pub either : (Cap → Bool) → (Cap → Bool) → Cap → Bool
either p q c = p c || q c

-- a full slot holds a capability other than Null
abbrev pub HoldsNoNull : ProfileName → Slot → Forest Entry → Type 0
HoldsNoNull p slot f = is_full (address_of p slot) f ≡ true → cap_at f (address_of p slot) ≡ Null → ⊥

-- the slots that are still to be looked at after this one was
abbrev pub rest_after : ProfileName → Slot → Forest Entry → List ℕ → List ℕ
rest_after p slot f rest = list_after p (preorder f) (address_of p slot) rest

-- the slot names the object that a capability names, and that ends with it
abbrev pub ends_object : ProfileName → Slot → Forest Entry → Cap → Bool
ends_object p slot f c = ends (preorder f) (address_of p slot) && same_object (cap_at f (address_of p slot)) c
