-- When a state is laid out as a layout.
use Rattle.std.specs.Prelude.{◌≡◌, ℕ, Bool, true, false, not, ◌+◌, ◌*◌, ◌^◌, ◌==◌, ◌&&◌, ◌||◌, nat_lt, List, [], ◌∷◌, Option, Some, None, is_none, slice_get}
use Rattle.std.specs.List.{list_all, list_any}
use Rattle.cap_core.specs.declared.profile.ProfileName.{ProfileName}
use Rattle.cap_core.specs.declared.capability.Kind.{Kind}
use Rattle.cap_core.specs.declared.capability.Kind.TheVariants as kind
use Rattle.cap_core.specs.declared.capability.Cap.{Cap}
use Rattle.cap_core.specs.declared.capability.Cap.TheVariants.{Untyped, Endpoint, CNode, Tcb}
use Rattle.cap_core.specs.Numbers.{slot_size}
use Rattle.kernel_forest.specs.Forest.{Forest}
use Rattle.kernel_forest.specs.Entries.{Entry, cap_at, derivations_of}
use Rattle.kernel_abstract.specs.declared.call.ThreadState.{ThreadState}
use Rattle.kernel_abstract.specs.declared.call.ThreadState.TheVariants.{Ready, Inactive}
use Rattle.kernel_abstract.specs.Plan.{Plan, first_tcb}
use Rattle.kernel_abstract.specs.Shown.{Shown, state_at, inbox_at, waiting_at}
use Rattle.setup_layout.specs.declared.layout.Layout.{Layout}
use Rattle.setup_layout.specs.declared.layout.Object.{Object}
use Rattle.setup_layout.specs.declared.layout.Slot.{Slot}

-- the full slots of a state, each with its capability, and with the slot that it is derived from
abbrev pub Rows : Type 0
Rows = List (Entry × Option ℕ)

-- ---- objects

-- whose capability it is: the kinds, told apart by a number
abbrev pub kind_number : Kind → ℕ
kind_number kind.Untyped = 0
kind_number kind.Endpoint = 1
kind_number kind.CNode = 2
kind_number kind.Tcb = 3

-- two objects of a layout are one object of the state: of one kind and one size, at one address
abbrev pub are_same_object : Object → Object → Bool
are_same_object a b = kind_number a.kind == kind_number b.kind && (a.place == b.place && a.bits == b.bits)

-- no two are
abbrev pub are_objects_apart : List Object → Bool
are_objects_apart [] = true
are_objects_apart (object ∷ objects) = not (list_any (are_same_object object) objects) && are_objects_apart objects

-- a capability is of an object of the layout
abbrev pub is_capability_of : Kind → Cap → Object → Bool
is_capability_of kind.Untyped (Untyped base bits free) object = base == object.place && bits == object.bits
is_capability_of kind.Endpoint (Endpoint base badge rights) object = base == object.place
is_capability_of kind.CNode (CNode base radix guard) object = base == object.place && radix == object.bits
is_capability_of kind.Tcb (Tcb base) object = base == object.place
is_capability_of _ _ object = false

-- an object is live: some slot holds a capability of it
abbrev pub is_object_live : Rows → Object → Bool
is_object_live rows object = list_any (λ (row : Entry × Option ℕ). is_capability_of object.kind row.0.cap object) rows

-- a thread is ready, or inactive where the layout says so
abbrev pub is_state : Bool → Option ThreadState → Bool
is_state true (Some Inactive) = true
is_state false (Some Ready) = true
is_state _ _ = false

-- a thread is so, with no message, and nobody waits on an endpoint
abbrev pub stands_as : Shown → Kind → Object → Bool
stands_as v kind.Tcb object = is_state object.is_inactive (state_at v object.place) && is_none (inbox_at v object.place)
stands_as v kind.Endpoint object = is_none (slice_get (waiting_at v object.place) 0)
stands_as v _ object = true

abbrev pub stands : Shown → Object → Bool
stands v object = stands_as v object.kind object

-- ---- slots

-- a capability of an object is that of a slot of the layout: with its badge and rights, or with its guard
abbrev pub is_cap_with : Kind → Cap → Slot → Bool
is_cap_with kind.Endpoint (Endpoint base badge rights) slot = badge.0 == slot.badge && rights.0 == slot.rights.0
is_cap_with kind.CNode (CNode base radix guard) slot = guard.value == slot.guard.value && guard.size == slot.guard.size
is_cap_with _ _ slot = true

-- the address of a slot of an object: slots stand behind each other, and the one in which a thread's space begins stands first
abbrev pub slot_place : ProfileName → Object → Slot → ℕ
slot_place p holder slot = holder.place + slot_size p * slot.index

abbrev pub address_in : ProfileName → Slot → Option Object → Option ℕ
address_in p slot None = None
address_in p slot (Some holder) = Some (slot_place p holder slot)

-- the address of a slot of the layout
abbrev pub layout_slot_address : ProfileName → List Object → Slot → Option ℕ
layout_slot_address p objects slot = address_in p slot (slice_get objects slot.holder)

-- the slot at an address holds what the layout says
abbrev pub holds : Forest Entry → Slot → Option ℕ → Option Object → Bool
holds f slot (Some address) (Some object) = is_capability_of object.kind (cap_at f address) object && is_cap_with object.kind (cap_at f address) slot
holds f slot _ _ = false

abbrev pub is_slot_filled : ProfileName → List Object → Forest Entry → Slot → Bool
is_slot_filled p objects f slot = holds f slot (layout_slot_address p objects slot) (slice_get objects slot.object)

abbrev pub is_number : ℕ → Option ℕ → Bool
is_number n None = false
is_number n (Some m) = m == n

-- a full slot is one of the root CNode, which stands at 0 and ends at an address, the loader's, or one that the layout fills
abbrev pub is_known : ProfileName → ℕ → ℕ → List Object → List Slot → ℕ → Bool
is_known p end loader objects slots address =
    nat_lt address end || (address == loader || list_any (λ slot. is_number address (layout_slot_address p objects slot)) slots)

abbrev pub are_slots_known : ProfileName → Plan → List Object → List Slot → Rows → Bool
are_slots_known p plan objects slots rows =
    list_all (λ (row : Entry × Option ℕ). is_known p (slot_size p * 2 ^ plan.root_radix) (first_tcb p plan) objects slots row.0.slot) rows

-- ---- derivation

abbrev pub address_if : ProfileName → List Object → Option Slot → Option ℕ
address_if p objects None = None
address_if p objects (Some slot) = layout_slot_address p objects slot

abbrev pub address_at : ProfileName → List Object → List Slot → ℕ → Option ℕ
address_at p objects slots number = address_if p objects (slice_get slots number)

-- a full slot is the one, and derived from the other
abbrev pub is_pair : ℕ → ℕ → Entry × Option ℕ → Bool
is_pair above below row = row.0.slot == below && is_number above row.1

abbrev pub is_right_below : Rows → Option ℕ → Option ℕ → Bool
is_right_below rows (Some above) (Some below) = list_any (is_pair above below) rows
is_right_below rows _ _ = false

-- the second of two slots of the layout is derived from the first
abbrev pub is_derived : ProfileName → List Object → List Slot → Rows → ℕ × ℕ → Bool
is_derived p objects slots rows pair = is_right_below rows (address_at p objects slots pair.0) (address_at p objects slots pair.1)

-- ---- all of it

-- a state is laid out as a layout whose objects have addresses: they are apart, live, and as the layout says; each slot of the layout
-- holds its capability, and no other slot is full but the root CNode's and the loader's; and of two slots of which the layout says so
-- the one is derived from the other
pub record IsLaidOut (p : ProfileName) (plan : Plan) (layout : Layout) (v : Shown) : Type 0 where
  pub apart : are_objects_apart layout.objects.items ≡ true
  pub live : list_all (is_object_live (derivations_of v.derivations)) layout.objects.items ≡ true
  pub states : list_all (stands v) layout.objects.items ≡ true
  pub slots : list_all (is_slot_filled p layout.objects.items v.derivations) layout.slots.items ≡ true
  pub no_others : are_slots_known p plan layout.objects.items layout.slots.items (derivations_of v.derivations) ≡ true
  pub derived : list_all (is_derived p layout.objects.items layout.slots.items (derivations_of v.derivations)) layout.derived.items ≡ true
