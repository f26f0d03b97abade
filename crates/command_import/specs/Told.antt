-- What the lines of a listing tell of a layout.
use Rattle.std.specs.Prelude.{◌≡◌, ℕ, ◌<◌, ◌≤◌, ◌^◌, ◌==◌, Bool, true, false, nat_lt, All, List, [], ◌∷◌, ◌++◌, Option, Some, None, option_map, slice_get, string_bytes}
use Rattle.std.specs.List.{flat_map, list_all}
use Rattle.cap_core.specs.declared.rights.Rights.{Rights}
use Rattle.cap_core.specs.declared.capability.Guard.{Guard}
use Rattle.cap_core.specs.declared.capability.Kind.{Kind}
use Rattle.cap_core.specs.declared.capability.Kind.TheVariants.{Untyped, Endpoint, CNode, Tcb}
use Rattle.cap_core.specs.Rights.{all_rights}
use Rattle.setup_layout.specs.declared.layout.AssumedRights.{AssumedRights}
use Rattle.setup_layout.specs.declared.layout.AssumedRights.TheVariants.{NoRights, AllRights, LeastRights}
use Rattle.setup_layout.specs.declared.layout.Layout.{Layout}
use Rattle.setup_layout.specs.declared.layout.Object.{Object}
use Rattle.setup_layout.specs.declared.layout.Slot.{Slot}

-- a slot, by the name of its holder and by its number; none for the slot in which the space of a thread begins
abbrev pub ToldPlace : Type 0
ToldPlace = List ℕ × Option ℕ

-- what one line tells: a slot with its capability, whose object has a name; a thread that makes no calls; a slot below another one, where
-- the holder of each is there; and that rights were assumed, all or the least
pub data ToldLine : Type 0 where
  HoldsUntyped : (place : ToldPlace) (name : List ℕ) (bits : ℕ) → ToldLine
  HoldsEndpoint : (place : ToldPlace) (name : List ℕ) (badge : ℕ) (rights : Rights) → ToldLine
  HoldsCNode : (place : ToldPlace) (name : List ℕ) (radix : ℕ) (guard : Guard) → ToldLine
  HoldsTcb : (place : ToldPlace) (name : List ℕ) → ToldLine
  MakesNoCalls : (name : List ℕ) → ToldLine
  StandsBelow : (below above : Option ToldPlace) → ToldLine
  AssumesRights : (all : Bool) → ToldLine

abbrev pub told_number : Kind → Slot → Option ℕ
told_number Tcb slot = None
told_number _ slot = Some slot.index

abbrev pub told_place : Slot → Object → ToldPlace
told_place slot holder = (string_bytes holder.name, told_number holder.kind slot)

abbrev pub told_held : Kind → ToldPlace → Object → Slot → ToldLine
told_held Untyped place object slot = HoldsUntyped place (string_bytes object.name) object.bits
told_held Endpoint place object slot = HoldsEndpoint place (string_bytes object.name) slot.badge slot.rights
told_held CNode place object slot = HoldsCNode place (string_bytes object.name) object.bits slot.guard
told_held Tcb place object slot = HoldsTcb place (string_bytes object.name)

-- a slot whose holder and whose object are there
abbrev pub told_of_slot : Slot → Option Object → Option Object → List ToldLine
told_of_slot slot (Some holder) (Some object) = told_held object.kind (told_place slot holder) object slot ∷ []
told_of_slot slot _ _ = []

abbrev pub told_slot : List Object → Slot → List ToldLine
told_slot objects slot = told_of_slot slot (slice_get objects slot.holder) (slice_get objects slot.object)

abbrev pub told_state : Kind → Bool → Object → List ToldLine
told_state Tcb true object = MakesNoCalls (string_bytes object.name) ∷ []
told_state _ _ object = []

abbrev pub told_inactive : Object → List ToldLine
told_inactive object = told_state object.kind object.is_inactive object

-- two slots that are there
abbrev pub told_pair : List Object → Option Slot → Option Slot → List ToldLine
told_pair objects (Some above) (Some below) =
    StandsBelow (option_map (told_place below) (slice_get objects below.holder)) (option_map (told_place above) (slice_get objects above.holder)) ∷ []
told_pair objects _ _ = []

abbrev pub told_derived : List Object → List Slot → ℕ × ℕ → List ToldLine
told_derived objects slots pair = told_pair objects (slice_get slots pair.0) (slice_get slots pair.1)

abbrev pub told_assumed : AssumedRights → List ToldLine
told_assumed NoRights = []
told_assumed AllRights = AssumesRights true ∷ []
told_assumed LeastRights = AssumesRights false ∷ []

-- what all lines tell
abbrev pub listing_tells : Layout → List ToldLine
listing_tells layout =
    flat_map (told_slot layout.objects.items) layout.slots.items
    ++ (flat_map told_inactive layout.objects.items
    ++ (flat_map (told_derived layout.objects.items layout.slots.items) layout.derived.items ++ told_assumed layout.assumed))

-- ---- words

-- a name is a word: each byte is above a blank, so that it has no blank and no line feed
abbrev pub is_word : List ℕ → Bool
is_word name = list_all (nat_lt 32) name

abbrev pub has_word : Object → Bool
has_word object = is_word (string_bytes object.name)

-- each number of a slot has at most 64 bits, and its rights are among the four
abbrev pub IsShortSlot : Slot → Type 0
IsShortSlot slot = (slot.index < 2 ^ 64) × (slot.badge < 2 ^ 64) × (slot.rights.0 ≤ all_rights.0) × (slot.guard.value < 2 ^ 64) × (slot.guard.size < 2 ^ 64)

-- the names of a layout are words, and its numbers those of a machine
pub record CanBeTold (layout : Layout) : Type 0 where
  pub names : list_all has_word layout.objects.items ≡ true
  pub bits : All (λ (object : Object). object.bits < 2 ^ 64) layout.objects.items
  pub slots : All IsShortSlot layout.slots.items

-- ---- what a listing does not tell

-- each object stands at the address of its name
abbrev pub AreAtTheirNames : (List ℕ → ℕ) → Layout → Type 0
AreAtTheirNames place layout = All (λ (object : Object). object.place ≡ place (string_bytes object.name)) layout.objects.items

-- an object without its address
abbrev pub told_object : Object → List ℕ × Kind × ℕ × Bool
told_object object = (string_bytes object.name, object.kind, object.bits, object.is_inactive)

-- a thread has no slot but the first
abbrev pub is_own_slot : Kind → Slot → Bool
is_own_slot Tcb slot = slot.index == 0
is_own_slot _ slot = true

-- a slot is one of an object, and of its capability there is an object
abbrev pub has_objects : Slot → Option Object → Option Object → Bool
has_objects slot (Some holder) (Some object) = is_own_slot holder.kind slot
has_objects slot _ _ = false

abbrev pub has_its_objects : List Object → Slot → Bool
has_its_objects objects slot = has_objects slot (slice_get objects slot.holder) (slice_get objects slot.object)

abbrev pub are_slots : Option Slot → Option Slot → Bool
are_slots (Some above) (Some below) = true
are_slots _ _ = false

-- a layout has all that its slots and its derivations name
pub record HasItsParts (layout : Layout) : Type 0 where
  pub slots : All (λ (slot : Slot). has_its_objects layout.objects.items slot ≡ true) layout.slots.items
  pub derived : All (λ (pair : ℕ × ℕ). are_slots (slice_get layout.slots.items pair.0) (slice_get layout.slots.items pair.1) ≡ true) layout.derived.items
