-- Of a layout whose names are words and whose numbers are short, each line is.
use Rattle.std.proofs.Common.{◌≡◌, ℕ, ◌<◌, ◌^◌, ◌&&◌, Bool, true, false, List, [], ◌∷◌, ◌++◌, Option, Some, None, option_map, string_bytes, All, refl}
use Rattle.std.specs.Prelude.{slice_get}
use Rattle.std.specs.List.{AllByRecursion as Each, flat_map, list_all}
use Rattle.std.proofs.lemmas.List.Elements.{All-from_recursion, recursion_from_All}
use Rattle.cap_core.specs.declared.capability.Kind.{Kind}
use Rattle.cap_core.specs.declared.capability.Kind.TheVariants.{Untyped, Endpoint, CNode, Tcb}
use Rattle.setup_layout.specs.declared.layout.AssumedRights.{AssumedRights}
use Rattle.setup_layout.specs.declared.layout.AssumedRights.TheVariants.{NoRights, AllRights, LeastRights}
use Rattle.setup_layout.specs.declared.layout.Layout.{Layout}
use Rattle.setup_layout.specs.declared.layout.Object.{Object}
use Rattle.setup_layout.specs.declared.layout.Slot.{Slot}
use Rattle.command_import.specs.Told.{ToldPlace, told_number, told_place, told_held, told_of_slot, told_slot, told_state, told_inactive, told_pair, told_derived, told_assumed, listing_tells, has_word, IsShortSlot, CanBeTold}
use Rattle.command_import.proofs.Lists.{each_both, each_where, found}
use Rattle.command_import.proofs.Told.{IsShortPlace, IsPlaceOrNone, IsWellNamed}

abbrev IsShortObject : Object → Type 0
IsShortObject object = (has_word object ≡ true) × (object.bits < 2 ^ 64)

abbrev ShortObjectOrNone : Option Object → Type 0
ShortObjectOrNone None = Unit {0}
ShortObjectOrNone (Some object) = IsShortObject object

abbrev ShortSlotOrNone : Option Slot → Type 0
ShortSlotOrNone None = Unit {0}
ShortSlotOrNone (Some slot) = IsShortSlot slot

place_short : (kind : Kind) (holder : Object) (slot : Slot) → IsShortObject holder → IsShortSlot slot → IsShortPlace (string_bytes holder.name, told_number kind slot)
place_short Untyped holder slot h k = (h.0, k.0)
place_short Endpoint holder slot h k = (h.0, k.0)
place_short CNode holder slot h k = (h.0, k.0)
place_short Tcb holder slot h k = h.0

held_named : (kind : Kind) (place : ToldPlace) (object : Object) (slot : Slot) → IsShortPlace place → IsShortObject object → IsShortSlot slot → IsWellNamed (told_held kind place object slot)
held_named Untyped place object slot h o k = (h, o.0, o.1)
held_named Endpoint place object slot h o k = (h, o.0, k.1, k.2)
held_named CNode place object slot h o k = (h, o.0, o.1, k.3, k.4)
held_named Tcb place object slot h o k = (h, o.0)

slot_named : (slot : Slot) (holder object : Option Object) → ShortObjectOrNone holder → ShortObjectOrNone object → IsShortSlot slot → Each IsWellNamed (told_of_slot slot holder object)
slot_named slot (Some holder) (Some object) h o k =
    (held_named object.kind (told_place slot holder) object slot (place_short holder.kind holder slot h k) o k, tt)
slot_named slot (Some holder) None h o k = tt
slot_named slot None (Some object) h o k = tt
slot_named slot None None h o k = tt

state_named : (kind : Kind) (is : Bool) (object : Object) → IsShortObject object → Each IsWellNamed (told_state kind is object)
state_named Tcb true object h = (h.0, tt)
state_named _ _ object h = tt

either_named : (slot : Slot) (holder : Option Object) → ShortObjectOrNone holder → IsShortSlot slot → IsPlaceOrNone (option_map (told_place slot) holder)
either_named slot None h k = tt
either_named slot (Some holder) h k = place_short holder.kind holder slot h k

object_short : (objects : List Object) (n : ℕ) → All IsShortObject objects → ShortObjectOrNone (slice_get objects n)
object_short objects n h =
    elim (slice_get objects n) as (λ o. slice_get objects n ≡ o → ShortObjectOrNone o) [
      | None ↦ λ e. tt
      | Some object ↦ λ e. found IsShortObject objects n object h e
    ] refl

slot_short : (slots : List Slot) (n : ℕ) → All IsShortSlot slots → ShortSlotOrNone (slice_get slots n)
slot_short slots n h =
    elim (slice_get slots n) as (λ o. slice_get slots n ≡ o → ShortSlotOrNone o) [
      | None ↦ λ e. tt
      | Some slot ↦ λ e. found IsShortSlot slots n slot h e
    ] refl

pair_named : (objects : List Object) (above below : Option Slot) → All IsShortObject objects → ShortSlotOrNone above → ShortSlotOrNone below → Each IsWellNamed (told_pair objects above below)
pair_named objects (Some above) (Some below) h a b =
    ((either_named below (slice_get objects below.holder) (object_short objects below.holder h) b, either_named above (slice_get objects above.holder) (object_short objects above.holder h) a), tt)
pair_named objects (Some above) None h a b = tt
pair_named objects None (Some below) h a b = tt
pair_named objects None None h a b = tt

-- both tests of objects
both_short : (objects : List Object) → list_all has_word objects ≡ true → Each (λ (object : Object). object.bits < 2 ^ 64) objects → Each IsShortObject objects
both_short [] h k = tt
both_short (object ∷ objects) h k =
    elim (has_word object) as (λ b. has_word object ≡ b → (b && list_all has_word objects) ≡ true → Each IsShortObject (object ∷ objects)) [
      | true ↦ λ e t. ((e, k.0), both_short objects t k.1)
      | false ↦ λ e t. absurd cc
    ] refl h

abbrev Nothing : ℕ × ℕ → Type 0
Nothing pair = Unit {0}

each_nothing : (pairs : List (ℕ × ℕ)) → Each Nothing pairs
each_nothing [] = tt
each_nothing (pair ∷ pairs) = (tt, each_nothing pairs)

assumed_named : (assumed : AssumedRights) → Each IsWellNamed (told_assumed assumed)
assumed_named NoRights = tt
assumed_named AllRights = (tt, tt)
assumed_named LeastRights = (tt, tt)

pub well_named : (layout : Layout) → CanBeTold layout → Each IsWellNamed (listing_tells layout)
well_named layout can =
    let objects = layout.objects.items in
    let slots = layout.slots.items in
    let each = both_short objects can.names (recursion_from_All (λ (object : Object). object.bits < 2 ^ 64) objects can.bits) in
    let all : All IsShortObject objects = All-from_recursion IsShortObject objects each in
    let pairs = flat_map (told_derived objects slots) layout.derived.items in
    each_both IsWellNamed (flat_map (told_slot objects) slots) (flat_map told_inactive objects ++ (pairs ++ told_assumed layout.assumed))
    (each_where IsShortSlot IsWellNamed (told_slot objects)
    (λ slot short. slot_named slot (slice_get objects slot.holder) (slice_get objects slot.object) (object_short objects slot.holder all) (object_short objects slot.object all) short)
    slots (recursion_from_All IsShortSlot slots can.slots))
    (each_both IsWellNamed (flat_map told_inactive objects) (pairs ++ told_assumed layout.assumed)
    (each_where IsShortObject IsWellNamed told_inactive (λ object short. state_named object.kind object.is_inactive object short) objects each)
    (each_both IsWellNamed pairs (told_assumed layout.assumed)
    (each_where Nothing IsWellNamed (told_derived objects slots)
    (λ pair nothing. pair_named objects (slice_get slots pair.0) (slice_get slots pair.1) all (slot_short slots pair.0 can.slots) (slot_short slots pair.1 can.slots))
    layout.derived.items (each_nothing layout.derived.items))
    (assumed_named layout.assumed)))
