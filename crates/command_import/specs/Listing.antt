-- What was read of a layout, in its own names: a line for what each slot holds, for each thread that makes no calls, for each slot that
-- is derived from another one, and for rights that were assumed.
use Rattle.std.specs.Prelude.{ℕ, Bool, true, codes, List, [], ◌++◌, Option, Some, None, slice_get, string_bytes}
use Rattle.std.specs.Fmt.{decimal}
use Rattle.std.specs.List.{flat_map}
use Rattle.cap_core.specs.declared.capability.Kind.{Kind}
use Rattle.cap_core.specs.declared.capability.Kind.TheVariants.{Untyped, Endpoint, CNode, Tcb}
use Rattle.setup_report.specs.Text.{rights_text}
use Rattle.setup_layout.specs.declared.layout.AssumedRights.{AssumedRights}
use Rattle.setup_layout.specs.declared.layout.AssumedRights.TheVariants.{NoRights, AllRights, LeastRights}
use Rattle.setup_layout.specs.declared.layout.Layout.{Layout}
use Rattle.setup_layout.specs.declared.layout.Object.{Object}
use Rattle.setup_layout.specs.declared.layout.Slot.{Slot}

-- the slot: that of a thread is the one in which its space begins
abbrev pub listed_place : Kind → Object → Slot → List ℕ
listed_place Tcb holder slot = string_bytes holder.name ++ codes ".cspace"
listed_place _ holder slot = string_bytes holder.name ++ (codes "[" ++ (decimal slot.index ++ codes "]"))

-- its capability: the object, with the badge and the rights, or with the guard
abbrev pub held_of : Kind → Object → Slot → List ℕ
held_of Untyped object slot = codes " untyped " ++ (string_bytes object.name ++ (codes " bits " ++ (decimal object.bits ++ codes "\n")))
held_of Endpoint object slot =
    codes " endpoint " ++ (string_bytes object.name ++ (codes " badge " ++ (decimal slot.badge ++ (codes " rights " ++ (rights_text slot.rights ++ codes "\n")))))
held_of CNode object slot =
    codes " cnode " ++ (string_bytes object.name ++ (codes " radix " ++ (decimal object.bits ++ (codes " guard " ++ (decimal slot.guard.value
    ++ (codes " size " ++ (decimal slot.guard.size ++ codes "\n")))))))
held_of Tcb object slot = codes " tcb " ++ (string_bytes object.name ++ codes "\n")

abbrev pub line_of : List ℕ → Option Object → Option Object → Slot → List ℕ
line_of prefix (Some holder) (Some object) slot = prefix ++ (listed_place holder.kind holder slot ++ held_of object.kind object slot)
line_of prefix _ _ slot = []

-- the line of a slot, behind a prefix
abbrev pub listing_line : List ℕ → List Object → Slot → List ℕ
listing_line prefix objects slot = line_of prefix (slice_get objects slot.holder) (slice_get objects slot.object) slot

abbrev pub inactive_of : Kind → Bool → List ℕ → Object → List ℕ
inactive_of Tcb true prefix object = prefix ++ (string_bytes object.name ++ codes " inactive\n")
inactive_of _ _ prefix object = []

-- the line of a thread that makes no calls, behind a prefix
abbrev pub inactive_line : List ℕ → Object → List ℕ
inactive_line prefix object = inactive_of object.kind object.is_inactive prefix object

abbrev pub holder_place : Option Object → Slot → List ℕ
holder_place None slot = []
holder_place (Some holder) slot = listed_place holder.kind holder slot

abbrev pub below_line : List ℕ → List Object → Option Slot → Option Slot → List ℕ
below_line prefix objects (Some above) (Some below) =
    prefix ++ (holder_place (slice_get objects below.holder) below
    ++ (codes " below " ++ (holder_place (slice_get objects above.holder) above ++ codes "\n")))
below_line prefix objects _ _ = []

-- the line of two slots of which the second is derived from the first, behind a prefix
abbrev pub pair_line : List ℕ → List Object → List Slot → ℕ × ℕ → List ℕ
pair_line prefix objects slots pair = below_line prefix objects (slice_get slots pair.0) (slice_get slots pair.1)

-- the line that says which rights capabilities have of which the layout says none, behind a prefix
abbrev pub assumed_line : AssumedRights → List ℕ → List ℕ
assumed_line NoRights prefix = []
assumed_line AllRights prefix = prefix ++ codes "assumed rights all\n"
assumed_line LeastRights prefix = prefix ++ codes "assumed rights least\n"

-- the lines of all slots, of all such threads, of all such slots, and of such rights
abbrev pub listing_lines : List ℕ → Layout → List ℕ
listing_lines prefix layout =
    flat_map (listing_line prefix layout.objects.items) layout.slots.items
    ++ (flat_map (inactive_line prefix) layout.objects.items
    ++ (flat_map (pair_line prefix layout.objects.items layout.slots.items) layout.derived.items ++ assumed_line layout.assumed prefix))
