-- Which parts may take slots from which: a revoke clears what stands below a slot, whoever has it.
use Rattle.std.specs.Prelude.{ℕ, Bool, false, not, cond, ◌==◌, ◌||◌, List, [], ◌∷◌, ◌++◌, map, filter, Option, Some, None}
use Rattle.std.specs.List.{flat_map}
use Rattle.kernel_forest.specs.Forest.{Forest}
use Rattle.kernel_forest.specs.Entries.{Entry, derivations_of}
use Rattle.query_parts.specs.declared.listed.PartMemory.{PartMemory}
use Rattle.query_parts.specs.Listed.{part_at}
use Rattle.setup_report.specs.State.{is_in, rising}
use Rattle.command_parts.specs.declared.takes.PartSlot.{PartSlot}
use Rattle.command_parts.specs.declared.takes.Take.{Take}

-- a full slot, with what it holds, the slot that it stands right below, and the part in which it lies
abbrev pub part_slot : List PartMemory → Entry × Option ℕ → PartSlot
part_slot memory d = record { slot = d.0.slot; cap = d.0.cap; above = d.1; part = part_at memory d.0.slot }

-- the full slots of a forest, each before those below it
abbrev pub part_slots : List PartMemory → Forest Entry → List PartSlot
part_slots memory f = map (part_slot memory) (derivations_of f)

-- it stands right below one of some slots
abbrev pub is_beneath : List ℕ → Option ℕ → Bool
is_beneath above None = false
is_beneath above (Some slot) = is_in slot above

-- a part is the one with a number
abbrev pub is_part : ℕ → Option ℕ → Bool
is_part part None = false
is_part part (Some i) = i == part

-- the number of a part, if there is one
abbrev pub part_or_none : Option ℕ → List ℕ
part_or_none None = []
part_or_none (Some part) = part ∷ []

-- the part of a slot that stands below one of some
abbrev pub part_below : List ℕ → PartSlot → List ℕ
part_below above s = cond (is_beneath above s.above) (part_or_none s.part) []

-- the slots that are of a part or stand below one that is, with one slot more
abbrev pub with_slot : ℕ → List ℕ → PartSlot → List ℕ
with_slot part above s = cond (is_beneath above s.above || is_part part s.part) (s.slot ∷ above) above

-- the parts of the slots below those of a part, behind some that are of the part or stand below one that is
abbrev pub parts_below : ℕ → List ℕ → List PartSlot → List ℕ
parts_below part above [] = []
parts_below part above (s ∷ rest) = part_below above s ++ parts_below part (with_slot part above s) rest

-- the other parts that have a slot below one of a part, rising
abbrev pub taken_by : List PartSlot → ℕ → List ℕ
taken_by list part = filter (λ other. not (other == part)) (rising (parts_below part [] list))

abbrev pub taking : ℕ → ℕ → Take
taking by of = record { by = by; of = of }

-- of each of some parts, the parts from which it may take slots
abbrev pub takes : List PartSlot → List ℕ → List Take
takes list parts = flat_map (λ part. map (taking part) (taken_by list part)) parts
