-- What it means that no line lets a part take slots from another.
use Rattle.std.specs.Prelude.{◌≡◌, ℕ, false, List}
use Rattle.kernel_forest.specs.Forest.{Forest}
use Rattle.kernel_forest.specs.Entries.{Entry}
use Rattle.query_parts.specs.declared.listed.PartMemory.{PartMemory}
use Rattle.query_parts.specs.declared.listed.PartUse.{PartUse}
use Rattle.query_parts.specs.Listed.{parts_listed}
use Rattle.query_parts.specs.Below.{StandsNoneBelow}
use Rattle.setup_report.specs.State.{is_in}
use Rattle.command_parts.specs.Takes.{part_slots, taken_by}

-- if no line says that the one part may take slots from the other, no full slot of the other is below one of its own
abbrev pub TakesNone : List PartMemory → List PartUse → Forest Entry → ℕ → ℕ → Type 0
TakesNone memory uses f i j =
    (i ≡ j → ⊥) → is_in j (taken_by (part_slots memory f) i) ≡ false → StandsNoneBelow (parts_listed memory uses) i j f
