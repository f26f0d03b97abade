-- The proof of `parts_below`: the loop's invariant.
use Rattle.std.proofs.Common.{◌≡◌, ℕ, ◌++◌, List, [], drop}
use Rattle.setup_report.specs.State.{rising}
use Rattle.command_parts.specs.Takes.{parts_below}
use Rattle.command_parts.proofs.takes.parts_below.Given as goal

abbrev pub invariant-loop-part_slot : goal.invariant-loop-part_slot
invariant-loop-part_slot l =
    (all : List ℕ) × ((l.slots.keys ≡ rising all) × (l.below.items ++ parts_below l.part all (drop l.part_slot-index l.part_slots) ≡ parts_below l.part [] l.part_slots))
