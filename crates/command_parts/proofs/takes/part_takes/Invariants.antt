use Rattle.std.proofs.Common.{◌≡◌, ◌++◌, map, take}
use Rattle.command_parts.specs.Takes.{takes, taking}
use Rattle.command_parts.proofs.takes.part_takes.Given as goal

abbrev pub invariant-loop-part : goal.invariant-loop-part
invariant-loop-part l = l.takes.items ≡ takes l.part_slots (take l.part-index l.parts)

abbrev pub invariant-loop-of : goal.invariant-loop-of
invariant-loop-of l = l.takes.items ≡ l.initial.takes.items ++ map (taking l.part) (take l.of-index l.of-items)
