use Rattle.std.proofs.Common.{◌≡◌, ◌==◌, filter, not, take}
use Rattle.command_parts.proofs.ways.others.Given as goal

abbrev pub invariant-loop-part : goal.invariant-loop-part
invariant-loop-part l = l.others.items ≡ filter (λ other. not (other == l.from)) (take l.part-index l.parts)
