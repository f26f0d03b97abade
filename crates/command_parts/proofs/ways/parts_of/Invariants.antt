use Rattle.std.proofs.Common.{◌≡◌, map, take}
use Rattle.command_parts.proofs.ways.parts_of.Given as goal

abbrev pub invariant-loop-stretch : goal.invariant-loop-stretch
invariant-loop-stretch l = l.parts.items ≡ map (λ m. m.part) (take l.stretch-index l.memory)
