use Rattle.std.proofs.Common.{◌≡◌, drop}
use Rattle.query_parts.specs.Listed as spec
use Rattle.query_parts.proofs.listed.part_at.Given as goal

abbrev pub invariant-loop-m : goal.invariant-loop-m
invariant-loop-m l = spec.part_at (drop l.m-index l.memory) l.address ≡ spec.part_at l.memory l.address
