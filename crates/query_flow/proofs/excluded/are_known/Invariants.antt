use Rattle.std.proofs.Common.{◌≡◌, true, take}
use Rattle.std.specs.List.{list_all}
use Rattle.query_flow.specs.Apart as spec
use Rattle.query_flow.proofs.excluded.are_known.Given as goal

abbrev pub invariant-loop-thread : goal.invariant-loop-thread
invariant-loop-thread l = list_all (spec.is_trusted_or_idle l.trusted l.bound.idle.items) (take l.thread-index l.quiet) ≡ true
