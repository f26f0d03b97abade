use Rattle.std.proofs.Common.{◌≡◌, ◌==◌, false, take}
use Rattle.std.specs.List.{list_any}
use Rattle.query_reach.specs.declared.reached.Reached.{Reached}
use Rattle.command_audit.proofs.threads.reaches.Given as goal

abbrev pub invariant-loop-reached : goal.invariant-loop-reached
invariant-loop-reached l = list_any (λ (r : Reached). r.slot == l.slot) (take l.reached-index l.list) ≡ false
