use Rattle.std.proofs.Common.{◌≡◌, ◌==◌, false, take}
use Rattle.std.specs.List.{list_any}
use Rattle.query_reach.specs.declared.held.Held.{Held}
use Rattle.command_audit.proofs.threads.holds.Given as goal

abbrev pub invariant-loop-held : goal.invariant-loop-held
invariant-loop-held l = list_any (λ (h : Held). h.slot == l.slot) (take l.held-index l.list) ≡ false
