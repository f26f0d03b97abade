use Rattle.std.proofs.Common.{◌≡◌, map, take}
use Rattle.setup_format.specs.Views.{CallView}
use Rattle.command_explore.proofs.report.clients.first_clients.Given as goal

abbrev pub invariant-loop-i : goal.invariant-loop-i
invariant-loop-i l = l.first.items ≡ map (λ (c : CallView). c.client) (take l.i l.setup.calls)
