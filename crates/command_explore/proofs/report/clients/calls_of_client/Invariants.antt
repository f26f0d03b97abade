use Rattle.std.proofs.Common.{◌≡◌, ◌++◌, drop}
use Rattle.command_explore.specs.Clients.{calls_of_client}
use Rattle.command_explore.proofs.report.clients.calls_of_client.Given as goal

abbrev pub invariant-loop-i : goal.invariant-loop-i
invariant-loop-i l = l.own.items ++ calls_of_client (drop l.i l.setup.calls) l.client ≡ calls_of_client l.setup.calls l.client
