use Rattle.std.proofs.Common.{◌≡◌, drop, take}
use Rattle.command_threads.specs.SharedRuns.{client_calls}
use Rattle.command_threads.proofs.client_calls.calls_of_client.Given as goal

abbrev pub invariant-loop-i : goal.invariant-loop-i
invariant-loop-i l = l.own.items ≡ client_calls l.client (take l.i (drop l.begin l.setup.calls))
