use Rattle.std.proofs.Common.{◌≡◌, ◌++◌, ◌+◌, drop}
use Rattle.command_check.specs.Numbers.{client_numbers}
use Rattle.command_check.proofs.numbers.numbers_of_client.Given as goal

abbrev pub invariant-loop-i : goal.invariant-loop-i
invariant-loop-i l = l.own.items ++ client_numbers l.client (l.i + 1) (drop l.i l.setup.calls) ≡ client_numbers l.client 1 l.setup.calls
