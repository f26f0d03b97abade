use Rattle.std.proofs.Common.{◌≡◌, map}
use Rattle.std.specs.List.{range_with_len}
use Rattle.command_check.specs.Numbers.{client_numbers, numbers_in}
use Rattle.command_check.proofs.numbers.numbers_of_clients.Given as goal

abbrev pub invariant-loop-client : goal.invariant-loop-client
invariant-loop-client l = numbers_in l.lists.items ≡ map (λ client. client_numbers client 1 l.setup.calls) (range_with_len 0 l.client)
