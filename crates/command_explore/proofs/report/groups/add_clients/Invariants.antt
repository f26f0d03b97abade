use Rattle.std.proofs.Common.{◌≡◌, ◌++◌, codes, filter, string_bytes}
use Rattle.std.specs.List.{flat_map}
use Rattle.std.specs.Fmt.{decimal}
use Rattle.query_orders.specs.Orders.{numbers_below}
use Rattle.query_orders.specs.Groups.{is_client_in}
use Rattle.command_explore.proofs.report.groups.add_clients.Given as goal

abbrev pub invariant-loop-client : goal.invariant-loop-client
invariant-loop-client l =
    string_bytes l.out ≡ string_bytes l.fn.out ++ flat_map (λ client. codes " " ++ decimal client) (filter (is_client_in l.groups l.group) (numbers_below l.client-counter))
