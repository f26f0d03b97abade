-- The calls of a set-up by the clients that make them.
use Rattle.std.specs.Prelude.{ℕ, ◌==◌, List, map, filter, take}
use Rattle.kernel_abstract.specs.declared.call.Call.{Call}
use Rattle.setup_format.specs.Views.{CallView, SetupView}
use Rattle.query_orders.specs.Orders.{numbers_below}

-- the calls of a client, in order
abbrev pub calls_of_client : List CallView → ℕ → List Call
calls_of_client calls client = map (λ (c : CallView). c.call) (filter (λ (c : CallView). c.client == client) calls)

-- those of each client
abbrev pub calls_of_each : SetupView → List (List Call)
calls_of_each setup = map (calls_of_client setup.calls) (numbers_below setup.clients)

-- the clients of the first calls
abbrev pub first_clients : SetupView → ℕ → List ℕ
first_clients setup count = map (λ (c : CallView). c.client) (take count setup.calls)
