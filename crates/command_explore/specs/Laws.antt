-- What the laws of a report on every order say.
use Rattle.std.specs.Prelude.{◌≡◌, ◌<◌, ℕ, ◌+◌, true, false, [], length}
use Rattle.cap_core.specs.declared.profile.ProfileName.{ProfileName}
use Rattle.kernel_abstract.specs.Boot.{boot}
use Rattle.setup_format.specs.Views.{SetupView}
use Rattle.query_orders.specs.World.{World, start}
use Rattle.query_orders.specs.Orders.{orders}
use Rattle.query_orders.specs.Nodes.{layer}
use Rattle.query_orders.specs.Counts.{saturated, states_before}
use Rattle.command_explore.specs.Clients.{calls_of_each, first_clients}
use Rattle.command_explore.specs.Report.{exploration}

abbrev pub begins : ProfileName → SetupView → World
begins p setup = start (calls_of_each setup) (boot p setup.plan)

-- how many states there are with those of one call more
abbrev pub states_with_more : ProfileName → SetupView → ℕ → ℕ → ℕ
states_with_more p setup first n =
    saturated (saturated (states_before p (calls_of_each setup) (begins p setup) (first_clients setup first) n) + length (layer p (calls_of_each setup) (begins p setup) (first_clients setup first) n))

-- where not all orders are explored, the states of one call more are more than the limit leaves
abbrev pub EndsAtItsLimit : ProfileName → SetupView → ℕ → ℕ → Type 0
EndsAtItsLimit p setup first limit =
    (exploration p setup first limit).whole ≡ false → limit < states_with_more p setup first (exploration p setup first limit).calls

-- where all are explored, there is none of so many calls more, or of more than these
abbrev pub IsOnAllOrders : ProfileName → SetupView → ℕ → ℕ → Type 0
IsOnAllOrders p setup first limit =
    (exploration p setup first limit).whole ≡ true → (more : ℕ) → orders p (calls_of_each setup) (begins p setup) (first_clients setup first) ((exploration p setup first limit).calls + more) ≡ []
