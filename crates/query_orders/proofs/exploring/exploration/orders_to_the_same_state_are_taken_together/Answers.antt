use Rattle.query_orders.proofs.Exploration.Steps.{alike_from, alike_to}
use Rattle.query_orders.proofs.exploring.exploration.orders_to_the_same_state_are_taken_together.Goals as goal

pub returns : goal.returns
returns c = λ p own w order order' reached. (
  λ h. (let a = alike_from p own w reached order order' h in record { made = a.made; waits = a.waits; shows = a.shows }),
  λ s. alike_to p own w reached order order' (record { made = s.made; waits = s.waits; shows = s.shows }),
)
