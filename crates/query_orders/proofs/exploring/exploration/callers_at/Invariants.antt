use Rattle.query_orders.specs.Nodes.{own_calls}
use Rattle.query_orders.specs.Private.Progress.{AreCallers, only_callers}
use Rattle.query_orders.proofs.exploring.exploration.callers_at.Given as goal

abbrev pub invariant-loop-client : goal.invariant-loop-client
invariant-loop-client g l = AreCallers l.callers (only_callers (own_calls l.calls) l.node l.at l.client)
