use Rattle.std.proofs.Common.{◌≡◌, ◌∙◌, ℕ, length, subst, refl, arith}
use Rattle.query_orders.specs.World.{can_be_made, next_client_call}
use Rattle.query_orders.specs.Nodes.{own_calls}
use Rattle.query_orders.specs.Private.Progress.{AreCallers, only_callers}
use Rattle.query_orders.proofs.Exploration.OneOrder.{callers_more}
use Rattle.query_orders.proofs.exploring.exploration.callers_at.Goals as goal

pub loop-client-init : goal.loop-client-init
loop-client-init g c = refl

pub loop-client-preserved : goal.loop-client-preserved
loop-client-preserved g c =
    callers_more (λ client. can_be_made c.args.at.now (next_client_call (own_calls c.args.calls.now) c.args.node.now.made.items client)) c.loop-client.callers c.with_caller-callers.result c.loop-client.client c.is_some-may.result
    c.with_caller-callers.ensures (c.is_some-may.ensures ∙ c.callable.ensures.may) c.loop-client.invariant

pub returns : goal.returns
returns g c =
    let all : c.loop-client.client ≡ length c.args.calls.now = omega arith in
    subst (λ (k : ℕ). AreCallers c.loop-client.callers (only_callers (own_calls c.args.calls.now) c.args.node.now c.args.at.now k)) all c.loop-client.invariant
