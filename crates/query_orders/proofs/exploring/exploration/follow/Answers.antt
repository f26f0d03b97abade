use Rattle.std.proofs.Common.{◌≡◌, ◌∷◌, [], length, refl, sym, subst}
use Rattle.std.proofs.lemmas.List.{length-map}
use Rattle.query_orders.specs.World.{start}
use Rattle.query_orders.specs.Nodes.{own_calls}
use Rattle.query_orders.specs.Private.Progress.{only_callers}
use Rattle.query_orders.proofs.Exploration.OneOrder.{one_order_more, goes_less}
use Rattle.query_orders.proofs.exploring.exploration.follow.Goals as goal

pub loop-client-init : goal.loop-client-init
loop-client-init g c A first r one at = (one, at)

pub loop-client-preserved : goal.loop-client-preserved
loop-client-preserved g c A first r one at =
    let p = g.P.Profile.profile in
    let own = own_calls c.args.calls.now in
    let before = c.loop-client.invariant A first r one at in
    let client = c.in-Some.client in
    let made = c.in_ok-first_call.ensures.made (start own A) r (before.0).is before.1 in
    let only = subst (λ k. only_callers own c.loop-client.one.node c.loop-client.at k ≡ client ∷ []) (sym (length-map c.args.calls.now _)) c.in-Some.ensures.only in (
      one_order_more p own A first c.args.limit c.args.count c.loop-client.one.node c.in_ok-first_call.field-0 client c.loop-client.at c.loop-client.found c.first_call.new.found
          c.loop-client.one.states c.loop-client.one.calls before.0 before.1 only made.0 _ _ c.in_ok-first_call.ensures.weight c.in-Some.ensures.goes_on c.saturating_add.ensures refl,
      made.1,
    )

pub loop-client-smaller : goal.loop-client-smaller
loop-client-smaller g c = goes_less c.args.limit c.args.count c.loop-client.one.calls _ c.loop-client.one.states c.in-Some.ensures.goes_on refl

pub returns : goal.returns
returns g c A first r one at = c.loop-client.invariant A first r one at
