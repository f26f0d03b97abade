use Rattle.std.proofs.Common.{◌-◌, ℕ, ap, sym, ◌∙◌}
use Rattle.query_orders.specs.World.{start}
use Rattle.query_orders.specs.Nodes.{own_calls}
use Rattle.query_orders.specs.Explorations.{layers_from}
use Rattle.query_orders.proofs.Exploration.Explorations.{depth_goes_on, depth_ends, goes_less}
use Rattle.query_orders.proofs.exploring.exploration.explore.Goals as goal

pub loop-alloc-init : goal.loop-alloc-init
loop-alloc-init g c A r k = c.in_ok-explored.ensures A r k

pub loop-alloc-preserved : goal.loop-alloc-preserved
loop-alloc-preserved g c A r k =
    let p = g.P.Profile.profile in
    let own = own_calls c.args.calls.now in
    let before = c.loop-alloc.invariant A r k in
    let kernels = (before.1).0 in
    let depths = (before.1).1 in
    let now = c.in_ok-advance.ensures.progress A c.args.first.now r k before.0 kernels in (
      now.0,
      (
        now.1,
        ap (λ (n : ℕ). layers_from p own (start own A) c.args.first.now c.args.limit (c.args.count - n) n) c.in_ok-advance.ensures.calls
            ∙ sym (depth_goes_on p own A c.args.first.now c.args.limit c.args.count c.loop-alloc.explored c.goes_on.result (before.0).to c.goes_on.ensures c.loop-alloc-test.true)
            ∙ depths,
      ),
    )

pub loop-alloc-smaller : goal.loop-alloc-smaller
loop-alloc-smaller g c = goes_less c.args.limit c.args.count c.loop-alloc.explored c.goes_on.result _ c.goes_on.ensures c.loop-alloc-test.true c.in_ok-advance.ensures.calls

pub returns : goal.returns
returns g c A r k =
    let p = g.P.Profile.profile in
    let own = own_calls c.args.calls.now in
    let before = c.loop-alloc.invariant A r k in
    let depths = (before.1).1 in
    depth_ends p own A c.args.first.now c.args.limit c.args.count c.loop-alloc.explored c.goes_on.result (before.0).to c.goes_on.ensures c.loop-alloc-test.false depths
