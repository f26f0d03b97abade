use Rattle.std.proofs.Common.{◌<◌, List, ℕ, length, take, get_or, refl, ap, sym, ◌∙◌, arith}
use Rattle.std.proofs.lemmas.List.{take_all}
use Rattle.kernel_abstract.specs.State.{shown}
use Rattle.query_orders.specs.World.{World, world_after}
use Rattle.query_orders.specs.Nodes.{own_calls}
use Rattle.query_orders.proofs.Exploration.Steps.{world_reached}
use Rattle.query_orders.proofs.Exploration.Replays.{after_more}
use Rattle.query_orders.proofs.exploring.kernels.kernel_after.Goals as goal

pub loop-i-init : goal.loop-i-init
loop-i-init g c w r at zero = (c.in_ok-at.ensures ∙ at, c.in_ok-made.ensures.items_if_clones_equal (λ y same. same) ∙ sym zero)

pub loop-i-preserved : goal.loop-i-preserved
loop-i-preserved g c w r at zero =
    let p = g.P.Profile.profile in
    let own = own_calls c.args.calls.now in
    let order = c.args.order.now in
    let i = c.loop-i.i in
    let client = get_or order i 0 in
    let lt : i < length order = omega arith in
    let before = c.loop-i.invariant w r at zero in
    let now = c.make_next.ensures (world_after p own w (take i order)) (world_reached p own w (take i order) r) before.0 before.1 in
    let after = after_more p own w order i client lt refl in (
      now.0 ∙ sym (ap (λ (v : World). shown v.kernel) after),
      now.1 ∙ sym (ap (λ (v : World). v.made) after),
    )

pub returns : goal.returns
returns g c w r at zero =
    let p = g.P.Profile.profile in
    let own = own_calls c.args.calls.now in
    (c.loop-i.invariant w r at zero).0 ∙ ap (λ (l : List ℕ). shown (world_after p own w l).kernel) (take_all c.loop-i.i c.args.order.now (omega arith))
