use Rattle.std.proofs.Common.{◌<◌, List, ℕ, length, get_or, refl, ap, sym, subst, ◌∙◌, arith}
use Rattle.std.proofs.lemmas.List.{length-map, take_all}
use Rattle.kernel_abstract.specs.State.{shown}
use Rattle.query_orders.specs.World.{start, world_after}
use Rattle.query_orders.specs.contracts.answer.AnswerPartialEq.TheImpl as answer_eq
use Rattle.query_orders.specs.Nodes.{own_calls}
use Rattle.query_orders.specs.Explorations.{IsBegun}
use Rattle.query_orders.proofs.Exploration.Explorations.{begun_none, begun_more}
use Rattle.query_orders.proofs.exploring.exploration.begin.Goals as goal

pub loop-i-init : goal.loop-i-init
loop-i-init g c A r k =
    let p = g.P.Profile.profile in
    let own = own_calls c.args.calls.now in (
      begun_none p own A c.args.first.now answer_eq.ghosts.eq c.in_ok-node.node c.args.found.now (c.in_ok-node.ensures.node p own A (length-map c.args.calls.now _)) c.in_ok-node.ensures.order c.in_ok-node.ensures.weight,
      k ∙ sym (ap (λ (o : List ℕ). shown (world_after p own (start own A) o).kernel) c.in_ok-node.ensures.order),
    )

pub loop-i-preserved : goal.loop-i-preserved
loop-i-preserved g c A r k =
    let p = g.P.Profile.profile in
    let own = own_calls c.args.calls.now in
    let before = c.loop-i.invariant A r k in
    let so_far = before.0 in
    let step = c.in_ok-node-2.ensures.made (start own A) r so_far.is before.1 in
    let lt : c.loop-i.i < length c.args.first.now = omega arith in (
      begun_more p own A c.args.first.now answer_eq.ghosts.eq c.loop-i.i (get_or c.args.first.now c.loop-i.i 0) c.loop-i.node c.in_ok-node-2.node c.args.found.now c.loop-i.found c.first_call.new.found
          lt refl so_far step.0 c.in_ok-node-2.ensures.weight,
      step.1,
    )

pub returns : goal.returns
returns g c A r k =
    let p = g.P.Profile.profile in
    let own = own_calls c.args.calls.now in
    let all = c.loop-i.invariant A r k in (
      subst (λ (l : List ℕ). IsBegun p own A l c.loop-i.node answer_eq.ghosts.eq c.args.found.now c.loop-i.found)
          (take_all c.loop-i.i c.args.first.now (omega arith)) all.0,
      all.1,
    )
