use Rattle.std.proofs.Common.{◌<◌, ◌∷◌, ◌≡◌, ◌+◌, List, [], length, drop, ap, sym, subst, ◌∙◌, arith}
use Rattle.std.proofs.lemmas.List.{take_all, drop_more}
use Rattle.kernel_abstract.specs.Shown.{Shown}
use Rattle.query_orders.specs.contracts.answer.AnswerPartialEq.TheImpl as answer_eq
use Rattle.query_orders.specs.declared.exploring.node.Node.{Node}
use Rattle.query_orders.specs.Nodes.{own_calls, IsNode, node_orders}
use Rattle.query_orders.specs.Found.{IsExpanded}
use Rattle.query_orders.specs.Private.Kernels.{AreKernels}
use Rattle.query_orders.proofs.Exploration.Loops.{each_at}
use Rattle.query_orders.proofs.Exploration.Tables.{expanded_none, layer_more}
use Rattle.query_orders.proofs.Exploration.Kept.{kernel_taken}
use Rattle.query_orders.proofs.exploring.layers.next_layer.Goals as goal

pub loop-node-init : goal.loop-node-init
loop-node-init g c w r k zero all kernels =
    let p = g.P.Profile.profile in
    let own = own_calls c.args.calls.now in (
      subst (λ (l : List Node). IsExpanded p own w [] l answer_eq.ghosts.eq c.args.found.now c.args.found.now []) (sym c.new.ensures)
          (expanded_none p own w answer_eq.ghosts.eq [] c.args.found.now tt),
      (subst (λ (l : List Shown). AreKernels p own w l c.new.result) (sym c.new-2.ensures.items) tt, (kernels, c.in_ok-shared.ensures w k)),
    )

pub loop-node-preserved : goal.loop-node-preserved
loop-node-preserved g c w r k zero all kernels =
    let p = g.P.Profile.profile in
    let own = own_calls c.args.calls.now in
    let layer = c.args.layer.now in
    let i = c.loop-node.node-index in
    let x = c.node-item.result in
    let lt : i < length layer = omega arith in
    let one = each_at (IsNode p own w) layer i x lt c.node-item.is all in
    let before = c.loop-node.invariant w r k zero all kernels in
    let rest : drop i layer ≡ x ∷ drop (i + 1) layer = drop_more layer i x lt ∙ ap (λ (y : Node). y ∷ drop (i + 1) layer) (sym c.node-item.is) in
    let taken = kernel_taken p own w c.pop_front-first.result c.loop-node.kept.items c.pop_front-first.new.self.items x (drop (i + 1) layer)
    (subst (λ (l : List Node). AreKernels p own w c.loop-node.kept.items l) rest ((before.1).1).0) c.pop_front-first.ensures.items c.pop_front-first.ensures.rest in
    let shared = ((before.1).1).1 in
    let at = c.in_ok-at.ensures w r k zero taken.0 in (
      layer_more p own w answer_eq.ghosts.eq layer i x c.loop-node.next.layer c.expand.new.nodes.layer c.args.found.now c.loop-node.found c.expand.new.found lt c.node-item.is
          before.0 (c.in_ok-expand.ensures.expanded w r one at shared (before.0).are),
      (c.in_ok-expand.ensures.kernels w r one at (before.1).0, (taken.1, shared)),
    )

pub returns : goal.returns
returns g c w r k zero all kernels =
    let p = g.P.Profile.profile in
    let own = own_calls c.args.calls.now in
    let before = c.loop-node.invariant w r k zero all kernels in (
      subst (λ (l : List Node). IsExpanded p own w [] c.loop-node.next.layer answer_eq.ghosts.eq c.args.found.now c.loop-node.found (node_orders l))
          (take_all c.loop-node.node-index c.args.layer.now (omega arith)) before.0,
      (before.1).0,
    )
