use Rattle.std.proofs.Common.{[], List, replicate, ap, sym, subst, refl}
use Rattle.std.proofs.lemmas.List.{length-map}
use Rattle.query_orders.specs.World.{start}
use Rattle.query_orders.specs.contracts.answer.AnswerPartialEq.TheImpl as answer_eq
use Rattle.query_orders.specs.declared.exploring.node.Node.{Node}
use Rattle.query_orders.specs.Nodes.{own_calls, AreNodes, node_orders}
use Rattle.query_orders.specs.Found.{IsExpanded}
use Rattle.query_orders.specs.Private.Kernels.{AreKernels}
use Rattle.query_orders.proofs.Exploration.Explorations.{progress_more}
use Rattle.query_orders.proofs.exploring.exploration.advance.Goals as goal

pub returns-clause-progress : goal.returns-clause-progress
returns-clause-progress g c A first r k before kernels =
    let p = g.P.Profile.profile in
    let own = own_calls c.args.calls.now in
    let w = start own A in
    let is = c.nodes-nodes.ensures in
    let now = c.in_ok-next.ensures w r k (ap (λ n. replicate n 0) (length-map c.args.calls.now _)) (subst (AreNodes p own w) (sym is) before.are) (subst (λ (l : List Node). AreKernels p own w c.args.kept.now.items l) (sym is) kernels) in (
      progress_more p own A first r c.args.explored.now _ before
          (subst (λ (l : List Node). IsExpanded p own w [] c.in_ok-next.next.layer answer_eq.ghosts.eq c.args.explored.now.found c.next_layer.new.found (node_orders l)) is now.0) c.states_after-states.ensures refl,
      now.1,
    )
