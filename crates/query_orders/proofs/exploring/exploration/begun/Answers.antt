use Rattle.std.proofs.Common.{◌≡◌, ℕ, List, [], ◌∷◌, ◌++◌, refl, ap, sym, subst, ◌∙◌}
use Rattle.kernel_abstract.specs.Shown.{Shown}
use Rattle.kernel_abstract.specs.State.{shown}
use Rattle.query_orders.specs.World.{start, world_after}
use Rattle.query_orders.specs.declared.exploring.node.Node.{Node}
use Rattle.query_orders.specs.Nodes.{own_calls}
use Rattle.query_orders.specs.declared.exploring.exploration.Explored.{Explored}
use Rattle.query_orders.specs.Private.Kernels.{AreKernels}
use Rattle.query_orders.specs.Private.Tables.{with_node}
use Rattle.query_orders.proofs.Exploration.OneOrder.{one_order_none, one_order_progress}
use Rattle.query_orders.proofs.exploring.exploration.begun.Goals as goal

pub returns : goal.returns
returns g c A r k =
    let p = g.P.Profile.profile in
    let own = own_calls c.args.calls.now in
    let first = c.args.first.now in
    let limit = c.args.limit in
    let count = c.args.count in
    let way = c.in_ok-one.one.node in
    let e : Explored = record { layer = c.note.new.self; found = record { answers = c.follow.new.found; stuck = c.new-found.result.stuck; ends = c.new-found.result.ends; orders = c.new-found.result.orders; stuck_orders = c.new-found.result.stuck_orders }; states = c.in_ok-one.one.states; calls = c.in_ok-one.one.calls } in
    let begun = c.in_ok-begin.ensures A r (c.in_ok-at.ensures ∙ k) in
    let none = one_order_none p own A first limit count c.in_ok-begin.field-0 c.new-found.result.answers c.begin.new.found c.states_through.result begun.0 c.new-found.ensures.answers c.states_through.ensures in
    let followed = c.in_ok-one.ensures A first r none begun.1 in
    let one = followed.0 in
    let is = c.in_ok-node.ensures.node own (start own A) r (c.in_ok-shared.ensures (start own A) k) one.is followed.1 in
    let layer : c.note.new.self ≡ with_node [] c.in_ok-node.node = c.in_ok-note.ensures ∙ ap (λ l. with_node l c.in_ok-node.node) c.new-layer.ensures in
    let kernels = c.in_ok-push_back.ensures.items ∙ ap (λ (l : List Shown). l ++ c.in_ok-saved.saved ∷ []) c.requires ∙ ap (λ (v : Shown). v ∷ []) c.in_ok-saved.ensures in (
      one_order_progress p own A first limit count e way c.in_ok-node.node c.in_ok-one.one.states c.in_ok-one.one.calls one is c.in_ok-node.ensures.order c.in_ok-node.ensures.weight layer
          c.new-found.ensures.stuck c.new-found.ensures.ends c.new-found.ensures.orders c.new-found.ensures.stuck_orders refl refl,
      (
        subst (λ (l : List Node). AreKernels p own (start own A) c.push_back.new.self.items l) (sym layer)
            (subst (λ (l : List Shown). AreKernels p own (start own A) l (c.in_ok-node.node ∷ [])) (sym kernels) (followed.1 ∙ ap (λ (o : List ℕ). shown (world_after p own (start own A) o).kernel) (sym c.in_ok-node.ensures.order), tt)),
        one.goes_on,
      ),
    )
