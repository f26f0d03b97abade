use Rattle.query_orders.specs.declared.exploring.node.Node.{Node}
use Rattle.query_orders.proofs.Exploration.Explorations.{begins}
use Rattle.query_orders.proofs.exploring.exploration.first_node.Goals as goal

pub returns-clause-node : goal.returns-clause-node
returns-clause-node c p own A count =
    let node : Node = record { order = c.new.result; made = c.in_ok-vec.field-0; waits = c.new-2.result; words = c.new-3.result; weight = 1 } in
    begins p own node A c.args.clients count c.new.ensures (c.in_ok-vec.ensures.items_if_clones_equal (λ y same. same)) c.new-2.ensures.items
