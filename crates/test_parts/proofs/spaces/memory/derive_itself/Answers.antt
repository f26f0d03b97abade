use Rattle.slot_core.specs.Places.{address_of}
use Rattle.test_parts.specs.Memory.{node, in_root, in_node, with_copy}
use Rattle.test_parts.proofs.MemoryTyped.{disjoint_same, itself_typed}
use Rattle.test_parts.proofs.spaces.memory.derive_itself.Goals as goal

pub derive-requires-clause-disjoint : goal.derive-requires-clause-disjoint
derive-requires-clause-disjoint g c =
    let p = g.P.Profile.profile in
    disjoint_same p (address_of p c.in_root.result) (in_root p 8) (address_of p c.in_node.result) (in_node p 0) c.node.result (node 0 0) (g.S.CapStore.forest c.args.store.now) (with_copy p)
    c.in_root.ensures c.in_node.ensures c.node.ensures c.requires.forest (itself_typed p).disjoint
