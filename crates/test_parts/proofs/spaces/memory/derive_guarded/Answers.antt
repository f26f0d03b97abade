use Rattle.slot_core.specs.Places.{address_of}
use Rattle.test_parts.specs.Memory.{node, in_root, with_node}
use Rattle.test_parts.proofs.MemoryTyped.{disjoint_same, guarded_typed}
use Rattle.test_parts.proofs.spaces.memory.derive_guarded.Goals as goal

pub derive-requires-clause-disjoint : goal.derive-requires-clause-disjoint
derive-requires-clause-disjoint g c =
    let p = g.P.Profile.profile in
    disjoint_same p (address_of p c.in_root.result) (in_root p 8) (address_of p c.in_root-2.result) (in_root p 9) c.node.result (node 5 3) (g.S.CapStore.forest c.args.store.now) (with_node p)
    c.in_root.ensures c.in_root-2.ensures c.node.ensures c.requires.forest (guarded_typed p).disjoint
