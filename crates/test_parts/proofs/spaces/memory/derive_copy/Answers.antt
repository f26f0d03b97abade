use Rattle.slot_core.specs.Places.{address_of}
use Rattle.test_parts.specs.Memory.{endpoint, in_root, in_node, with_guarded}
use Rattle.test_parts.proofs.MemoryTyped.{disjoint_same, copy_typed}
use Rattle.test_parts.proofs.spaces.memory.derive_copy.Goals as goal

pub derive-requires-clause-disjoint : goal.derive-requires-clause-disjoint
derive-requires-clause-disjoint g c =
    let p = g.P.Profile.profile in
    disjoint_same p (address_of p c.in_root.result) (in_root p 4) (address_of p c.in_node.result) (in_node p 3) c.endpoint.result (endpoint) (g.S.CapStore.forest c.args.store.now) (with_guarded p)
    c.in_root.ensures c.in_node.ensures c.endpoint.ensures c.requires.forest (copy_typed p).disjoint
