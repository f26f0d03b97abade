-- The proof of `move_in`: what a store is asked is answered by lemmas, since a search for it is long.
use Rattle.std.proofs.Common.{◌*◌}
use Rattle.cap_core.specs.Numbers.{slot_size}
use Rattle.kernel_abstract.proofs.Capabilities.PlacementSteps.{source_aligned, source_end, slot_aligned, slot_end, move_disjoint}
use Rattle.kernel_core.proofs.Capabilities.PlacedSlots.{source_full, slot_within, slot_empty, same_object, same_badge, put_elsewhere}
use Rattle.kernel_core.proofs.placements.move_in.Goals as goal

pub of_node-source-requires-clause-aligned : goal.of_node-source-requires-clause-aligned
of_node-source-requires-clause-aligned g c = source_aligned g.P.Profile.profile (g.S.CapStore.memory_bits c.args.store.now) (g.S.CapStore.forest c.args.store.now) c.requires.store c.args.placement c.requires.moved.ends

pub of_node-source-requires-clause-end : goal.of_node-source-requires-clause-end
of_node-source-requires-clause-end g c = source_end g.P.Profile.profile (g.S.CapStore.memory_bits c.args.store.now) (g.S.CapStore.forest c.args.store.now) c.requires.store c.args.placement c.requires.moved.ends

pub of_node-slot-requires-clause-aligned : goal.of_node-slot-requires-clause-aligned
of_node-slot-requires-clause-aligned g c = slot_aligned g.P.Profile.profile (g.S.CapStore.memory_bits c.args.store.now) (g.S.CapStore.forest c.args.store.now) c.requires.store c.args.placement c.requires.moved.ends

pub of_node-slot-requires-clause-end : goal.of_node-slot-requires-clause-end
of_node-slot-requires-clause-end g c = slot_end g.P.Profile.profile (g.S.CapStore.memory_bits c.args.store.now) (g.S.CapStore.forest c.args.store.now) c.requires.store c.args.placement c.requires.moved.ends

pub relocate-requires-clause-lawful : goal.relocate-requires-clause-lawful
relocate-requires-clause-lawful g c = c.requires.moved.ends.lawful (g.S.CapStore.memory_bits c.args.store.now) c.requires.store.lawful

pub relocate-requires-clause-disjoint : goal.relocate-requires-clause-disjoint
relocate-requires-clause-disjoint g c = move_disjoint g.P.Profile.profile (g.S.CapStore.memory_bits c.args.store.now) (g.S.CapStore.forest c.args.store.now) c.requires.store c.args.placement (c.of_node-source.result.place * slot_size g.P.Profile.profile) (c.of_node-slot.result.place * slot_size g.P.Profile.profile) c.of_node-source.ensures c.of_node-slot.ensures c.requires.moved

pub relocate-requires-clause-source : goal.relocate-requires-clause-source
relocate-requires-clause-source g c = source_full g.P.Profile.profile (g.S.CapStore.memory_bits c.args.store.now) (g.S.CapStore.forest c.args.store.now) c.args.placement (c.of_node-source.result.place * slot_size g.P.Profile.profile) (c.of_node-slot.result.place * slot_size g.P.Profile.profile) c.of_node-source.ensures c.of_node-slot.ensures c.requires.store c.requires.moved.ends

pub relocate-requires-clause-within : goal.relocate-requires-clause-within
relocate-requires-clause-within g c = slot_within g.P.Profile.profile (g.S.CapStore.memory_bits c.args.store.now) (g.S.CapStore.forest c.args.store.now) c.args.placement (c.of_node-source.result.place * slot_size g.P.Profile.profile) (c.of_node-slot.result.place * slot_size g.P.Profile.profile) c.of_node-source.ensures c.of_node-slot.ensures c.requires.store c.requires.moved.ends

pub relocate-requires-clause-empty : goal.relocate-requires-clause-empty
relocate-requires-clause-empty g c = slot_empty g.P.Profile.profile (g.S.CapStore.memory_bits c.args.store.now) (g.S.CapStore.forest c.args.store.now) c.args.placement (c.of_node-source.result.place * slot_size g.P.Profile.profile) (c.of_node-slot.result.place * slot_size g.P.Profile.profile) c.of_node-source.ensures c.of_node-slot.ensures c.requires.store c.requires.moved.ends

pub relocate-requires-clause-same : goal.relocate-requires-clause-same
relocate-requires-clause-same g c = same_object g.P.Profile.profile (g.S.CapStore.memory_bits c.args.store.now) (g.S.CapStore.forest c.args.store.now) c.args.placement (c.of_node-source.result.place * slot_size g.P.Profile.profile) (c.of_node-slot.result.place * slot_size g.P.Profile.profile) c.of_node-source.ensures c.of_node-slot.ensures c.requires.store c.requires.moved.ends

pub relocate-requires-clause-badge : goal.relocate-requires-clause-badge
relocate-requires-clause-badge g c = same_badge g.P.Profile.profile (g.S.CapStore.memory_bits c.args.store.now) (g.S.CapStore.forest c.args.store.now) c.args.placement (c.of_node-source.result.place * slot_size g.P.Profile.profile) (c.of_node-slot.result.place * slot_size g.P.Profile.profile) c.of_node-source.ensures c.of_node-slot.ensures c.requires.moved

pub returns-clause-forest : goal.returns-clause-forest
returns-clause-forest g c = put_elsewhere g.P.Profile.profile (g.S.CapStore.memory_bits c.args.store.now) (g.S.CapStore.forest c.args.store.now) c.args.placement (c.of_node-source.result.place * slot_size g.P.Profile.profile) (c.of_node-slot.result.place * slot_size g.P.Profile.profile) c.of_node-source.ensures c.of_node-slot.ensures (g.S.CapStore.forest c.relocate.new.self) c.relocate.ensures.forest

pub returns-clause-memory : goal.returns-clause-memory
returns-clause-memory g c = c.relocate.ensures.memory
