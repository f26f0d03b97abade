-- The proof of `derive_in`: what a store is asked is answered by lemmas, since a search for it is long.
use Rattle.std.proofs.Common.{◌*◌, ◌∙◌}
use Rattle.cap_core.specs.Numbers.{slot_size}
use Rattle.kernel_abstract.proofs.Capabilities.PlacementSteps.{source_aligned, source_end, slot_aligned, slot_end, derive_disjoint, few_bits, free_untyped, free_lawful, used_up}
use Rattle.kernel_core.proofs.Capabilities.PlacedSlots.{source_full, slot_within, slot_empty, same_object, kept_badge, no_child, put}
use Rattle.kernel_core.proofs.placements.derive_in.Goals as goal

pub of_node-source-requires-clause-aligned : goal.of_node-source-requires-clause-aligned
of_node-source-requires-clause-aligned g c = source_aligned g.P.Profile.profile (g.S.CapStore.memory_bits c.args.store.now) (g.S.CapStore.forest c.args.store.now) c.requires.store c.args.placement c.requires.derivation.ends

pub of_node-source-requires-clause-end : goal.of_node-source-requires-clause-end
of_node-source-requires-clause-end g c = source_end g.P.Profile.profile (g.S.CapStore.memory_bits c.args.store.now) (g.S.CapStore.forest c.args.store.now) c.requires.store c.args.placement c.requires.derivation.ends

pub of_node-slot-requires-clause-aligned : goal.of_node-slot-requires-clause-aligned
of_node-slot-requires-clause-aligned g c = slot_aligned g.P.Profile.profile (g.S.CapStore.memory_bits c.args.store.now) (g.S.CapStore.forest c.args.store.now) c.requires.store c.args.placement c.requires.derivation.ends

pub of_node-slot-requires-clause-end : goal.of_node-slot-requires-clause-end
of_node-slot-requires-clause-end g c = slot_end g.P.Profile.profile (g.S.CapStore.memory_bits c.args.store.now) (g.S.CapStore.forest c.args.store.now) c.requires.store c.args.placement c.requires.derivation.ends

pub derive-requires-clause-lawful : goal.derive-requires-clause-lawful
derive-requires-clause-lawful g c = c.requires.derivation.ends.lawful (g.S.CapStore.memory_bits c.args.store.now) c.requires.store.lawful

pub derive-requires-clause-disjoint : goal.derive-requires-clause-disjoint
derive-requires-clause-disjoint g c = derive_disjoint g.P.Profile.profile (g.S.CapStore.memory_bits c.args.store.now) (g.S.CapStore.forest c.args.store.now) c.requires.store c.args.placement (c.of_node-source.result.place * slot_size g.P.Profile.profile) (c.of_node-slot.result.place * slot_size g.P.Profile.profile) c.of_node-source.ensures c.of_node-slot.ensures c.requires.derivation

pub overflow_shl-bits : goal.overflow_shl-bits
overflow_shl-bits g c = few_bits g.P.Profile.profile (g.S.CapStore.memory_bits c.args.store.now) (g.S.CapStore.forest c.args.store.now) c.requires.store c.args.placement (c.of_node-source.result.place * slot_size g.P.Profile.profile) (c.of_node-slot.result.place * slot_size g.P.Profile.profile) c.of_node-source.ensures c.of_node-slot.ensures c.requires.derivation c.in-Untyped.base c.in-Untyped.bits c.in-Untyped.free c.in-Untyped.is (g.S.CapStore.forest c.derive.new.self) c.derive.ensures.forest

pub set_free-requires-clause-untyped : goal.set_free-requires-clause-untyped
set_free-requires-clause-untyped g c = free_untyped g.P.Profile.profile (g.S.CapStore.memory_bits c.args.store.now) (g.S.CapStore.forest c.args.store.now) c.requires.store c.args.placement (c.of_node-source.result.place * slot_size g.P.Profile.profile) (c.of_node-slot.result.place * slot_size g.P.Profile.profile) c.of_node-source.ensures c.of_node-slot.ensures c.requires.derivation c.in-Untyped.base c.in-Untyped.bits c.in-Untyped.free c.in-Untyped.is (g.S.CapStore.forest c.derive.new.self) c.derive.ensures.forest

pub set_free-requires-clause-lawful : goal.set_free-requires-clause-lawful
set_free-requires-clause-lawful g c = free_lawful g.P.Profile.profile (g.S.CapStore.memory_bits c.args.store.now) (g.S.CapStore.forest c.args.store.now) c.requires.store c.args.placement (c.of_node-source.result.place * slot_size g.P.Profile.profile) (c.of_node-slot.result.place * slot_size g.P.Profile.profile) c.of_node-source.ensures c.of_node-slot.ensures c.requires.derivation c.in-Untyped.base c.in-Untyped.bits c.in-Untyped.free c.in-Untyped.is (g.S.CapStore.forest c.derive.new.self) c.derive.ensures.forest (g.S.CapStore.memory_bits c.derive.new.self) c.derive.ensures.memory

pub returns-in-Untyped-clause-forest : goal.returns-in-Untyped-clause-forest
returns-in-Untyped-clause-forest g c = used_up g.P.Profile.profile (g.S.CapStore.memory_bits c.args.store.now) (g.S.CapStore.forest c.args.store.now) c.requires.store c.args.placement (c.of_node-source.result.place * slot_size g.P.Profile.profile) (c.of_node-slot.result.place * slot_size g.P.Profile.profile) c.of_node-source.ensures c.of_node-slot.ensures c.requires.derivation c.in-Untyped.base c.in-Untyped.bits c.in-Untyped.free c.in-Untyped.is (g.S.CapStore.forest c.derive.new.self) c.derive.ensures.forest (g.S.CapStore.forest c.set_free.new.self) c.set_free.ensures.forest

pub derive-requires-clause-source : goal.derive-requires-clause-source
derive-requires-clause-source g c = source_full g.P.Profile.profile (g.S.CapStore.memory_bits c.args.store.now) (g.S.CapStore.forest c.args.store.now) c.args.placement (c.of_node-source.result.place * slot_size g.P.Profile.profile) (c.of_node-slot.result.place * slot_size g.P.Profile.profile) c.of_node-source.ensures c.of_node-slot.ensures c.requires.store c.requires.derivation.ends

pub derive-requires-clause-within : goal.derive-requires-clause-within
derive-requires-clause-within g c = slot_within g.P.Profile.profile (g.S.CapStore.memory_bits c.args.store.now) (g.S.CapStore.forest c.args.store.now) c.args.placement (c.of_node-source.result.place * slot_size g.P.Profile.profile) (c.of_node-slot.result.place * slot_size g.P.Profile.profile) c.of_node-source.ensures c.of_node-slot.ensures c.requires.store c.requires.derivation.ends

pub derive-requires-clause-empty : goal.derive-requires-clause-empty
derive-requires-clause-empty g c = slot_empty g.P.Profile.profile (g.S.CapStore.memory_bits c.args.store.now) (g.S.CapStore.forest c.args.store.now) c.args.placement (c.of_node-source.result.place * slot_size g.P.Profile.profile) (c.of_node-slot.result.place * slot_size g.P.Profile.profile) c.of_node-source.ensures c.of_node-slot.ensures c.requires.store c.requires.derivation.ends

pub derive-requires-clause-same : goal.derive-requires-clause-same
derive-requires-clause-same g c = same_object g.P.Profile.profile (g.S.CapStore.memory_bits c.args.store.now) (g.S.CapStore.forest c.args.store.now) c.args.placement (c.of_node-source.result.place * slot_size g.P.Profile.profile) (c.of_node-slot.result.place * slot_size g.P.Profile.profile) c.of_node-source.ensures c.of_node-slot.ensures c.requires.store c.requires.derivation.ends

pub derive-requires-clause-badge : goal.derive-requires-clause-badge
derive-requires-clause-badge g c = kept_badge g.P.Profile.profile (g.S.CapStore.memory_bits c.args.store.now) (g.S.CapStore.forest c.args.store.now) c.args.placement (c.of_node-source.result.place * slot_size g.P.Profile.profile) (c.of_node-slot.result.place * slot_size g.P.Profile.profile) c.of_node-source.ensures c.of_node-slot.ensures c.requires.derivation

pub derive-requires-clause-childless : goal.derive-requires-clause-childless
derive-requires-clause-childless g c = no_child g.P.Profile.profile (g.S.CapStore.memory_bits c.args.store.now) (g.S.CapStore.forest c.args.store.now) c.args.placement (c.of_node-source.result.place * slot_size g.P.Profile.profile) (c.of_node-slot.result.place * slot_size g.P.Profile.profile) c.of_node-source.ensures c.of_node-slot.ensures c.requires.derivation

pub returns-in-Untyped-clause-memory : goal.returns-in-Untyped-clause-memory
returns-in-Untyped-clause-memory g c = c.set_free.ensures.memory ∙ c.derive.ensures.memory

pub returns-in_default : goal.returns-in_default
returns-in_default g c = record { forest = put g.P.Profile.profile (g.S.CapStore.memory_bits c.args.store.now) (g.S.CapStore.forest c.args.store.now) c.args.placement (c.of_node-source.result.place * slot_size g.P.Profile.profile) (c.of_node-slot.result.place * slot_size g.P.Profile.profile) c.of_node-source.ensures c.of_node-slot.ensures (g.S.CapStore.forest c.derive.new.self) c.derive.ensures.forest c.in_default.not-Untyped; memory = c.derive.ensures.memory }
