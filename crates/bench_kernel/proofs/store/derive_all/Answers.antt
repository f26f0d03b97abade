use Rattle.std.proofs.Common.{◌+◌, suc, inr, ap, arith}
use Rattle.cap_core.specs.Objects.{badge_of}
use Rattle.kernel_forest.specs.Derivation.{names_same}
use Rattle.bench_kernel.specs.Cycle.{bench_endpoint}
use Rattle.bench_kernel.proofs.Family.{first_full, next_empty, first_holds, family_typed}
use Rattle.bench_kernel.proofs.store.derive_all.Goals as goal

pub derive-requires-clause-source : goal.derive-requires-clause-source
derive-requires-clause-source g c = rw (c.requires.source, c.loop-i.invariant.forest) (first_full c.loop-i.i)

pub derive-requires-clause-empty : goal.derive-requires-clause-empty
derive-requires-clause-empty g c = rw (c.slot.ensures, c.loop-i.invariant.forest) (next_empty c.loop-i.i (c.loop-i.i + 2) (omega arith))

pub derive-requires-clause-same : goal.derive-requires-clause-same
derive-requires-clause-same g c = rw (c.requires.source, c.loop-i.invariant.forest, c.requires.cap) (ap (λ held. names_same held (bench_endpoint 5)) (first_holds c.loop-i.i))

pub derive-requires-clause-badge : goal.derive-requires-clause-badge
derive-requires-clause-badge g c = rw (c.requires.source, c.loop-i.invariant.forest) (inr (ap badge_of (first_holds c.loop-i.i)))

pub derive-requires-clause-disjoint : goal.derive-requires-clause-disjoint
derive-requires-clause-disjoint g c = rw (c.requires.source, c.slot.ensures, c.loop-i.invariant.forest, c.requires.cap) (family_typed (suc c.loop-i.i)).disjoint
