-- These serve the proofs of private functions, no public contract cites them: the root of a thread's capability space.
use Rattle.std.specs.Prelude.{cond, ◌&&◌}
use Rattle.kernel_forest.specs.Forest.{Forest}
use Rattle.kernel_forest.specs.Entries.{Entry, is_full}
use Rattle.kernel_forest.specs.Derivation.{derived}
use Rattle.kernel_abstract.specs.declared.invocation.NewSpace.{NewSpace}
use Rattle.kernel_abstract.specs.declared.invocation.CapPlacement.{CapPlacement}

-- the capability that is derived into a thread's root slot
abbrev pub space_placement : NewSpace → CapPlacement
space_placement new = record { source = new.source; slot = new.tcb; cap = new.cap }

-- so it is if both slots are full
abbrev pub with_root : NewSpace → Forest Entry → Forest Entry
with_root new f = cond (is_full new.source f && is_full new.invoked f) (derived new.source new.tcb new.cap f) f
