use Rattle.std.proofs.Common.{◌≡◌, ◌+◌, length}
use Rattle.kernel_forest.specs.Forest.{preorder}
use Rattle.slot_core.specs.Places.{address_of}
use Rattle.kernel_delete.specs.Clear.{ended}
use Rattle.kernel_delete.proofs.Midway.{Midway, weight}
use Rattle.kernel_delete.proofs.deletion.clear.Given as goal

abbrev pub invariant-loop-next : goal.invariant-loop-next
invariant-loop-next g l =
    record {
      midway : Midway g.P.Profile.profile (g.S.CapStore.forest l.fn.store) (g.S.CapStore.forest l.store) (address_of g.P.Profile.profile l.fn.slot) l.fn.chain.1 l.chain.0;
      told : g.F.Finalise.Ended (ended (g.S.CapStore.forest l.fn.store) (g.S.CapStore.forest l.store)) l.fn.rest l.rest;
      size : l.chain.1 ≡ l.fn.chain.1;
      memory : g.S.CapStore.memory_bits l.store ≡ g.S.CapStore.memory_bits l.fn.store;
    }

abbrev pub decreases-loop-next : goal.decreases-loop-next
decreases-loop-next g l = weight g.P.Profile.profile (preorder (g.S.CapStore.forest l.store)) + length l.chain.0
