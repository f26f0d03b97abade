use Rattle.std.proofs.Common.{◌≡◌, true, length}
use Rattle.cap_core.specs.declared.capability.Cap.{Cap}
use Rattle.kernel_forest.specs.Forest.{preorder}
use Rattle.slot_core.specs.Places.{address_of}
use Rattle.kernel_delete.specs.Clear.{ended}
use Rattle.kernel_delete.specs.Revoke.{revoke}
use Rattle.kernel_delete.specs.Work.{named, IsClearable}
use Rattle.kernel_delete.proofs.deletion.revoke.Given as goal

abbrev pub invariant-loop-child : goal.invariant-loop-child
invariant-loop-child g l =
    record {
      clearable : IsClearable g.P.Profile.profile l.fn.chain.1 (preorder (g.S.CapStore.forest l.store));
      stands : revoke g.P.Profile.profile (address_of g.P.Profile.profile l.fn.slot) (g.S.CapStore.forest l.fn.store) ≡ revoke g.P.Profile.profile (address_of g.P.Profile.profile l.fn.slot) (g.S.CapStore.forest l.store);
      fewer : (c : Cap) → named (preorder (g.S.CapStore.forest l.store)) c ≡ true → named (preorder (g.S.CapStore.forest l.fn.store)) c ≡ true;
      told : g.F.Finalise.Ended (ended (g.S.CapStore.forest l.fn.store) (g.S.CapStore.forest l.store)) l.fn.rest l.rest;
      chain : l.chain ≡ l.fn.chain;
      memory : g.S.CapStore.memory_bits l.store ≡ g.S.CapStore.memory_bits l.fn.store;
    }

abbrev pub decreases-loop-child : goal.decreases-loop-child
decreases-loop-child g l = length (preorder (g.S.CapStore.forest l.store))
