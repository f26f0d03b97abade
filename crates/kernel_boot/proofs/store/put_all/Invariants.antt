-- The proof of `put_all`: what holds at each turn of its loop.
use Rattle.std.proofs.Common.{◌≡◌, ◌+◌, drop}
use Rattle.kernel_forest.specs.Forest.{none}
use Rattle.kernel_abstract.specs.Boot.{boot_caps, with_roots}
use Rattle.kernel_abstract.proofs.Boot.Puts.{CanPut}
use Rattle.kernel_boot.proofs.store.put_all.Given as goal

-- the capabilities from i on are still to be put, which gives what boot gives
abbrev pub invariant-loop-i : goal.invariant-loop-i
invariant-loop-i g l =
    record {
      memory : g.S.CapStore.memory_bits l.store ≡ l.plan.memory_bits;
      can : CanPut g.P.Profile.profile l.plan.memory_bits (l.i + 1) (drop l.i l.caps) (g.S.CapStore.forest l.store);
      gives : with_roots g.P.Profile.profile (l.i + 1) (drop l.i l.caps) (g.S.CapStore.forest l.store) ≡ with_roots g.P.Profile.profile 1 (boot_caps g.P.Profile.profile l.plan) none;
    }
