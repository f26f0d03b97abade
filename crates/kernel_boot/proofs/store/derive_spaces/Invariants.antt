-- The proof of `derive_spaces`: what holds at each turn of its loop.
use Rattle.std.proofs.Common.{◌≡◌, ◌-◌, drop}
use Rattle.cap_core.specs.Numbers.{word_bits, slot_size}
use Rattle.kernel_abstract.specs.Boot.{boot_tcbs, boot_forest, root_cap, with_spaces}
use Rattle.kernel_abstract.proofs.Boot.Spaces.{CanDerive}
use Rattle.kernel_boot.proofs.store.derive_spaces.Given as goal

-- the threads from i on still have no capability in their root slots; giving it gives what boot gives
abbrev pub invariant-loop-i : goal.invariant-loop-i
invariant-loop-i g l =
    record {
      memory : g.S.CapStore.memory_bits l.store ≡ l.plan.memory_bits;
      can : CanDerive g.P.Profile.profile l.plan.memory_bits (slot_size g.P.Profile.profile) 0 l.plan.root_radix (record { value = 0; size = word_bits g.P.Profile.profile - l.plan.root_radix }) (drop l.i (boot_tcbs g.P.Profile.profile l.plan)) (g.S.CapStore.forest l.store);
      gives : with_spaces g.P.Profile.profile (root_cap g.P.Profile.profile l.plan) (drop l.i (boot_tcbs g.P.Profile.profile l.plan)) (g.S.CapStore.forest l.store) ≡ boot_forest g.P.Profile.profile l.plan;
    }
