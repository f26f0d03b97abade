use Rattle.std.proofs.Common.{◌≡◌, ◌≤◌}
use Rattle.cap_core.specs.declared.profile.ProfileName.TheVariants.{Wide}
use Rattle.ipc_core.specs.Waits.{no_waits}
use Rattle.ipc_core.specs.Representation.Linked.{waits_in}
use Rattle.bench_kernel.proofs.queue.run.Given as goal

abbrev pub invariant-loop-round : goal.invariant-loop-round
invariant-loop-round l =
    record {
      memory : l.waiters.memory_bits ≡ 14;
      nobody : waits_in Wide l.waiters.tables ≡ no_waits;
      few : l.arrived ≤ l.round;
    }
