use Rattle.std.proofs.Common.{◌≡◌, All, map, take}
use Rattle.kernel_forest.specs.Forest.{Forest}
use Rattle.kernel_forest.specs.Entries.{Entry}
use Rattle.query_reach.specs.FullSlots.{AreFullSlots}
use Rattle.command_audit.specs.declared.threads.ThreadSlots.{ThreadSlots}
use Rattle.command_audit.specs.Threads.{AreSlotsOf}
use Rattle.command_audit.proofs.threads.thread_slots.Given as goal

abbrev pub invariant-loop-thread : goal.invariant-loop-thread
invariant-loop-thread g l = record {
  threads : map (λ (t : ThreadSlots). t.thread) l.list.items ≡ take l.thread-index l.threads;
  slots : (f : Forest Entry) → AreFullSlots f l.filled → All (AreSlotsOf g.P.Profile.profile f) l.list.items;
}
