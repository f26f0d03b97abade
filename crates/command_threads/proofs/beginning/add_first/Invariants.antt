use Rattle.std.proofs.Common.{◌≡◌, length, take}
use Rattle.command_threads.specs.Private.Begun.{AreEntriesOf}
use Rattle.command_threads.proofs.beginning.add_first.Given as goal

abbrev pub invariant-loop-i : goal.invariant-loop-i
invariant-loop-i l = record {
  many : length l.history.entries.items ≡ l.i;
  so : AreEntriesOf (take l.i l.setup.calls) (take l.i l.replies) l.history.entries.items;
}
