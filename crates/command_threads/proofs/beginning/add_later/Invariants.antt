use Rattle.std.proofs.Common.{◌≡◌, ◌+◌, length, take}
use Rattle.command_threads.specs.Private.Begun.{AreBehind}
use Rattle.command_threads.proofs.beginning.add_later.Given as goal

abbrev pub invariant-loop-entry : goal.invariant-loop-entry
invariant-loop-entry l = record {
  many : length l.history.entries.items ≡ length l.initial.history.entries.items + l.entry-index;
  so : AreBehind l.initial.history.entries.items (take l.entry-index l.later) l.history.entries.items;
}
