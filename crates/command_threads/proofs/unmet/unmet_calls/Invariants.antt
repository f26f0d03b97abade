use Rattle.std.proofs.Common.{◌≡◌, ◌++◌, drop}
use Rattle.command_check.specs.Notes.{noted}
use Rattle.command_threads.specs.SharedRuns.{unmet_in}
use Rattle.command_threads.proofs.unmet.unmet_calls.Given as goal

abbrev pub invariant-loop-entry : goal.invariant-loop-entry
invariant-loop-entry l = noted l.unmet.items ++ unmet_in l.setup (drop l.entry-index l.history) ≡ unmet_in l.setup l.history
