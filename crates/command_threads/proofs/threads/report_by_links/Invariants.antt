use Rattle.std.proofs.Common.{◌-◌}
use Rattle.kernel_abstract.specs.State.{shown}
use Rattle.command_threads.specs.Private.Begun.{state_begun}
use Rattle.command_threads.specs.SharedRuns.{count_first}
use Rattle.command_threads.proofs.threads.report_by_links.Given as goal

abbrev pub ghosts-report_on-N-Naming : goal.ghosts-report_on-N-Naming
ghosts-report_on-N-Naming g a = let p = g.P.Profile.profile in let setup = a.read.now.setup in let start = state_begun p setup a.first in record { profile = p; opening = shown start; start = start; limit = setup.limit - count_first a.first setup }

abbrev pub ghosts-report_on-N-Ledger : goal.ghosts-report_on-N-Ledger
ghosts-report_on-N-Ledger g a = record { name = a.blank.name; parts = a.blank.parts }
