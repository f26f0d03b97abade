-- By induction over the files.
use Rattle.command_files.proofs.Tallies.{check_is_there, status_is}
use Rattle.command_files.proofs.tally.status_is_the_greatest.Goals as goal

pub returns : goal.returns
returns c = record { status = status_is; check = check_is_there }
