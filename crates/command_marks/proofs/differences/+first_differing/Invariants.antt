-- Fewer keys are left.
use Rattle.std.proofs.Common.{length}
use Rattle.command_marks.proofs.differences.+first_differing.Given as goal

abbrev pub decreases-first_differing : goal.decreases-first_differing
decreases-first_differing l = length l.keys.now
