-- The proof of `status_0_says_that_all_is_right`.
use Rattle.command_marks.proofs.Statuses.{ends_by_the_marks}
use Rattle.command_marks.proofs.laws.status_0_says_that_all_is_right.Goals as goal

pub returns : goal.returns
returns c = ends_by_the_marks
