-- The proof of `answers_are_right_where_they_say_enough`.
use Rattle.command_marks.proofs.Reports.{those_of_the_exercise}
use Rattle.command_marks.proofs.laws.answers_are_right_where_they_say_enough.Goals as goal

pub returns : goal.returns
returns c = those_of_the_exercise
