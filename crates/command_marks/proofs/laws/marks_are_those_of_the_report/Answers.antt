-- The proof of `marks_are_those_of_the_report`.
use Rattle.command_marks.proofs.Reports.{those_of_the_report}
use Rattle.command_marks.proofs.laws.marks_are_those_of_the_report.Goals as goal

pub returns : goal.returns
returns c = those_of_the_report
