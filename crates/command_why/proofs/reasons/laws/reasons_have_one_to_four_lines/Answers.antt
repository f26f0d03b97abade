-- The proof of `reasons_have_one_to_four_lines`: the goals that a search leaves open.
use Rattle.command_why.proofs.Counted.{reason_counted}
use Rattle.command_why.proofs.Told.{report_told_in_one_line}
use Rattle.command_why.proofs.reasons.laws.reasons_have_one_to_four_lines.Goals as goal

pub returns-clause-lines : goal.returns-clause-lines
returns-clause-lines c = reason_counted

pub returns-clause-told : goal.returns-clause-told
returns-clause-told c = report_told_in_one_line
