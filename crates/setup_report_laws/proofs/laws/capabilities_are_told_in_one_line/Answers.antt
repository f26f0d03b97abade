-- The proof of `capabilities_are_told_in_one_line`: the goals that a search leaves open.
use Rattle.setup_report_laws.proofs.OneLine.{capability_line}
use Rattle.setup_report_laws.proofs.laws.capabilities_are_told_in_one_line.Goals as goal

pub returns : goal.returns
returns c = capability_line
