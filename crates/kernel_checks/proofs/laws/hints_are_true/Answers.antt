use Rattle.kernel_checks.proofs.HintsTrue.{depth_is, number_is}
use Rattle.kernel_checks.proofs.laws.hints_are_true.Goals as goal

pub returns-clause-depth : goal.returns-clause-depth
returns-clause-depth c = depth_is

pub returns-clause-number : goal.returns-clause-number
returns-clause-number c = number_is
