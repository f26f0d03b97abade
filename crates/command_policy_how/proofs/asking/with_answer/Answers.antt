-- The copies of two answers are those of both.
use Rattle.std.proofs.Common.{subst}
use Rattle.command_policy_how.specs.Private.{AreOfMost}
use Rattle.command_policy_how.proofs.asking.with_answer.Goals as goal

pub returns-in-Some-clause-most : goal.returns-in-Some-clause-most
returns-in-Some-clause-most c = λ most before other. c.both.ensures.most most (subst (AreOfMost most) c.in-Some.is before) other
