use Rattle.query_orders.proofs.Tests.{same_answer, same_left}
use Rattle.query_orders.proofs.laws.answers_that_compare_equal_are_the_same.Goals as goal

pub returns-clause-answers : goal.returns-clause-answers
returns-clause-answers c = same_answer

pub returns-clause-left : goal.returns-clause-left
returns-clause-left c = same_left
