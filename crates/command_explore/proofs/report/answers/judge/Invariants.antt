use Rattle.std.proofs.Common.{◌≡◌, ◌||◌, length}
use Rattle.query_orders.specs.Found.{answers_of}
use Rattle.command_explore.specs.Numbers.{numbers_in}
use Rattle.command_explore.specs.Text.{some_met, some_missed}
use Rattle.command_explore.proofs.report.answers.judge.Given as goal

abbrev pub invariant-loop-answer : goal.invariant-loop-answer
invariant-loop-answer l = record {
  met : (l.met || some_met (numbers_in l.numbers) l.number l.expected (answers_of l.rest)) ≡ some_met (numbers_in l.numbers) l.number l.expected (answers_of l.answers);
  missed : (l.missed || some_missed (numbers_in l.numbers) l.number l.expected (answers_of l.rest)) ≡ some_missed (numbers_in l.numbers) l.number l.expected (answers_of l.answers);
}

abbrev pub decreases-loop-answer : goal.decreases-loop-answer
decreases-loop-answer l = length l.rest
