use Rattle.std.proofs.Common.{◌≡◌, ◌+◌, ◌≤◌, drop}
use Rattle.query_orders.specs.Found.{answers_of}
use Rattle.command_explore.specs.Numbers.{numbers_in}
use Rattle.command_explore.specs.Witnesses as spec
use Rattle.command_explore.proofs.report.witness.answer_numbered.Given as goal

abbrev pub invariant-loop-answer : goal.invariant-loop-answer
invariant-loop-answer l = record {
  same : spec.answer_numbered (numbers_in l.numbers) l.number l.wanted (l.place + 1) (answers_of (drop l.answer-index l.answers)) ≡ spec.answer_numbered (numbers_in l.numbers) l.number l.wanted 1 (answers_of l.answers);
  within : l.place ≤ l.answer-index;
}
