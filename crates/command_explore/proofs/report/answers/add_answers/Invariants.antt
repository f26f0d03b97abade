use Rattle.std.proofs.Common.{◌≡◌, ◌++◌, ◌+◌, ◌≤◌, drop, option_copied, string_bytes}
use Rattle.query_orders.specs.Found.{answers_of}
use Rattle.setup_report.specs.Naming.{naming_view}
use Rattle.command_explore.specs.Numbers.{numbers_in}
use Rattle.command_explore.specs.Text.{answer_lines}
use Rattle.command_explore.proofs.report.answers.add_answers.Given as goal

abbrev pub invariant-loop-answer : goal.invariant-loop-answer
invariant-loop-answer l = record {
  lines : string_bytes l.out ++ answer_lines (naming_view l.naming) (numbers_in l.numbers) l.number (l.place + 1) (option_copied l.expected) (answers_of (drop l.answer-index l.answers)) ≡ string_bytes l.fn.out ++ answer_lines (naming_view l.naming) (numbers_in l.numbers) l.number 1 (option_copied l.expected) (answers_of l.answers);
  within : l.place ≤ l.answer-index;
}
