use Rattle.std.proofs.Common.{◌≡◌, ℕ, ◌++◌, IfSome, filter, length, slice_get}
use Rattle.std.specs.Global.{Vec}
use Rattle.query_orders.specs.declared.exploring.found.FoundAnswer.{FoundAnswer}
use Rattle.query_orders.specs.Found.{answers_of}
use Rattle.command_explore.specs.Numbers.{numbers_in}
use Rattle.command_explore.specs.Text.{is_answer_of}
use Rattle.command_explore.proofs.report.rows.answer_rows.Given as goal

abbrev pub invariant-loop-answer : goal.invariant-loop-answer
invariant-loop-answer l =
    (n : ℕ) → IfSome (slice_get l.rows.items n) (λ (row : Vec FoundAnswer). answers_of row.items ++ filter (is_answer_of (numbers_in l.numbers) n) (answers_of l.rest) ≡ filter (is_answer_of (numbers_in l.numbers) n) (answers_of l.answers))

abbrev pub decreases-loop-answer : goal.decreases-loop-answer
decreases-loop-answer l = length l.rest
