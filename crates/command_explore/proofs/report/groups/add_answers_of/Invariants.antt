use Rattle.std.proofs.Common.{◌≡◌, ◌++◌, filter, take}
use Rattle.query_orders.specs.declared.exploring.found.FoundAnswer.{FoundAnswer}
use Rattle.query_orders.specs.Groups.{is_client_in}
use Rattle.command_explore.proofs.report.groups.add_answers_of.Given as goal

abbrev pub invariant-loop-answer : goal.invariant-loop-answer
invariant-loop-answer l = l.out.items ≡ l.fn.out.items ++ filter (λ (f : FoundAnswer). is_client_in l.groups l.group.first f.client) (take l.answer-index l.answers)
