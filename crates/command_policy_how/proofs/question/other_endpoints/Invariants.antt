use Rattle.std.proofs.Common.{◌≡◌, filter, not, take}
use Rattle.command_policy_how.specs.Question.{is_use_of_endpoint}
use Rattle.command_policy_how.proofs.question.other_endpoints.Given as goal

abbrev pub invariant-loop-endpoint : goal.invariant-loop-endpoint
invariant-loop-endpoint l = l.others.items ≡ filter (λ endpoint. not (is_use_of_endpoint l.told endpoint)) (take l.endpoint-index l.endpoint-items)
