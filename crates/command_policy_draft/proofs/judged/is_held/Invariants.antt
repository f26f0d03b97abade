use Rattle.std.proofs.Common.{map, take, string_bytes}
use Rattle.std.specs.List.{All, Contains}
use Rattle.command_policy_draft.proofs.judged.is_held.Given as goal

-- each line so far is one of those of the threads
abbrev pub invariant-loop-line : goal.invariant-loop-line
invariant-loop-line l = All (λ line. Contains (map string_bytes l.threads.items) (string_bytes line)) (take l.line-index l.line-items)
