use Rattle.std.proofs.Common.{◌≡◌, map, take}
use Rattle.setup_policy.specs.declared.policy.Member.{Member}
use Rattle.command_policy_draft.proofs.judged.threads_of.Given as goal

abbrev pub invariant-loop-member : goal.invariant-loop-member
invariant-loop-member l = l.threads.items ≡ map (λ (m : Member). m.thread) (take l.member-index l.members)
