use Rattle.std.proofs.Common.{◌≡◌, take, map, string_bytes}
use Rattle.command_policy_text.specs.Order.{in_order}
use Rattle.setup_policy.specs.declared.policy.Member.{Member}
use Rattle.command_policy_text.specs.Told.{labelled_thread}
use Rattle.command_policy_text.proofs.told.threads_text.Given as goal

abbrev pub invariant-loop-member : goal.invariant-loop-member
invariant-loop-member l = map string_bytes l.threads.keys ≡ in_order (map (λ (m : Member). labelled_thread l.labels m.thread) (take l.member-index l.members))
