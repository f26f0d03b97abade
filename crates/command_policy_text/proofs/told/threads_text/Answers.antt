-- The proof of `threads_text`: the goals that a search leaves open.
use Rattle.setup_policy.specs.declared.policy.Member.{Member}
use Rattle.command_policy_text.specs.Told.{labelled_thread}
use Rattle.command_policy_text.proofs.Ordered.{put_one}
use Rattle.command_policy_text.proofs.told.threads_text.Goals as goal

pub loop-member-preserved : goal.loop-member-preserved
loop-member-preserved c =
    put_one (λ (m : Member). labelled_thread c.args.labels.now m.thread) c.args.members.now c.loop-member.member-index _ c.loop-member.threads.keys _ _
    c.loop-member-test.true c.loop-member.invariant c.in_ok-thread.ensures c.in_ok-insert.ensures.keys
