-- The proof of `names_of`: the goals that a search leaves open.
use Rattle.command_policy_text.specs.Names.{actor_name}
use Rattle.command_policy_text.proofs.Ordered.{put_one}
use Rattle.command_policy_text.proofs.told.names_of.Goals as goal

pub loop-group-preserved : goal.loop-group-preserved
loop-group-preserved c =
    put_one (actor_name c.args.policy.now) c.args.groups.now c.loop-group.group-index _ c.loop-group.names.keys _ _ c.loop-group-test.true
    c.loop-group.invariant c.in_ok-name.ensures c.in_ok-insert.ensures.keys
