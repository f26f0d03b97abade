-- The proof of `ordered`: the goals that a search leaves open.
use Rattle.command_policy_text.specs.Told.{line_told}
use Rattle.command_policy_text.proofs.Ordered.{put_one}
use Rattle.command_policy_text.proofs.text.ordered.Goals as goal

pub loop-one-preserved : goal.loop-one-preserved
loop-one-preserved c =
    put_one (line_told c.args.held.policy.now c.args.held.layout.now c.args.held.labels.now c.args.held.homes.now) c.args.told.now
    c.loop-one.one-index _ c.loop-one.lines.keys _ _ c.loop-one-test.true c.loop-one.invariant c.in_ok-line.ensures c.in_ok-insert.ensures.keys
