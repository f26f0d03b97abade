-- The proof of `rising`: the goals that a search leaves open.
use Rattle.command_parts.proofs.Pushed.{pushed}
use Rattle.command_parts.proofs.sets.rising.Goals as goal

pub loop-number-preserved : goal.loop-number-preserved
loop-number-preserved c =
    pushed c.args.numbers.now c.loop-number.number-index _ c.loop-number.set.keys _ c.loop-number-test.true c.loop-number.invariant
    c.in_ok-insert.ensures.keys
