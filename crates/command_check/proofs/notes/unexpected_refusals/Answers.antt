-- A call that was refused and of which nothing was expected is added, and no other.
use Rattle.std.proofs.lemmas.Option.{slice_get-get_or}
use Rattle.kernel_abstract.specs.declared.call.Reply.TheVariants.{Done}
use Rattle.command_check.proofs.Unexpected.{found_more}
use Rattle.command_check.proofs.notes.unexpected_refusals.Goals as goal

pub loop-i-preserved : goal.loop-i-preserved
loop-i-preserved c =
    let replies = c.args.replies.now in
    let i = c.loop-i.i in
    found_more c.args.setup.now.calls replies i _ _ _ _ _ c.loop-i.invariant c.expect.ensures
    (slice_get-get_or replies i Done c.loop-i-test.true) c.in_ok-add_unexpected.ensures
