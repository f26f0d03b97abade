-- Each call adds its mark.
use Rattle.std.proofs.Common.{get_or}
use Rattle.kernel_abstract.specs.declared.call.Reply.TheVariants.{Done}
use Rattle.setup_report.proofs.Sequences.Calls.{reply_here}
use Rattle.command_marks.proofs.Questions.{answered_more}
use Rattle.command_marks.proofs.against.marks_by.Goals as goal

pub loop-i-preserved : goal.loop-i-preserved
loop-i-preserved c =
    let calls = c.args.setup.now.calls in
    let replies = c.args.replies.now in
    let items = c.calls-call-items.result.now in
    answered_more c.args.exercise.now.calls calls replies c.loop-i.i _ _ (get_or replies c.loop-i.i Done) c.in_ok-mark.mark _ _ _ c.loop-i.invariant
    c.expect-question.ensures c.expect-answer.ensures (reply_here calls items replies c.loop-i.i Done c.calls-call-items.ensures c.requires.replies c.loop-i-test.true)
    c.in_ok-mark.ensures c.in_ok-push.ensures.items
