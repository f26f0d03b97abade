-- Each call that expects something adds its line.
use Rattle.std.proofs.Common.{get_or}
use Rattle.setup_report.proofs.Sequences.Calls.{call_here}
use Rattle.command_marks.specs.declared.mark.Mark.TheVariants.{Nothing}
use Rattle.command_marks.proofs.Sequences.{added, mark_here}
use Rattle.command_marks.proofs.text.add_lines.Goals as goal

pub loop-i-preserved : goal.loop-i-preserved
loop-i-preserved c =
    let calls = c.args.setup.now.calls in
    let marks = c.args.marks.now in
    let items = c.calls-call-items.result.now in
    added calls marks c.loop-i.i _ _ (get_or marks c.loop-i.i Nothing) _ _ _ c.loop-i.invariant
    (call_here calls items c.loop-i.i _ c.calls-call-items.ensures c.loop-i-test.true)
    c.expect.ensures (mark_here calls items marks c.loop-i.i Nothing c.calls-call-items.ensures c.requires c.loop-i-test.true) c.in_ok-add_line.ensures
