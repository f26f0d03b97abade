-- Each byte is added.
use Rattle.setup_report.proofs.Joined.{flat_step}
use Rattle.command_marks.specs.Table.{letter}
use Rattle.command_marks.proofs.field.add_doubled.Goals as goal

pub loop-byte-preserved : goal.loop-byte-preserved
loop-byte-preserved c =
    flat_step letter c.args.bytes.now c.loop-byte.byte-index 0 _ c.loop-byte.out.items c.add_letter.new.out.items c.loop-byte-test.true c.loop-byte.invariant c.in_ok-add_letter.ensures
