use Rattle.std.proofs.Common.{ℕ, codes, string_bytes}
use Rattle.setup_report.proofs.Joined.{flat_step}
use Rattle.command_tree.proofs.lines.add_indent.Goals as goal

pub loop-slot-preserved : goal.loop-slot-preserved
loop-slot-preserved c =
    flat_step (λ (slot : ℕ). codes "  ") c.args.above.now c.loop-slot._slot-index 0 (string_bytes c.args.out.now) _ _ c.loop-slot-test.true c.loop-slot.invariant c.in_ok-write.ensures.bytes
