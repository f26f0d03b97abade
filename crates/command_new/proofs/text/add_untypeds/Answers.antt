-- The table of one region more.
use Rattle.std.proofs.Common.{string_bytes}
use Rattle.command_new.specs.Text.{untyped_text}
use Rattle.command_new.proofs.Appended.{element_more}
use Rattle.command_new.proofs.text.add_untypeds.Goals as goal

pub loop-region-preserved : goal.loop-region-preserved
loop-region-preserved c =
    element_more untyped_text c.args.untypeds.now c.loop-region.region-index (0, 0) (string_bytes c.args.out.now) _ _ c.loop-region-test.true
    c.loop-region.invariant c.in_ok-add_untyped.ensures
