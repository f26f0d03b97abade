-- Each byte is added.
use Rattle.setup_report.proofs.Joined.{flat_step}
use Rattle.command_import.specs.Import.{path_byte}
use Rattle.command_import.proofs.path.add_path.Goals as goal

pub loop-byte-preserved : goal.loop-byte-preserved
loop-byte-preserved c =
    flat_step path_byte c.args.path.now c.loop-byte.byte-index 0 _ c.loop-byte.out.items c.add_byte.new.out.items c.loop-byte-test.true c.loop-byte.invariant c.in_ok-add_byte.ensures
