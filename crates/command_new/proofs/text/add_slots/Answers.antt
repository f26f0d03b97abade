-- One name more.
use Rattle.std.proofs.Common.{string_bytes}
use Rattle.command_new.specs.Text.{slot_name}
use Rattle.command_new.proofs.Appended.{one_more}
use Rattle.command_new.proofs.text.add_slots.Goals as goal

pub loop-number-preserved : goal.loop-number-preserved
loop-number-preserved c =
    one_more (slot_name c.args.prefix.now c.args.first) (string_bytes c.args.out.now) _ _ c.loop-number.number c.loop-number.invariant c.in_ok-add_slot.ensures
