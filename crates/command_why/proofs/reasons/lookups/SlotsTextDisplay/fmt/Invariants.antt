use Rattle.std.proofs.Common.{take}
use Rattle.std.specs.Fmt.{HasWritten, IsPlainFormatter}
use Rattle.setup_report.specs.Naming.{naming_view}
use Rattle.command_why.specs.Lookups.{held_slots_text}
use Rattle.command_why.proofs.reasons.lookups.SlotsTextDisplay.fmt.Given as goal

abbrev pub invariant-loop-held : goal.invariant-loop-held
invariant-loop-held g l =
    IsPlainFormatter l.initial.f → HasWritten g.W.Write.write_str_gives l.initial.f (held_slots_text (naming_view l.self.naming.now) (take l.held-index l.held-items)) l.f
