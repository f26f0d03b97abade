use Rattle.std.proofs.Common.{take}
use Rattle.std.specs.Fmt.{HasWritten, IsPlainFormatter}
use Rattle.setup_report.specs.Naming.{naming_view}
use Rattle.setup_report.specs.Text.{threads_text}
use Rattle.setup_report.proofs.text.ThreadsTextDisplay.fmt.Given as goal

abbrev pub invariant-loop-address : goal.invariant-loop-address
invariant-loop-address g l =
    IsPlainFormatter l.initial.f → HasWritten g.W.Write.write_str_gives l.initial.f (threads_text (naming_view l.self.naming.now) (take l.address-index l.address-items)) l.f
