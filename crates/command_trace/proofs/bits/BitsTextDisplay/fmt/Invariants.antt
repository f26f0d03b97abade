use Rattle.std.proofs.Common.{take}
use Rattle.std.specs.Fmt.{HasWritten, IsPlainFormatter}
use Rattle.command_trace.specs.Ways.{bits_text}
use Rattle.command_trace.proofs.bits.BitsTextDisplay.fmt.Given as goal

abbrev pub invariant-loop-bit : goal.invariant-loop-bit
invariant-loop-bit g l =
    IsPlainFormatter l.initial.f → HasWritten g.W.Write.write_str_gives l.initial.f (bits_text (take l.bit-index l.bit-items)) l.f
