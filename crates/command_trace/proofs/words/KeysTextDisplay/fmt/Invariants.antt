use Rattle.std.proofs.Common.{map, take}
use Rattle.std.specs.Fmt.{HasWritten, IsPlainFormatter}
use Rattle.command_why.specs.Keys.{key_word}
use Rattle.command_trace.specs.Words.{keys_text}
use Rattle.command_trace.proofs.words.KeysTextDisplay.fmt.Given as goal

abbrev pub invariant-loop-pair : goal.invariant-loop-pair
invariant-loop-pair g l =
    IsPlainFormatter l.initial.f
    → HasWritten g.W.Write.write_str_gives l.initial.f (keys_text (map key_word (take l.pair-index l.pair-items))) l.f
