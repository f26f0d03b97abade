use Rattle.std.proofs.Common.{◌≡◌, true, take}
use Rattle.command_import.specs.Told.{is_word}
use Rattle.command_import.proofs.listing.has_word.Given as goal

abbrev pub invariant-loop-byte : goal.invariant-loop-byte
invariant-loop-byte l = is_word (take l.byte-index l.bytes) ≡ true
