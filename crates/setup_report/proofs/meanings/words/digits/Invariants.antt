use Rattle.std.proofs.Common.{◌≡◌, drop}
use Rattle.setup_report.specs.Words.{number_after}
use Rattle.setup_report.proofs.meanings.words.digits.Given as goal

abbrev pub invariant-loop-byte : goal.invariant-loop-byte
invariant-loop-byte l = number_after l.number (drop l.byte-index l.text) ≡ number_after 0 l.text
