use Rattle.std.proofs.Common.{◌≡◌, ◌<◌, ◌^◌, drop}
use Rattle.setup_values.specs.Kinds.{digits_after}
use Rattle.setup_values.proofs.kinds.digits.Given as goal

abbrev pub invariant-loop-byte : goal.invariant-loop-byte
invariant-loop-byte l = record { small : l.number < 16 ^ l.byte-index; so_far : digits_after l.number (drop l.byte-index l.text) ≡ digits_after 0 l.text }
