use Rattle.std.proofs.Common.{◌≡◌, drop}
use Rattle.setup_policy_file.specs.Values.{decimal_after}
use Rattle.setup_policy_file.proofs.values.decimal.Given as goal

abbrev pub invariant-loop-byte : goal.invariant-loop-byte
invariant-loop-byte l = decimal_after l.number (drop l.byte-index l.text) ≡ decimal_after 0 l.text
