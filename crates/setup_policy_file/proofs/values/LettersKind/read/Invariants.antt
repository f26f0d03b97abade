use Rattle.std.proofs.Common.{◌≡◌, drop}
use Rattle.setup_policy_file.specs.Values.{with_letters}
use Rattle.setup_policy_file.proofs.values.LettersKind.read.Given as goal

abbrev pub invariant-loop-letter : goal.invariant-loop-letter
invariant-loop-letter l = with_letters l.rights (drop l.letter-index l.letters) ≡ with_letters (record { 0 = 0 }) l.letters
