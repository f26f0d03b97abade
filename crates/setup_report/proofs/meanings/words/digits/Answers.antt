-- The proof of `digits`: the goals that a search leaves open.
use Rattle.setup_report.proofs.Digits.{past}
use Rattle.setup_report.proofs.meanings.words.digits.Goals as goal

pub returns-then-number-ge-MOST : goal.returns-then-number-ge-MOST
returns-then-number-ge-MOST c =
    past c.loop-byte.number c.loop-byte.byte-index c.args.text.now c.loop-byte-test.true c.if-number-ge-MOST.true c.loop-byte.invariant
