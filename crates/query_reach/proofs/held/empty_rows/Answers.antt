use Rattle.std.proofs.Common.{◌≡◌, ◌+◌, arith, [], ◌∙◌}
use Rattle.cap_core.specs.Numbers.{word_bits}
use Rattle.query_reach.proofs.PathTables.{rows_more}
use Rattle.query_reach.proofs.held.empty_rows.Goals as goal

pub loop-read-preserved : goal.loop-read-preserved
loop-read-preserved g c =
    rw c.in_ok-push.ensures.items (rows_more (λ r. r.items) c.loop-read.rows.items c.new.result c.loop-read.read [] c.loop-read.invariant c.new.ensures.items)

pub returns : goal.returns
returns g c =
    let bits : c.WORD_BITS-read-end.result ≡ word_bits g.P.Profile.profile = c.WORD_BITS-read-end.ensures ∙ g.met.P.Profile.word_bits_is in
    let done : word_bits g.P.Profile.profile + 1 ≡ c.loop-read.read = omega (arith, bits, c.loop-read-test.false, c.loop-read.auto.read-end) in
    rw done c.loop-read.invariant
