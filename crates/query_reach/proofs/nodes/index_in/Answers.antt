use Rattle.std.proofs.Common.{◌≡◌, ◌+◌, ◌*◌, ◌^◌, ◌<◌, arith, sym, ◌∙◌}
use Rattle.cap_core.specs.Numbers.{slot_bits}
use Rattle.query_reach.proofs.Numbers.{indexed}
use Rattle.query_reach.proofs.nodes.index_in.Goals as goal
use Rattle.query_reach.proofs.nodes.index_in.Goals.{else-index-SLOT_BITS-via-then-index-SLOT_BITS+else-index-radix-eq0, else-index-SLOT_BITS-via-else-index-SLOT_BITS}

pub returns-else-index-SLOT_BITS-clause-each : goal.returns-else-index-SLOT_BITS-clause-each
returns-else-index-SLOT_BITS-clause-each g c i low is =
    let bits : slot_bits g.P.Profile.profile ≡ c.SLOT_BITS.result = sym (c.SLOT_BITS.ensures ∙ g.met.P.Profile.slot_bits_is) in
    let bits' : c.SLOT_BITS-2.result ≡ c.SLOT_BITS.result = c.SLOT_BITS-2.ensures ∙ sym c.SLOT_BITS.ensures in
    let is' : c.args.address ≡ c.args.base + i * 2 ^ c.SLOT_BITS.result = rw bits at is in
    let fits : c.args.address < 2 ^ 64 = omega arith in
    let n = indexed c.args.base c.SLOT_BITS.result c.args.radix c.args.address i fits low is' in
    elim c.else-index-SLOT_BITS.branch [
      | else-index-SLOT_BITS-via-then-index-SLOT_BITS+else-index-radix-eq0 w ↦ absurd (w.if-index-radix-eq0.false n.low)
      | else-index-SLOT_BITS-via-else-index-SLOT_BITS w ↦ absurd (w.if-index-SLOT_BITS.false (rw bits' n.back))
    ]
