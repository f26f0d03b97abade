use Rattle.std.proofs.Common.{◌≡◌, ◌+◌, ◌-◌, ◌*◌, ◌^◌, arith, ◌∙◌}
use Rattle.std.proofs.lemmas.Option.{slice_get_within}
use Rattle.cap_core.specs.Numbers.{slot_bits}
use Rattle.query_reach.proofs.NextWords.{spans, spanned, no_slot_of}
use Rattle.query_reach.proofs.Tabled.{behind_start, before_stop}
use Rattle.query_reach.proofs.search.places_in.Goals as goal

pub overflow_add-last : goal.overflow_add-last
overflow_add-last g c =
    let bits : c.SLOT_BITS.result ≡ slot_bits g.P.Profile.profile = c.SLOT_BITS.ensures ∙ g.met.P.Profile.slot_bits_is in
    let m = spans g.P.Profile.profile c.in-CNode.base c.in-CNode.radix c.in-CNode.guard (rw c.in-CNode.is at c.requires.lawful) in
    rw (m.ones, bits, m.shifted) (omega (arith, m.fits))

pub overflow_add-last-else-last : goal.overflow_add-last-else-last
overflow_add-last-else-last g c =
    let bits : c.SLOT_BITS.result ≡ slot_bits g.P.Profile.profile = c.SLOT_BITS.ensures ∙ g.met.P.Profile.slot_bits_is in
    let m = spans g.P.Profile.profile c.in-CNode.base c.in-CNode.radix c.in-CNode.guard (rw c.in-CNode.is at c.requires.lawful) in
    let other = rw (m.ones, bits, m.shifted) at c.if-last.false in
    rw (m.ones, bits, m.shifted) (omega (arith, m.fits, other))

pub returns-then-last-clause-all : goal.returns-then-last-clause-all
returns-then-last-clause-all g c k u is inside =
    let i = rw c.in-CNode.is at inside in
    let s = spanned g.P.Profile.profile c.in-CNode.base c.in-CNode.radix i.0 u.address i.1.0 i.1.1 in
    (behind_start c.args.filled.now c.count_below-start.result k c.in-CNode.base u is s.0 c.count_below-start.ensures.below, slice_get_within c.args.filled.now k u is)

pub returns-else-last-clause-all : goal.returns-else-last-clause-all
returns-else-last-clause-all g c k u is inside =
    let bits : c.SLOT_BITS.result ≡ slot_bits g.P.Profile.profile = c.SLOT_BITS.ensures ∙ g.met.P.Profile.slot_bits_is in
    let m = spans g.P.Profile.profile c.in-CNode.base c.in-CNode.radix c.in-CNode.guard (rw c.in-CNode.is at c.requires.lawful) in
    let i = rw c.in-CNode.is at inside in
    let s = spanned g.P.Profile.profile c.in-CNode.base c.in-CNode.radix i.0 u.address i.1.0 i.1.1 in
    let past = rw (m.ones, bits, m.shifted) at c.count_below.ensures.from in (
      behind_start c.args.filled.now c.count_below-start.result k c.in-CNode.base u is s.0 c.count_below-start.ensures.below,
      before_stop c.args.filled.now c.count_below.result k (c.in-CNode.base + (2 ^ c.in-CNode.radix - 1) * 2 ^ slot_bits g.P.Profile.profile + 1) u is (omega (arith, s.1)) past,
    )

pub returns-in_default-clause-all : goal.returns-in_default-clause-all
returns-in_default-clause-all g c k u is inside = absurd (no_slot_of g.P.Profile.profile c.args.from u.address c.in_default.not-CNode inside)
