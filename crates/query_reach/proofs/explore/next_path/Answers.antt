use Rattle.std.proofs.Common.{◌≡◌, ◌+◌, ◌≤◌, arith, ◌∙◌}
use Rattle.cap_core.specs.Numbers.{word_bits}
use Rattle.query_reach.proofs.Explored.{path_made, step_is, step_only}
use Rattle.query_reach.proofs.explore.next_path.Goals as goal

pub overflow_add-index : goal.overflow_add-index
overflow_add-index g c =
    let bits : c.WORD_BITS.result ≡ word_bits g.P.Profile.profile = c.WORD_BITS.ensures ∙ g.met.P.Profile.word_bits_is in
    let fits : c.args.read + (c.in-CNode.guard.size + c.in-CNode.radix) ≤ word_bits g.P.Profile.profile = omega (arith, c.if-more-WORD_BITS.false, bits) in
    let m = path_made g.P.Profile.profile c.args.from c.args.read c.args.path.index c.in-CNode.base c.in-CNode.radix c.in_ok-number.number c.in-CNode.guard c.in-CNode.is
    c.requires.lawful fits c.requires.index c.in_ok-number.ensures.some.0 in
    rw m.first (omega (arith, m.sum))

pub overflow_add-index-2 : goal.overflow_add-index-2
overflow_add-index-2 g c =
    let bits : c.WORD_BITS.result ≡ word_bits g.P.Profile.profile = c.WORD_BITS.ensures ∙ g.met.P.Profile.word_bits_is in
    let fits : c.args.read + (c.in-CNode.guard.size + c.in-CNode.radix) ≤ word_bits g.P.Profile.profile = omega (arith, c.if-more-WORD_BITS.false, bits) in
    let m = path_made g.P.Profile.profile c.args.from c.args.read c.args.path.index c.in-CNode.base c.in-CNode.radix c.in_ok-number.number c.in-CNode.guard c.in-CNode.is
    c.requires.lawful fits c.requires.index c.in_ok-number.ensures.some.0 in
    rw (m.first, m.second) (omega (arith, m.total))

pub returns-clause-some : goal.returns-clause-some
returns-clause-some g c =
    let bits : c.WORD_BITS.result ≡ word_bits g.P.Profile.profile = c.WORD_BITS.ensures ∙ g.met.P.Profile.word_bits_is in
    let fits : c.args.read + (c.in-CNode.guard.size + c.in-CNode.radix) ≤ word_bits g.P.Profile.profile = omega (arith, c.if-more-WORD_BITS.false, bits) in
    let m = path_made g.P.Profile.profile c.args.from c.args.read c.args.path.index c.in-CNode.base c.in-CNode.radix c.in_ok-number.number c.in-CNode.guard c.in-CNode.is
    c.requires.lawful fits c.requires.index c.in_ok-number.ensures.some.0 in
    step_is g.P.Profile.profile c.args.from c.args.read c.args.path c.args.slot c.in-CNode.base c.in-CNode.radix c.in_ok-number.number (c.args.read + c.in-CNode.guard.size + c.in-CNode.radix)
    c.in-CNode.guard c.in-CNode.is (omega arith) (omega (arith, fits)) c.in_ok-number.ensures.some m

pub returns-clause-each : goal.returns-clause-each
returns-clause-each g c more next s =
    let bits : c.WORD_BITS.result ≡ word_bits g.P.Profile.profile = c.WORD_BITS.ensures ∙ g.met.P.Profile.word_bits_is in
    let fits : c.args.read + (c.in-CNode.guard.size + c.in-CNode.radix) ≤ word_bits g.P.Profile.profile = omega (arith, c.if-more-WORD_BITS.false, bits) in
    let m = path_made g.P.Profile.profile c.args.from c.args.read c.args.path.index c.in-CNode.base c.in-CNode.radix c.in_ok-number.number c.in-CNode.guard c.in-CNode.is
    c.requires.lawful fits c.requires.index c.in_ok-number.ensures.some.0 in
    step_only g.P.Profile.profile c.args.from c.args.read c.args.path c.args.slot c.in-CNode.base c.in-CNode.radix c.in_ok-number.number (c.args.read + c.in-CNode.guard.size + c.in-CNode.radix)
    c.in-CNode.guard more next c.in-CNode.is c.index_in.result c.in_ok-number.was c.index_in.ensures.each (omega arith) m s
