use Rattle.std.proofs.Common.{refl, ◌≡◌, ◌-◌, ◌+◌, arith, false, cond}
use Rattle.cap_core.specs.Numbers.{word_bits}
use Rattle.cspace_core.specs.Resolution.{is_cnode}
use Rattle.cspace_core.proofs.Nodes.{no_cnode}
use Rattle.query_reach.proofs.NextWords.{next_made, next_is, next_only}
use Rattle.query_reach.proofs.nodes.next_word.Goals as goal

pub overflow_add-next : goal.overflow_add-next
overflow_add-next g c =
    let m = next_made g.P.Profile.profile (word_bits g.P.Profile.profile) c.args.from c.args.left c.args.word c.in-CNode.base c.in-CNode.radix c.in_ok-index.index c.in-CNode.guard c.in-CNode.is
    c.requires.lawful c.requires.left c.requires.word c.if-used-left.false c.in_ok-index.ensures.some.0 in
    rw (m.first) (omega (arith, m.sum))

pub overflow_add-next-2 : goal.overflow_add-next-2
overflow_add-next-2 g c =
    let m = next_made g.P.Profile.profile (word_bits g.P.Profile.profile) c.args.from c.args.left c.args.word c.in-CNode.base c.in-CNode.radix c.in_ok-index.index c.in-CNode.guard c.in-CNode.is
    c.requires.lawful c.requires.left c.requires.word c.if-used-left.false c.in_ok-index.ensures.some.0 in
    rw (m.first, m.second) (omega (arith, m.total))

pub returns-in-CNode-cap-clause-some : goal.returns-in-CNode-cap-clause-some
returns-in-CNode-cap-clause-some g c =
    let m = next_made g.P.Profile.profile (word_bits g.P.Profile.profile) c.args.from c.args.left c.args.word c.in-CNode.base c.in-CNode.radix c.in_ok-index.index c.in-CNode.guard c.in-CNode.is
    c.requires.lawful c.requires.left c.requires.word c.if-used-left.false c.in_ok-index.ensures.some.0 in
    next_is g.P.Profile.profile c.args.from c.args.left c.args.word c.args.to.now.address c.in-CNode.base c.in-CNode.radix c.in_ok-index.index c.in-CNode.guard c.args.to.now.cap
    (c.args.left - (c.in-CNode.guard.size + c.in-CNode.radix)) c.in-CNode.is
    c.if-used-left.false c.in_ok-index.ensures.some (rw c.in-CNode-cap.is refl) m

pub returns-in-CNode-cap-clause-each : goal.returns-in-CNode-cap-clause-each
returns-in-CNode-cap-clause-each g c more next n =
    let m = next_made g.P.Profile.profile (word_bits g.P.Profile.profile) c.args.from c.args.left c.args.word c.in-CNode.base c.in-CNode.radix c.in_ok-index.index c.in-CNode.guard c.in-CNode.is
    c.requires.lawful c.requires.left c.requires.word c.if-used-left.false c.in_ok-index.ensures.some.0 in
    next_only g.P.Profile.profile c.args.from c.args.left c.args.word c.args.to.now.address c.in-CNode.base c.in-CNode.radix c.in_ok-index.index c.in-CNode.guard c.args.to.now.cap
    more next (c.args.left - (c.in-CNode.guard.size + c.in-CNode.radix)) c.in-CNode.is
    c.index_in.result c.in_ok-index.was c.index_in.ensures.each (rw c.in-CNode-cap.is refl) m n

pub returns-in_default-cap : goal.returns-in_default-cap
returns-in_default-cap g c =
    let m = next_made g.P.Profile.profile (word_bits g.P.Profile.profile) c.args.from c.args.left c.args.word c.in-CNode.base c.in-CNode.radix c.in_ok-index.index c.in-CNode.guard c.in-CNode.is
    c.requires.lawful c.requires.left c.requires.word c.if-used-left.false c.in_ok-index.ensures.some.0 in
    let other : is_cnode c.args.to.now.cap ≡ false = no_cnode c.args.to.now.cap c.in_default-cap.not-CNode in
    let bits : 0 ≡ cond (is_cnode c.args.to.now.cap) (c.args.left - (c.in-CNode.guard.size + c.in-CNode.radix)) 0 = rw other refl in
    record {
      some = next_is g.P.Profile.profile c.args.from c.args.left c.args.word c.args.to.now.address c.in-CNode.base c.in-CNode.radix c.in_ok-index.index c.in-CNode.guard c.args.to.now.cap
          0 c.in-CNode.is c.if-used-left.false c.in_ok-index.ensures.some bits m;
      each = λ more next n. next_only g.P.Profile.profile c.args.from c.args.left c.args.word c.args.to.now.address c.in-CNode.base c.in-CNode.radix c.in_ok-index.index c.in-CNode.guard c.args.to.now.cap
          more next 0 c.in-CNode.is c.index_in.result c.in_ok-index.was c.index_in.ensures.each bits m n;
    }
