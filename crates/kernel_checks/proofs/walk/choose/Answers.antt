-- The proof of `choose`: the goals that a search leaves open.
use Rattle.std.proofs.Common.{◌^◌, ◌<◌, sym, ◌∙◌}
use Rattle.std.proofs.lemmas.Nat.{mod_below, pow_pos}
use Rattle.cap_core.specs.Numbers.{word_bits}
use Rattle.cspace_core.proofs.Nodes.{lawful_node, slot_aligned, slot_within}
use Rattle.kernel_checks.proofs.Choices.{shorter_than_guard, unlike_guard, shorter_than_radix, slot_taken}
use Rattle.kernel_checks.proofs.walk.choose.Goals as goal

pub returns-then-guard-bits-clause-is : goal.returns-then-guard-bits-clause-is
returns-then-guard-bits-clause-is g c =
    rw (c.in-CNode.is, c.address.ensures, c.field-read.ensures)
    (shorter_than_guard g.P.Profile.profile _ c.in-CNode.base c.in-CNode.radix c.in-CNode.guard c.args.bits c.args.address c.if-guard-bits.true)

pub returns-then-read-guard-clause-is : goal.returns-then-read-guard-clause-is
returns-then-read-guard-clause-is g c =
    let lawful = lawful_node g.P.Profile.profile (word_bits g.P.Profile.profile) c.in-CNode.base c.in-CNode.radix c.in-CNode.guard (rw c.in-CNode.is at c.requires.lawful) in
    rw (c.in-CNode.is, c.address.ensures, c.field-read-2.ensures)
    (unlike_guard g.P.Profile.profile _ c.in-CNode.base c.in-CNode.radix c.in-CNode.guard c.args.bits c.args.address c.if-guard-bits.false lawful.holds.cut
    (λ e. c.if-read-guard.true (c.field-read-2.ensures ∙ e)))

pub returns-then-radix-rest-clause-is : goal.returns-then-radix-rest-clause-is
returns-then-radix-rest-clause-is g c =
    rw (c.in-CNode.is, c.address.ensures)
    (shorter_than_radix g.P.Profile.profile _ c.in-CNode.base c.in-CNode.radix c.in-CNode.guard c.args.bits c.args.address
    c.if-guard-bits.false (sym c.field-read-2.ensures ∙ c.if-read-guard.false) c.if-radix-rest.true)

pub of_node-requires-clause-aligned : goal.of_node-requires-clause-aligned
of_node-requires-clause-aligned g c =
    slot_aligned g.P.Profile.profile (word_bits g.P.Profile.profile) c.in-CNode.base c.in-CNode.radix c.in-CNode.guard
    (lawful_node g.P.Profile.profile (word_bits g.P.Profile.profile) c.in-CNode.base c.in-CNode.radix c.in-CNode.guard (rw c.in-CNode.is at c.requires.lawful))

pub of_node-requires-clause-end : goal.of_node-requires-clause-end
of_node-requires-clause-end g c =
    let low : c.field-index.result < 2 ^ c.in-CNode.radix = rw c.field-index.ensures (mod_below _ (2 ^ c.in-CNode.radix) (pow_pos c.in-CNode.radix)) in
    slot_within g.P.Profile.profile (word_bits g.P.Profile.profile) c.in-CNode.base c.in-CNode.radix c.field-index.result c.in-CNode.guard
    (lawful_node g.P.Profile.profile (word_bits g.P.Profile.profile) c.in-CNode.base c.in-CNode.radix c.in-CNode.guard (rw c.in-CNode.is at c.requires.lawful))
    low

pub returns-clause-is : goal.returns-clause-is
returns-clause-is g c =
    rw (c.in-CNode.is, c.of_node.ensures, c.field-index.ensures)
    (slot_taken g.P.Profile.profile _ c.in-CNode.base c.in-CNode.radix c.in-CNode.guard c.args.bits c.args.address
    c.if-guard-bits.false (sym c.field-read-2.ensures ∙ c.if-read-guard.false) c.if-radix-rest.false)
