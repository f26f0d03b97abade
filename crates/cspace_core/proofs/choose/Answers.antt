use Rattle.std.proofs.Common.{◌^◌, ◌<◌, sym, ◌∙◌}
use Rattle.std.proofs.lemmas.Nat.{mod_below, pow_pos}
use Rattle.cap_core.specs.Numbers.{word_bits}
use Rattle.cspace_core.specs.Resolves.{invalid_root}
use Rattle.cspace_core.proofs.Nodes.{no_cnode, too_short_for_guard, other_guard, too_short_for_radix, slot_chosen, lawful_node, radix_small, guard_small, slot_aligned, slot_within, starts_within}
use Rattle.cspace_core.proofs.choose.Goals as goal

pub returns-in_default : goal.returns-in_default
returns-in_default g c = record { is = invalid_root (no_cnode c.args.cap c.in_default.not-CNode); less = tt; within = λ memory lawful. tt }

pub returns-then-guard-bits-clause-is : goal.returns-then-guard-bits-clause-is
returns-then-guard-bits-clause-is g c =
    rw c.in-CNode.is
    (too_short_for_guard g.P.Profile.profile c.in-CNode.base c.in-CNode.radix c.in-CNode.guard c.args.bits c.args.address c.if-guard-bits.true)

pub returns-then-field-guard-clause-is : goal.returns-then-field-guard-clause-is
returns-then-field-guard-clause-is g c =
    let lawful = lawful_node g.P.Profile.profile (word_bits g.P.Profile.profile) c.in-CNode.base c.in-CNode.radix c.in-CNode.guard (rw c.in-CNode.is at c.requires.lawful) in
    rw c.in-CNode.is
    (other_guard g.P.Profile.profile c.in-CNode.base c.in-CNode.radix c.in-CNode.guard c.args.bits c.args.address lawful.holds.cut
    (λ e. c.if-field-guard.true (c.field.ensures ∙ e)))

pub returns-then-radix-rest-clause-is : goal.returns-then-radix-rest-clause-is
returns-then-radix-rest-clause-is g c =
    rw c.in-CNode.is
    (too_short_for_radix g.P.Profile.profile c.in-CNode.base c.in-CNode.radix c.in-CNode.guard c.args.bits c.args.address
    c.if-guard-bits.false (sym c.field.ensures ∙ c.if-field-guard.false) c.if-radix-rest.true)

pub field-requires-clause-count : goal.field-requires-clause-count
field-requires-clause-count g c =
    guard_small g.P.Profile.profile (word_bits g.P.Profile.profile) c.in-CNode.base c.in-CNode.radix c.in-CNode.guard
    (lawful_node g.P.Profile.profile (word_bits g.P.Profile.profile) c.in-CNode.base c.in-CNode.radix c.in-CNode.guard (rw c.in-CNode.is at c.requires.lawful))

pub field-index-requires-clause-count : goal.field-index-requires-clause-count
field-index-requires-clause-count g c =
    radix_small g.P.Profile.profile (word_bits g.P.Profile.profile) c.in-CNode.base c.in-CNode.radix c.in-CNode.guard
    (lawful_node g.P.Profile.profile (word_bits g.P.Profile.profile) c.in-CNode.base c.in-CNode.radix c.in-CNode.guard (rw c.in-CNode.is at c.requires.lawful))

pub of_node-requires-clause-aligned : goal.of_node-requires-clause-aligned
of_node-requires-clause-aligned g c =
    slot_aligned g.P.Profile.profile (word_bits g.P.Profile.profile) c.in-CNode.base c.in-CNode.radix c.in-CNode.guard
    (lawful_node g.P.Profile.profile (word_bits g.P.Profile.profile) c.in-CNode.base c.in-CNode.radix c.in-CNode.guard (rw c.in-CNode.is at c.requires.lawful))

pub of_node-requires-clause-end : goal.of_node-requires-clause-end
of_node-requires-clause-end g c =
    let low : c.field-index.result < 2 ^ c.in-CNode.radix = rw c.field-index.ensures (mod_below _ (2 ^ c.in-CNode.radix) (pow_pos c.in-CNode.radix)) in
    slot_within g.P.Profile.profile (word_bits g.P.Profile.profile) c.in-CNode.base c.in-CNode.radix c.field-index.result c.in-CNode.guard
    (lawful_node g.P.Profile.profile (word_bits g.P.Profile.profile) c.in-CNode.base c.in-CNode.radix c.in-CNode.guard (rw c.in-CNode.is at c.requires.lawful))
    low

pub returns-clause-is : goal.returns-clause-is
returns-clause-is g c =
    rw (c.in-CNode.is, c.of_node.ensures, c.field-index.ensures)
    (slot_chosen g.P.Profile.profile c.in-CNode.base c.in-CNode.radix c.in-CNode.guard c.args.bits c.args.address
    c.if-guard-bits.false (sym c.field.ensures ∙ c.if-field-guard.false) c.if-radix-rest.false)

pub returns-clause-within : goal.returns-clause-within
returns-clause-within g c memory lawful =
    let low : c.field-index.result < 2 ^ c.in-CNode.radix = rw c.field-index.ensures (mod_below _ (2 ^ c.in-CNode.radix) (pow_pos c.in-CNode.radix)) in
    let end = slot_within g.P.Profile.profile memory c.in-CNode.base c.in-CNode.radix c.field-index.result c.in-CNode.guard
    (lawful_node g.P.Profile.profile memory c.in-CNode.base c.in-CNode.radix c.in-CNode.guard (rw c.in-CNode.is at lawful)) low in
    rw c.of_node.ensures (starts_within g.P.Profile.profile c.in-CNode.base c.field-index.result memory end)
