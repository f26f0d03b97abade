-- The proof of `first_slot`: the goals that a search leaves open.
use Rattle.std.proofs.Common.{◌≡◌, ◌^◌, ◌<◌, ◌-◌, Err, sym, ap, subst, ◌∙◌, arith}
use Rattle.std.proofs.lemmas.Nat.{pow_below}
use Rattle.cap_core.specs.Numbers.{word_bits}
use Rattle.cap_core.specs.declared.capability.Cap.{Cap}
use Rattle.cap_core.specs.declared.capability.Cap.TheVariants.{CNode}
use Rattle.kernel_forest.specs.Entries.{cap_at}
use Rattle.slot_core.specs.Places.{address_of}
use Rattle.cspace_core.specs.Resolution.{slot_of}
use Rattle.kernel_abstract.specs.declared.reason.Held.{Held}
use Rattle.kernel_abstract.specs.declared.reason.Reason.TheVariants.{FewSlots}
use Rattle.kernel_abstract.specs.Reasons.{answering}
use Rattle.kernel_abstract.specs.Retyping.{first_slot}
use Rattle.cspace_core.proofs.Nodes.{lawful_node, lawful_in_words, radix_small, slot_aligned, slot_within}
use Rattle.kernel_abstract.proofs.Checks.FilledSlots.{AreSlots, slots_end}
use Rattle.kernel_checks.proofs.Slots.{few_slots, place_within}
use Rattle.kernel_checks.proofs.retyping.first_slot.Goals as goal

pub returns-then-count-slots-clause-value : goal.returns-then-count-slots-clause-value
returns-then-count-slots-clause-value g c =
    let small : 2 ^ c.in-CNode.radix < 2 ^ 64 = pow_below c.in-CNode.radix 64 (radix_small g.P.Profile.profile _ c.in-CNode.base c.in-CNode.radix c.in-CNode.guard
    (lawful_node g.P.Profile.profile (g.S.CapStore.memory_bits c.args.store.now) c.in-CNode.base c.in-CNode.radix c.in-CNode.guard (rw c.in-CNode.is at c.get.ensures.lawful))) in
    let low : c.args.offset < 2 ^ c.in-CNode.radix = omega arith in
    let few : 2 ^ c.in-CNode.radix - c.args.offset < c.args.count = omega arith in
    let p = g.P.Profile.profile in
    let f = g.S.CapStore.forest c.args.store.now in
    let at = address_of p c.args.slot in
    let cap : cap_at f at ≡ CNode c.in-CNode.base c.in-CNode.radix c.in-CNode.guard = sym c.get.ensures.cap ∙ c.in-CNode.is in
    let with_cap : Cap → Held = λ k. record { slot = at; cap = k } in
    let fails : Err (FewSlots c.args.word (with_cap (cap_at f at))) ≡ first_slot p f c.args.word c.args.offset c.args.count at (cap_at f at) =
    subst (λ (k : Cap). Err (FewSlots c.args.word (with_cap k)) ≡ first_slot p f c.args.word c.args.offset c.args.count at k) (sym cap)
    (few_slots p f c.args.word c.args.offset c.args.count at c.in-CNode.base c.in-CNode.radix c.in-CNode.guard low (omega arith) (omega arith) few) in
    let told : Err (g.F.Failure.of (FewSlots c.args.word c.held-node.result)) ≡ answering g.F.Failure.of (first_slot p f c.args.word c.args.offset c.args.count at (cap_at f at)) =
    ap (λ (n : Held). Err (g.F.Failure.of (FewSlots c.args.word n))) c.held-node.ensures.value ∙ ap (answering g.F.Failure.of) fails in
    cc

pub of_node-requires-clause-aligned : goal.of_node-requires-clause-aligned
of_node-requires-clause-aligned g c =
    slot_aligned g.P.Profile.profile _ c.in-CNode.base c.in-CNode.radix c.in-CNode.guard
    (lawful_node g.P.Profile.profile (g.S.CapStore.memory_bits c.args.store.now) c.in-CNode.base c.in-CNode.radix c.in-CNode.guard (rw c.in-CNode.is at c.get.ensures.lawful))

pub of_node-requires-clause-end : goal.of_node-requires-clause-end
of_node-requires-clause-end g c =
    let small : 2 ^ c.in-CNode.radix < 2 ^ 64 = pow_below c.in-CNode.radix 64 (radix_small g.P.Profile.profile _ c.in-CNode.base c.in-CNode.radix c.in-CNode.guard
    (lawful_node g.P.Profile.profile (g.S.CapStore.memory_bits c.args.store.now) c.in-CNode.base c.in-CNode.radix c.in-CNode.guard (rw c.in-CNode.is at c.get.ensures.lawful))) in
    let words = lawful_in_words g.P.Profile.profile (g.S.CapStore.memory_bits c.args.store.now) _ (rw c.in-CNode.is at c.get.ensures.lawful) in
    slot_within g.P.Profile.profile (word_bits g.P.Profile.profile) c.in-CNode.base c.in-CNode.radix c.args.offset c.in-CNode.guard
    (lawful_node g.P.Profile.profile (word_bits g.P.Profile.profile) c.in-CNode.base c.in-CNode.radix c.in-CNode.guard words) (omega arith)

pub first_full-requires-clause-end : goal.first_full-requires-clause-end
first_full-requires-clause-end g c =
    let small : 2 ^ c.in-CNode.radix < 2 ^ 64 = pow_below c.in-CNode.radix 64 (radix_small g.P.Profile.profile _ c.in-CNode.base c.in-CNode.radix c.in-CNode.guard
    (lawful_node g.P.Profile.profile (g.S.CapStore.memory_bits c.args.store.now) c.in-CNode.base c.in-CNode.radix c.in-CNode.guard (rw c.in-CNode.is at c.get.ensures.lawful))) in
    let there : AreSlots c.in-CNode.radix c.args.offset c.args.count = record { some = omega arith; most = omega arith; within = omega arith } in
    let words = lawful_in_words g.P.Profile.profile (g.S.CapStore.memory_bits c.args.store.now) _ (rw c.in-CNode.is at c.get.ensures.lawful) in
    let lawful = lawful_node g.P.Profile.profile (word_bits g.P.Profile.profile) c.in-CNode.base c.in-CNode.radix c.in-CNode.guard words in
    let at : c.address-first.result ≡ slot_of g.P.Profile.profile c.in-CNode.base c.args.offset = c.address-first.ensures ∙ c.of_node.ensures in
    rw at (slots_end g.P.Profile.profile (word_bits g.P.Profile.profile) c.in-CNode.base c.in-CNode.radix c.args.offset c.args.count c.in-CNode.guard lawful there)

pub of_node-requires-in-Some-clause-end : goal.of_node-requires-in-Some-clause-end
of_node-requires-in-Some-clause-end g c =
    let small : 2 ^ c.in-CNode.radix < 2 ^ 64 = pow_below c.in-CNode.radix 64 (radix_small g.P.Profile.profile _ c.in-CNode.base c.in-CNode.radix c.in-CNode.guard
    (lawful_node g.P.Profile.profile (g.S.CapStore.memory_bits c.args.store.now) c.in-CNode.base c.in-CNode.radix c.in-CNode.guard (rw c.in-CNode.is at c.get.ensures.lawful))) in
    let there : AreSlots c.in-CNode.radix c.args.offset c.args.count = record { some = omega arith; most = omega arith; within = omega arith } in
    let words = lawful_in_words g.P.Profile.profile (g.S.CapStore.memory_bits c.args.store.now) _ (rw c.in-CNode.is at c.get.ensures.lawful) in
    let lawful = lawful_node g.P.Profile.profile (word_bits g.P.Profile.profile) c.in-CNode.base c.in-CNode.radix c.in-CNode.guard words in
    let at : c.address-first.result ≡ slot_of g.P.Profile.profile c.in-CNode.base c.args.offset = c.address-first.ensures ∙ c.of_node.ensures in
    let end = slots_end g.P.Profile.profile (word_bits g.P.Profile.profile) c.in-CNode.base c.in-CNode.radix c.args.offset c.args.count c.in-CNode.guard lawful there in
    place_within g.P.Profile.profile c.address-first.result c.in-Some.place c.args.count (2 ^ word_bits g.P.Profile.profile) c.in-Some.ensures.below (rw at end)
