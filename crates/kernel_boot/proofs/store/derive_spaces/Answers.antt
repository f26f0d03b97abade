-- The proof of `derive_spaces`: the goals that a search leaves open.
use Rattle.std.proofs.Common.{◌≡◌, ℕ, ◌+◌, ◌-◌, ◌*◌, sym, ◌∙◌, ap, arith}
use Rattle.std.proofs.lemmas.List.FromFn.{length-map-range_with_len, get_or-map-range_with_len}
use Rattle.std.proofs.lemmas.List.{drop_all}
use Rattle.cap_core.specs.Numbers.{slot_size, word_bits}
use Rattle.kernel_abstract.specs.Plan.{tcb_place}
use Rattle.kernel_abstract.specs.Boot.{boot_tcbs, with_spaces, root_cap}
use Rattle.kernel_abstract.proofs.Boot.Spaces.{derive_next}
use Rattle.kernel_abstract.proofs.Boot.Places.{can_derive}
use Rattle.kernel_boot.proofs.store.derive_spaces.Goals as goal

pub loop-i-init : goal.loop-i-init
loop-i-init g c =
    record {
      memory = c.requires.memory;
      can = rw c.requires.roots (can_derive g.P.Profile.profile c.args.plan.now c.requires.plan);
      gives = ap (with_spaces g.P.Profile.profile (root_cap g.P.Profile.profile c.args.plan.now) (boot_tcbs g.P.Profile.profile c.args.plan.now)) c.requires.roots;
    }

no_slots : (n size : ℕ) → n + 0 * size ≡ n
no_slots n size = omega arith

one_slot : (size : ℕ) → 0 + 1 * size ≡ size
one_slot size = omega arith

pub derive-requires-clause-empty : goal.derive-requires-clause-empty
derive-requires-clause-empty g c =
    let next = derive_next g.P.Profile.profile c.args.plan.now.memory_bits (c.of_node.result.place * slot_size g.P.Profile.profile) 0 c.args.plan.now.root_radix (record { value = 0; size = word_bits g.P.Profile.profile - c.args.plan.now.root_radix })
    c.loop-i.i (c.of_node-root_slot.result.place * slot_size g.P.Profile.profile) 0 (boot_tcbs g.P.Profile.profile c.args.plan.now) (g.S.CapStore.forest c.loop-i.store)
    (let l = length-map-range_with_len (tcb_place g.P.Profile.profile c.args.plan.now) 0 c.args.plan.now.threads in omega arith)
    (c.of_node-root_slot.ensures ∙ no_slots c.tcb_place.result (slot_size g.P.Profile.profile) ∙ c.tcb_place.ensures
    ∙ sym (get_or-map-range_with_len (tcb_place g.P.Profile.profile c.args.plan.now) 0 c.args.plan.now.threads c.loop-i.i c.loop-i.i 0 (omega arith) (omega arith)))
    (c.of_node.ensures ∙ one_slot (slot_size g.P.Profile.profile)) c.loop-i.invariant.can in
    next.0.empty

pub derive-requires-clause-disjoint : goal.derive-requires-clause-disjoint
derive-requires-clause-disjoint g c =
    let next = derive_next g.P.Profile.profile c.args.plan.now.memory_bits (c.of_node.result.place * slot_size g.P.Profile.profile) 0 c.args.plan.now.root_radix (record { value = 0; size = word_bits g.P.Profile.profile - c.args.plan.now.root_radix })
    c.loop-i.i (c.of_node-root_slot.result.place * slot_size g.P.Profile.profile) 0 (boot_tcbs g.P.Profile.profile c.args.plan.now) (g.S.CapStore.forest c.loop-i.store)
    (let l = length-map-range_with_len (tcb_place g.P.Profile.profile c.args.plan.now) 0 c.args.plan.now.threads in omega arith)
    (c.of_node-root_slot.ensures ∙ no_slots c.tcb_place.result (slot_size g.P.Profile.profile) ∙ c.tcb_place.ensures
    ∙ sym (get_or-map-range_with_len (tcb_place g.P.Profile.profile c.args.plan.now) 0 c.args.plan.now.threads c.loop-i.i c.loop-i.i 0 (omega arith) (omega arith)))
    (c.of_node.ensures ∙ one_slot (slot_size g.P.Profile.profile)) c.loop-i.invariant.can in
    rw c.root_capability-cap.ensures next.0.disjoint

pub loop-i-preserved : goal.loop-i-preserved
loop-i-preserved g c =
    let next = derive_next g.P.Profile.profile c.args.plan.now.memory_bits (c.of_node.result.place * slot_size g.P.Profile.profile) 0 c.args.plan.now.root_radix (record { value = 0; size = word_bits g.P.Profile.profile - c.args.plan.now.root_radix })
    c.loop-i.i (c.of_node-root_slot.result.place * slot_size g.P.Profile.profile) 0 (boot_tcbs g.P.Profile.profile c.args.plan.now) (g.S.CapStore.forest c.loop-i.store)
    (let l = length-map-range_with_len (tcb_place g.P.Profile.profile c.args.plan.now) 0 c.args.plan.now.threads in omega arith)
    (c.of_node-root_slot.ensures ∙ no_slots c.tcb_place.result (slot_size g.P.Profile.profile) ∙ c.tcb_place.ensures
    ∙ sym (get_or-map-range_with_len (tcb_place g.P.Profile.profile c.args.plan.now) 0 c.args.plan.now.threads c.loop-i.i c.loop-i.i 0 (omega arith) (omega arith)))
    (c.of_node.ensures ∙ one_slot (slot_size g.P.Profile.profile)) c.loop-i.invariant.can in
    record {
      memory = c.derive.ensures.memory ∙ c.loop-i.invariant.memory;
      can = rw (c.derive.ensures.forest, c.root_capability-cap.ensures) next.1;
      gives = rw (c.derive.ensures.forest, c.root_capability-cap.ensures) (next.2 ∙ c.loop-i.invariant.gives);
    }

pub returns-clause-forest : goal.returns-clause-forest
returns-clause-forest g c =
    ap (λ l. with_spaces g.P.Profile.profile (root_cap g.P.Profile.profile c.args.plan.now) l (g.S.CapStore.forest c.loop-i.store))
    (sym (drop_all c.loop-i.i (boot_tcbs g.P.Profile.profile c.args.plan.now) (let l = length-map-range_with_len (tcb_place g.P.Profile.profile c.args.plan.now) 0 c.args.plan.now.threads in omega arith)))
    ∙ c.loop-i.invariant.gives
