use Rattle.std.proofs.Common.{◌≡◌, ◌-◌, ◌≤◌, List, length, get_or, ◌∙◌, ap, arith}
use Rattle.std.proofs.lemmas.Nat.{one_shl}
use Rattle.std.proofs.lemmas.List.{length-replicate}
use Rattle.cap_core.specs.Numbers.{slot_bits}
use Rattle.slot_core.specs.declared.linked.table.Link.{Link}
use Rattle.slot_core.specs.Links.{empty_link}
use Rattle.slot_core.proofs.RowStores.RowSteps.{slot_bits-most}
use Rattle.slot_core.proofs.LinkedStores.LinkedMade.{memory_made, store_made, all_empty}
use Rattle.slot_core.proofs.linked.LinkedStoreMakeStore.new.Goals as goal

pub invariant_of-result : goal.invariant_of-result
invariant_of-result g c =
    let p = g.P.Profile.profile in
    let l = c.in_ok-from_elem.field-0.items in
    let bits : c.SLOT_BITS.result ≡ slot_bits p = c.SLOT_BITS.ensures ∙ g.met.P.Profile.slot_bits_is in
    let most : slot_bits p ≤ 5 = slot_bits-most p in
    let one = one_shl (c.args.memory_bits - slot_bits p) 64 (omega arith) in
    let items = rw bits at c.in_ok-from_elem.ensures.items_if_clones_equal (λ y e. e) in
    store_made p c.args.memory_bits l (omega arith) (ap length items ∙ length-replicate _ empty_link ∙ one)
    (λ i. ap (λ (m : List Link). get_or m i empty_link) items ∙ all_empty _ i)

pub returns-clause-memory : goal.returns-clause-memory
returns-clause-memory g c =
    let p = g.P.Profile.profile in
    let bits : c.SLOT_BITS.result ≡ slot_bits p = c.SLOT_BITS.ensures ∙ g.met.P.Profile.slot_bits_is in
    let most : slot_bits p ≤ 5 = slot_bits-most p in
    let one = one_shl (c.args.memory_bits - slot_bits p) 64 (omega arith) in
    let items = rw bits at c.in_ok-from_elem.ensures.items_if_clones_equal (λ y e. e) in
    memory_made p c.args.memory_bits c.in_ok-from_elem.field-0.items (omega arith) (ap length items ∙ length-replicate _ empty_link ∙ one)
