use Rattle.std.proofs.Common.{◌≡◌, ◌-◌, ◌≤◌, List, sym, ◌∙◌, subst, arith}
use Rattle.std.specs.Prelude.{vec_capacity}
use Rattle.std.proofs.lemmas.Nat.{one_shl}
use Rattle.cap_core.specs.Numbers.{slot_bits}
use Rattle.slot_core.specs.declared.rows.Row.{Row}
use Rattle.slot_core.specs.Rows.{IsRowStore}
use Rattle.slot_core.proofs.RowStores.RowSteps.{slot_bits-most, store_made}
use Rattle.slot_core.proofs.rows.RowStoreMakeStore.new.Goals as goal

pub invariant_of-result : goal.invariant_of-result
invariant_of-result g c =
    let p = g.P.Profile.profile in
    let bits : c.SLOT_BITS.result ≡ slot_bits p = c.SLOT_BITS.ensures ∙ g.met.P.Profile.slot_bits_is in
    let most : slot_bits p ≤ 5 = slot_bits-most p in
    let one = one_shl (c.args.memory_bits - slot_bits p) 64 (omega arith) in
    let n = (rw bits at c.in_ok-with_capacity.ensures.exact) ∙ one in
    let Q : List Row → Type 0 = IsRowStore p c.args.memory_bits (vec_capacity c.in_ok-with_capacity.field-0) in
    subst Q (sym {A = List Row} c.in_ok-with_capacity.ensures.items) (store_made p c.args.memory_bits (vec_capacity c.in_ok-with_capacity.field-0) (omega arith) n)
