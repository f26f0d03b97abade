use Rattle.std.proofs.Common.{◌≡◌, ◌-◌, ◌≤◌, ◌∙◌, arith, List, [], sym, subst, rules}
use Rattle.std.proofs.lemmas.Nat.{one_shl}
use Rattle.cap_core.specs.Numbers.{tcb_bits}
use Rattle.ipc_core.proofs.RowForm.Room.{tcb_bits-most, enough_room}
use Rattle.ipc_core.specs.Agreement.{AreAlike}
use Rattle.ipc_core.specs.declared.row.WaitRow.{WaitRow}
use Rattle.ipc_core.specs.Representation.Rows.{waits_of}
use Rattle.ipc_core.proofs.SendersOrReceivers.{alike_nobody}
use Rattle.ipc_core.proofs.rows.RowWaitersMakeWaiters.new.Goals as goal

pub invariant_of-result-clause-room : goal.invariant_of-result-clause-room
invariant_of-result-clause-room g c =
    let bits : c.TCB_BITS.result ≡ tcb_bits g.P.Profile.profile = c.TCB_BITS.ensures ∙ g.met.P.Profile.tcb_bits_is in
    let most : tcb_bits g.P.Profile.profile ≤ 11 = tcb_bits-most g.P.Profile.profile in
    let one = one_shl (c.args.memory_bits - tcb_bits g.P.Profile.profile) 64 (omega arith) in
    let exact = (rw bits at c.in_ok-with_capacity.ensures.exact) ∙ one in
    enough_room c.args.memory_bits (tcb_bits g.P.Profile.profile) _ (omega arith) exact

pub invariant_of-result-clause-alike : goal.invariant_of-result-clause-alike
invariant_of-result-clause-alike g c =
    let empty : c.in_ok-with_capacity.field-0.items ≡ [] = search rules in
    subst (λ (rows : List WaitRow). AreAlike (waits_of rows)) (sym empty) alike_nobody
