use Rattle.std.proofs.Common.{◌≡◌, ◌-◌, ◌≤◌, length, replicate, vec_len, ap, ◌∙◌, arith, rules, sym, subst}
use Rattle.std.proofs.lemmas.Nat.{one_shl}
use Rattle.cap_core.specs.Numbers.{tcb_bits, endpoint_bits}
use Rattle.ipc_core.proofs.QueueForm.FirstOut.{nobody_in}
use Rattle.ipc_core.proofs.RowForm.Room.{tcb_bits-most, endpoint_bits-most, enough_room}
use Rattle.ipc_core.specs.Agreement.{AreAlike}
use Rattle.ipc_core.proofs.SendersOrReceivers.{alike_nobody}
use Rattle.ipc_core.proofs.linked.LinkedWaitersMakeWaiters.new.Goals as goal

pub invariant_of-result-clause-linked : goal.invariant_of-result-clause-linked
invariant_of-result-clause-linked g c =
    let threads = c.in_ok-vec.ensures.items_if_clones_equal (λ y same. search rules) ∙ ap (replicate _) c.free.ensures in
    let endpoints = c.in_ok-vec-2.ensures.items_if_clones_equal (λ y same. search rules) in
    (nobody_in g.P.Profile.profile (record { threads = c.in_ok-vec.field-0; endpoints = c.in_ok-vec-2.field-0 }) _ _ threads endpoints).1

pub invariant_of-result-clause-threads : goal.invariant_of-result-clause-threads
invariant_of-result-clause-threads g c =
    let bits : c.TCB_BITS.result ≡ tcb_bits g.P.Profile.profile = c.TCB_BITS.ensures ∙ g.met.P.Profile.tcb_bits_is in
    let most : tcb_bits g.P.Profile.profile ≤ 11 = tcb_bits-most g.P.Profile.profile in
    let one = one_shl (c.args.memory_bits - tcb_bits g.P.Profile.profile) 64 (omega arith) in
    let exact = (rw bits at c.in_ok-vec.ensures.len) ∙ one in
    let long : length c.in_ok-vec.field-0.items ≡ vec_len c.in_ok-vec.field-0 = omega (arith, c.in_ok-vec.field-0.ok) in
    enough_room c.args.memory_bits (tcb_bits g.P.Profile.profile) _ (omega arith) (long ∙ exact)

pub invariant_of-result-clause-endpoints : goal.invariant_of-result-clause-endpoints
invariant_of-result-clause-endpoints g c =
    let bits : c.ENDPOINT_BITS.result ≡ endpoint_bits g.P.Profile.profile = c.ENDPOINT_BITS.ensures ∙ g.met.P.Profile.endpoint_bits_is in
    let most : endpoint_bits g.P.Profile.profile ≤ 11 = endpoint_bits-most g.P.Profile.profile in
    let one = one_shl (c.args.memory_bits - endpoint_bits g.P.Profile.profile) 64 (omega arith) in
    let exact = (rw bits at c.in_ok-vec-2.ensures.len) ∙ one in
    let long : length c.in_ok-vec-2.field-0.items ≡ vec_len c.in_ok-vec-2.field-0 = omega (arith, c.in_ok-vec-2.field-0.ok) in
    enough_room c.args.memory_bits (endpoint_bits g.P.Profile.profile) _ (omega arith) (long ∙ exact)

pub returns-clause-nobody : goal.returns-clause-nobody
returns-clause-nobody g c =
    let threads = c.in_ok-vec.ensures.items_if_clones_equal (λ y same. search rules) ∙ ap (replicate _) c.free.ensures in
    let endpoints = c.in_ok-vec-2.ensures.items_if_clones_equal (λ y same. search rules) in
    (nobody_in g.P.Profile.profile (record { threads = c.in_ok-vec.field-0; endpoints = c.in_ok-vec-2.field-0 }) _ _ threads endpoints).0

pub invariant_of-result-clause-alike : goal.invariant_of-result-clause-alike
invariant_of-result-clause-alike g c =
    let threads = c.in_ok-vec.ensures.items_if_clones_equal (λ y same. search rules) ∙ ap (replicate _) c.free.ensures in
    let endpoints = c.in_ok-vec-2.ensures.items_if_clones_equal (λ y same. search rules) in
    subst AreAlike (sym (nobody_in g.P.Profile.profile (record { threads = c.in_ok-vec.field-0; endpoints = c.in_ok-vec-2.field-0 }) _ _ threads endpoints).0) alike_nobody
