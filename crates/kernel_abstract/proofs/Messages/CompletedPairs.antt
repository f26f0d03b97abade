-- A step completes a pair exactly where its reply tells of a delivery.
use Rattle.std.proofs.Common.{◌≡◌, ℕ, ◌+◌, Bool, true, false, cond, ◌==◌, ◌&&◌, not, filter, List, [], ◌∷◌, ◌++◌, map, drop, Option, None, Some, Result, Ok, Err, slice_get, length, refl, sym, ap, subst, ◌∙◌, arith, inl, inr, append_assoc, eq-eqb}
use Rattle.std.proofs.lemmas.List.{map-append, append-nil}
use Rattle.std.proofs.lemmas.Bool.Decides.{eqb_tells}
use Rattle.std.proofs.Math.Seq.{drop-append_seam}
use Rattle.std.specs.List.{list_any, zip, AllByRecursion}
use Rattle.cap_core.specs.declared.profile.ProfileName.{ProfileName}
use Rattle.cap_core.specs.declared.message.Message.{Message}
use Rattle.cap_core.specs.declared.refusal.Refusal.{Refusal}
use Rattle.ipc_core.specs.Records.{Instance, SendRecord, ReceiveRecord, same_instance}
use Rattle.kernel_abstract.specs.declared.call.Call.{Call}
use Rattle.kernel_abstract.specs.declared.invocation.Invocation.{Invocation}
use Rattle.kernel_abstract.specs.declared.invocation.Invocation.TheVariants.{Send, Receive, Retype, Derive, Move, Delete, Revoke, CancelBadged, SetSpace, Suspend, Resume}
use Rattle.kernel_abstract.specs.CNodes.{with_derived, with_moved}
use Rattle.kernel_abstract.specs.Threads.{with_space}
use Rattle.kernel_abstract.specs.declared.call.Reply.{Reply}
use Rattle.kernel_abstract.specs.declared.invocation.Service.{Service}
use Rattle.kernel_abstract.specs.Shown.{endpoints_of}
use Rattle.kernel_abstract.specs.State.{State, shown, pairs, endpoint_at, thread_at, sends_to, receives_of}
use Rattle.kernel_forest.specs.Forest.{Forest}
use Rattle.kernel_forest.specs.Entries.{Entry}
use Rattle.kernel_delete.specs.Clear.{clear}
use Rattle.kernel_delete.specs.Revoke.{revoke}
use Rattle.kernel_abstract.specs.Cancelling.{is_send_ended, is_receive_ended, is_badged_send, is_sent_by, is_received_by, cancelling, stopping}
use Rattle.kernel_abstract.proofs.Cancelling.Records.{pairs_same}
use Rattle.kernel_abstract.specs.Decode.{decoded_call}
use Rattle.kernel_abstract.specs.Step.{Outcome, next_call, is_send_awaited, is_receive_awaited, send_accepted, receive_accepted, where_awaited, objects_made, objects_ended, changed_to, rearranged, step, outcome, performed, send_record, receive_record, reply_to_send, reply_to_receive, replies_of, state_after}
use Rattle.kernel_abstract.specs.Reached.{IsReached}
use Rattle.kernel_abstract.specs.Deliveries.{is_live, is_delivery, delivery, delivered}
use Rattle.kernel_abstract.proofs.Lists.Paired.{zip_more_some, zip_some_right, all_get}
use Rattle.kernel_abstract.specs.declared.call.Reply.TheVariants.{Delivered, Dropped, Empty}
use Rattle.std.proofs.lemmas.Bool.{false≢true}
use Rattle.kernel_abstract.proofs.Messages.WaitingSend.{same_tells, sends_here, sends_elsewhere, pairs_stay}
use Rattle.kernel_abstract.proofs.Messages.WaitingReceive.{receives_here, receives_elsewhere, pairs_kept}
use Rattle.kernel_abstract.proofs.Reached.Invariant.{Invariant, Passes, passes}
use Rattle.kernel_abstract.proofs.Reached.Simulation.{reached_inv}
use Rattle.kernel_abstract.proofs.Reached.Runs.{reached_after}

-- what a step with this outcome delivers by an endpoint
abbrev step_delivers : State → Instance → Reply → List Reply
step_delivers A e reply = cond (is_live A e && is_delivery e.base reply) (reply ∷ []) []

-- the pairs of an endpoint after a step are those before it and what the step delivers
abbrev Grows : State → Instance → Outcome → Type 0
Grows A e o = map delivery (pairs o.state e) ≡ map delivery (pairs A e) ++ step_delivers A e o.reply

and_false : (b : Bool) → (b && false) ≡ false
and_false true = refl
and_false false = refl

no_delivery : (A : State) (e : Instance) (reply : Reply) → is_delivery e.base reply ≡ false → step_delivers A e reply ≡ []
no_delivery A e reply h = ap (λ (b : Bool). cond b (reply ∷ []) []) (ap (λ (b : Bool). is_live A e && b) h ∙ and_false (is_live A e))

same_pairs : (A : State) (e : Instance) (o : Outcome) → pairs o.state e ≡ pairs A e → is_delivery e.base o.reply ≡ false → Grows A e o
same_pairs A e o same none =
    ap (map delivery) same ∙ sym (append-nil (map delivery (pairs A e)))
    ∙ ap (λ (xs : List Reply). map delivery (pairs A e) ++ xs) (sym (no_delivery A e o.reply none))

-- the endpoint of a call whose checks passed is the live one at its address
here_live : (A : State) (base : ℕ) → list_any (λ k. base == k) (endpoints_of A.derivations) ≡ true → is_live A (endpoint_at A base) ≡ true
here_live A base live = ap (λ (b : Bool). b && A.endpoint_birth base == A.endpoint_birth base) live ∙ eq-eqb (A.endpoint_birth base) (A.endpoint_birth base) refl

-- another endpoint is not the live one at that address
not_live : (A : State) (e : Instance) (base : ℕ) → same_instance (endpoint_at A base) e ≡ false → (base == e.base) ≡ true → base ≡ e.base → is_live A e ≡ false
not_live A e base other here same =
    let birth : (A.endpoint_birth base == e.birth) ≡ false = sym (ap (λ (b : Bool). b && (A.endpoint_birth base == e.birth)) here) ∙ other in
    ap (λ (n : ℕ). list_any (λ k. e.base == k) (endpoints_of A.derivations) && (A.endpoint_birth n == e.birth)) (sym same)
    ∙ ap (λ (b : Bool). list_any (λ k. e.base == k) (endpoints_of A.derivations) && b) birth
    ∙ and_false (list_any (λ k. e.base == k) (endpoints_of A.derivations))

elsewhere_silent : (A : State) (e : Instance) (base : ℕ) (reply : Reply) → same_instance (endpoint_at A base) e ≡ false → is_delivery e.base reply ≡ (base == e.base) → step_delivers A e reply ≡ []
elsewhere_silent A e base reply other is = ap (λ (b : Bool). cond b (reply ∷ []) []) (elim (eqb_tells base e.base) [
  | inl w ↦ ap (λ (b : Bool). b && is_delivery e.base reply) (not_live A e base other w.0 w.1)
  | inr w ↦ ap (λ (b : Bool). is_live A e && b) (is ∙ w.0) ∙ and_false (is_live A e)
])

here_told : (A : State) (base : ℕ) (reply : Reply) → list_any (λ k. base == k) (endpoints_of A.derivations) ≡ true → is_delivery base reply ≡ (base == base) → step_delivers A (endpoint_at A base) reply ≡ reply ∷ []
here_told A base reply live is =
    ap (λ (b : Bool). cond (b && is_delivery base reply) (reply ∷ []) []) (here_live A base live)
    ∙ ap (λ (b : Bool). cond b (reply ∷ []) []) (is ∙ eq-eqb base base refl)

send_grows : (A : State) (t : ℕ) (service : Service) (message : Message) → Invariant A → list_any (λ k. service.endpoint == k) (endpoints_of A.derivations) ≡ true →
    (o : Option ReceiveRecord) → slice_get (receives_of A (endpoint_at A service.endpoint)) (length (sends_to A (endpoint_at A service.endpoint))) ≡ o → (e : Instance) → Grows A e (send_accepted A t service message)
send_grows A t service message inv live None alone e =
    same_pairs A e (send_accepted A t service message) (pairs_stay A t service message (inv.fresh (A.count + 1) (omega arith)) alone e)
    (ap (λ (o : Option ReceiveRecord). is_delivery e.base (reply_to_send (send_record A t service message) o)) alone)
send_grows A t service message inv live (Some a) met e = elim (same_tells (endpoint_at A service.endpoint) e) [
  | inl w ↦ subst (λ (m : Instance). Grows A m (send_accepted A t service message)) w
      (ap (map delivery) (ap (λ (ss : List SendRecord). zip ss (receives_of A (endpoint_at A service.endpoint))) (sends_here A t service message fresh)
      ∙ zip_more_some (sends_to A (endpoint_at A service.endpoint)) (receives_of A (endpoint_at A service.endpoint)) s a met)
      ∙ map-append delivery (pairs A (endpoint_at A service.endpoint)) ((s, a) ∷ [])
      ∙ ap (λ (r : Reply). map delivery (pairs A (endpoint_at A service.endpoint)) ++ r ∷ []) (sym reply)
      ∙ ap (λ (xs : List Reply). map delivery (pairs A (endpoint_at A service.endpoint)) ++ xs) (sym (here_told A service.endpoint _ live (ap (is_delivery service.endpoint) reply))))
  | inr w ↦ ap (map delivery) (ap (λ (ss : List SendRecord). zip ss (receives_of A e)) (sends_elsewhere A t service message fresh e w))
      ∙ sym (append-nil (map delivery (pairs A e)))
      ∙ ap (λ (xs : List Reply). map delivery (pairs A e) ++ xs) (sym (elsewhere_silent A e service.endpoint _ w (ap (is_delivery e.base) reply)))
]
  where
    fresh : A.is_cancelled (A.count + 1) ≡ false
    fresh = inv.fresh (A.count + 1) (omega arith)

    s : SendRecord
    s = send_record A t service message

    reply : reply_to_send (send_record A t service message) (slice_get (receives_of A (endpoint_at A service.endpoint)) (length (sends_to A (endpoint_at A service.endpoint)))) ≡ delivery (s, a)
    reply = ap (reply_to_send (send_record A t service message)) met

receive_grows : (A : State) (t : ℕ) (service : Service) → Invariant A → list_any (λ k. service.endpoint == k) (endpoints_of A.derivations) ≡ true →
    (o : Option SendRecord) → slice_get (sends_to A (endpoint_at A service.endpoint)) (length (receives_of A (endpoint_at A service.endpoint))) ≡ o →
    ((s : SendRecord) → o ≡ Some s → s.endpoint.base ≡ service.endpoint) → (e : Instance) → Grows A e (receive_accepted A t service)
receive_grows A t service inv live None alone of e =
    same_pairs A e (receive_accepted A t service) (pairs_kept A t service (inv.fresh (A.count + 1) (omega arith)) inv.numbered alone e)
    (ap (λ (o : Option SendRecord). is_delivery e.base (reply_to_receive (receive_record A t service) o)) alone)
receive_grows A t service inv live (Some s) met of e = elim (same_tells (endpoint_at A service.endpoint) e) [
  | inl w ↦ subst (λ (m : Instance). Grows A m (receive_accepted A t service)) w
      (ap (map delivery) (ap (λ (qs : List ReceiveRecord). zip (sends_to A (endpoint_at A service.endpoint)) qs) (receives_here A t service fresh inv.numbered)
      ∙ zip_some_right (sends_to A (endpoint_at A service.endpoint)) (receives_of A (endpoint_at A service.endpoint)) s a met)
      ∙ map-append delivery (pairs A (endpoint_at A service.endpoint)) ((s, a) ∷ [])
      ∙ ap (λ (r : Reply). map delivery (pairs A (endpoint_at A service.endpoint)) ++ r ∷ []) (sym (reply ∙ ap (λ (b : ℕ). Delivered b s.thread.base t s.badge s.message) (sym (of s refl))))
      ∙ ap (λ (xs : List Reply). map delivery (pairs A (endpoint_at A service.endpoint)) ++ xs) (sym (here_told A service.endpoint _ live (ap (is_delivery service.endpoint) reply))))
  | inr w ↦ ap (map delivery) (ap (λ (qs : List ReceiveRecord). zip (sends_to A e) qs) (receives_elsewhere A t service fresh inv.numbered e w))
      ∙ sym (append-nil (map delivery (pairs A e)))
      ∙ ap (λ (xs : List Reply). map delivery (pairs A e) ++ xs) (sym (elsewhere_silent A e service.endpoint _ w (ap (is_delivery e.base) reply)))
]
  where
    fresh : A.is_cancelled (A.count + 1) ≡ false
    fresh = inv.fresh (A.count + 1) (omega arith)

    a : ReceiveRecord
    a = receive_record A t service

    reply : reply_to_receive (receive_record A t service) (slice_get (sends_to A (endpoint_at A service.endpoint)) (length (receives_of A (endpoint_at A service.endpoint)))) ≡ Delivered service.endpoint s.thread.base t s.badge s.message
    reply = ap (reply_to_receive (receive_record A t service)) met

-- the records of an endpoint are its own
own_record : (A : State) (e : Instance) (xs : List SendRecord) (i : ℕ) (s : SendRecord) → slice_get (filter (λ (r : SendRecord). same_instance r.endpoint e && not (A.is_cancelled r.number)) xs) i ≡ Some s → s.endpoint.base ≡ e.base
own_record A e xs i s got = all_get (λ (r : SendRecord). r.endpoint.base ≡ e.base) (filter (λ (r : SendRecord). same_instance r.endpoint e && not (A.is_cancelled r.number)) xs) i s (kept xs) got
  where
    base_of : (r : SendRecord) (b : Bool) → (same_instance r.endpoint e && b) ≡ true → r.endpoint.base ≡ e.base
    base_of r b h = elim (same_tells r.endpoint e) [
      | inl w ↦ ap (λ (m : Instance). m.base) w
      | inr w ↦ absurd (false≢true (sym (ap (λ (x : Bool). x && b) w) ∙ h))
    ]

    kept : (xs : List SendRecord) → AllByRecursion (λ (r : SendRecord). r.endpoint.base ≡ e.base) (filter (λ (r : SendRecord). same_instance r.endpoint e && not (A.is_cancelled r.number)) xs)
    kept [] = tt
    kept (r ∷ rs) = elim (same_instance r.endpoint e && not (A.is_cancelled r.number)) as (λ b. (same_instance r.endpoint e && not (A.is_cancelled r.number)) ≡ b → AllByRecursion (λ (r : SendRecord). r.endpoint.base ≡ e.base) (cond b (r ∷ filter (λ (r : SendRecord). same_instance r.endpoint e && not (A.is_cancelled r.number)) rs) (filter (λ (r : SendRecord). same_instance r.endpoint e && not (A.is_cancelled r.number)) rs))) [
      | true ↦ λ h. (base_of r (not (A.is_cancelled r.number)) h, kept rs)
      | false ↦ λ h. kept rs
    ] refl

awaited_grows : (A : State) (e : Instance) (b : Bool) (accepted : Outcome) (reply : Reply) → is_delivery e.base reply ≡ false → Grows A e accepted → Grows A e (where_awaited A b accepted reply)
awaited_grows A e true accepted reply silent grows = grows
awaited_grows A e false accepted reply silent grows = same_pairs A e (record { reply = reply; state = next_call A }) refl silent

sends_grow : (p : ProfileName) (A : State) (t : ℕ) (service : Service) (message : Message) (block : Bool) → Invariant A → Passes A t (Send service message block) → (e : Instance) → Grows A e (performed p A t (Send service message block))
sends_grow p A t service message true inv pass e = send_grows A t service message inv pass.endpoint_live _ refl e
sends_grow p A t service message false inv pass e =
    awaited_grows A e (is_send_awaited A (endpoint_at A service.endpoint)) (send_accepted A t service message) Dropped refl
    (send_grows A t service message inv pass.endpoint_live _ refl e)

receives_grow : (p : ProfileName) (A : State) (t : ℕ) (service : Service) (block : Bool) → Invariant A → Passes A t (Receive service block) → (e : Instance) → Grows A e (performed p A t (Receive service block))
receives_grow p A t service true inv pass e =
    receive_grows A t service inv pass.endpoint_live _ refl (λ s is. own_record A (endpoint_at A service.endpoint) A.sends (length (receives_of A (endpoint_at A service.endpoint))) s is) e
receives_grow p A t service false inv pass e =
    awaited_grows A e (is_receive_awaited A (endpoint_at A service.endpoint)) (receive_accepted A t service) Empty refl
    (receive_grows A t service inv pass.endpoint_live _ refl (λ s is. own_record A (endpoint_at A service.endpoint) A.sends (length (receives_of A (endpoint_at A service.endpoint))) s is) e)

-- where records are cancelled, objects end or a thread is stopped, the pairs stay
cancelling_grows : (A : State) (S : SendRecord → Bool) (Q : ReceiveRecord → Bool) → Invariant A → (e : Instance) →
    Grows A e (changed_to (cancelling A S Q))
cancelling_grows A S Q inv e =
    same_pairs A e (changed_to (cancelling A S Q)) (pairs_same A S Q inv.sends_rising inv.rising inv.unshared e) refl

stopping_grows : (A : State) (t : ℕ) (inactive : Bool) → Invariant A → (e : Instance) →
    Grows A e (changed_to (stopping A (thread_at A t) inactive))
stopping_grows A t inactive inv e =
    same_pairs A e (changed_to (stopping A (thread_at A t) inactive))
    (pairs_same A (is_sent_by (thread_at A t))
    (is_received_by (thread_at A t)) inv.sends_rising inv.rising inv.unshared e) refl

ending_grows : (A : State) (g : Forest Entry) → Invariant A → (e : Instance) → Grows A e (objects_ended A g)
ending_grows A g inv e =
    same_pairs A e (objects_ended A g)
    (pairs_same A (is_send_ended A g) (is_receive_ended A g) inv.sends_rising inv.rising inv.unshared e) refl

performed_grows : (p : ProfileName) (A : State) (t : ℕ) (invocation : Invocation) → Invariant A → Passes A t invocation → (e : Instance) → Grows A e (performed p A t invocation)
performed_grows p A t (Send service message block) inv pass e = sends_grow p A t service message block inv pass e
performed_grows p A t (Receive service block) inv pass e = receives_grow p A t service block inv pass e
performed_grows p A t (Retype new) inv pass e = same_pairs A e (objects_made p A new) refl refl
performed_grows p A t (Derive placement) inv pass e = same_pairs A e (rearranged A (with_derived p placement A.derivations)) refl refl
performed_grows p A t (Move placement) inv pass e = same_pairs A e (rearranged A (with_moved placement A.derivations)) refl refl
performed_grows p A t (Delete slot) inv pass e = ending_grows A (clear p slot A.derivations) inv e
performed_grows p A t (Revoke slot) inv pass e = ending_grows A (revoke p slot A.derivations) inv e
performed_grows p A t (CancelBadged service) inv pass e =
    cancelling_grows A (is_badged_send (endpoint_at A service.endpoint) service.badge) (λ _. false) inv e
performed_grows p A t (SetSpace new) inv pass e = ending_grows A (with_space p new A.derivations) inv e
performed_grows p A t (Suspend tcb) inv pass e = stopping_grows A tcb true inv e
performed_grows p A t (Resume tcb) inv pass e = stopping_grows A tcb false inv e

outcome_grows : (p : ProfileName) (A : State) (call : Call) → Invariant A → (r : Result Invocation Refusal) → decoded_call p (shown A) call ≡ r → (e : Instance) → Grows A e (outcome p A call.thread r)
outcome_grows p A call inv (Err refusal) h e = same_pairs A e (outcome p A call.thread (Err refusal)) refl refl
outcome_grows p A call inv (Ok invocation) h e = performed_grows p A call.thread invocation inv (passes p A call invocation h) e

step_grows : (p : ProfileName) (A : State) (call : Call) → Invariant A → (e : Instance) → Grows A e (step p A call)
unfolding step
step_grows p A call inv e = outcome_grows p A call inv (decoded_call p (shown A) call) refl e

more_delivered : (b : Bool) (reply : Reply) (before rest : List Reply) → (before ++ cond b (reply ∷ []) []) ++ rest ≡ before ++ cond b (reply ∷ rest) rest
more_delivered true reply before rest = append_assoc before (reply ∷ []) rest
more_delivered false reply before rest = ap (λ (xs : List Reply). xs ++ rest) (append-nil before)

-- the pairs of an endpoint after a run are those before it and what the run delivers
pub run_grows : (p : ProfileName) (A : State) (calls : List Call) → IsReached p A → (e : Instance) → map delivery (pairs (state_after p A calls) e) ≡ map delivery (pairs A e) ++ delivered p A e calls (replies_of p A calls)
unfolding replies_of state_after
run_grows p A [] r e = sym (append-nil (map delivery (pairs A e)))
run_grows p A (call ∷ calls) r e =
    run_grows p (step p A call).state calls (reached_after p A (call ∷ []) r) e
    ∙ ap (λ (xs : List Reply). xs ++ delivered p (step p A call).state e calls (replies_of p (step p A call).state calls)) (step_grows p A call (reached_inv p A r) e)
    ∙ more_delivered (is_live A e && is_delivery e.base (step p A call).reply) (step p A call).reply (map delivery (pairs A e)) (delivered p (step p A call).state e calls (replies_of p (step p A call).state calls))

-- the same, by the replies that were appended
pub replies_grow : (p : ProfileName) (A : State) (calls : List Call) (before replies : List Reply) → IsReached p A → replies ≡ before ++ replies_of p A calls → (e : Instance) →
    map delivery (pairs (state_after p A calls) e) ≡ map delivery (pairs A e) ++ delivered p A e calls (drop (length before) replies)
replies_grow p A calls before replies r is e =
    run_grows p A calls r e
    ∙ ap (λ (xs : List Reply). map delivery (pairs A e) ++ delivered p A e calls xs) (sym (ap (drop (length before)) is ∙ drop-append_seam before (replies_of p A calls)))
