-- A thread whose call is answered that it waits is shown to wait.
use Rattle.std.proofs.Common.{◌≡◌, ◌==◌, ◌+◌, ℕ, Bool, true, false, cond, length, Option, None, Some, option_map, slice_get, Result, Ok, Err, refl, ap, ◌∙◌, arith}
use Rattle.std.specs.List.{list_any}
use Rattle.cap_core.specs.declared.message.Message.{Message}
use Rattle.cap_core.specs.declared.profile.ProfileName.{ProfileName}
use Rattle.cap_core.specs.declared.refusal.Refusal.{Refusal}
use Rattle.ipc_core.specs.Records.{SendRecord, ReceiveRecord}
use Rattle.kernel_abstract.specs.declared.call.Call.{Call}
use Rattle.kernel_abstract.specs.declared.call.Reply.TheVariants.{Done, Waiting, Dropped, Empty}
use Rattle.kernel_abstract.specs.declared.invocation.Service.{Service}
use Rattle.kernel_abstract.specs.declared.invocation.Invocation.{Invocation}
use Rattle.kernel_abstract.specs.declared.invocation.Invocation.TheVariants.{Send, Receive, Retype, Derive, Move, Delete, Revoke, CancelBadged, SetSpace, Suspend, Resume}
use Rattle.kernel_abstract.specs.Decode.{decoded_call}
use Rattle.kernel_abstract.specs.Reached.{IsReached}
use Rattle.kernel_abstract.specs.Shown.{ThreadView, threads_of, state_at}
use Rattle.kernel_abstract.specs.State.{State, sends_to, receives_of, thread_view, shown}
use Rattle.kernel_abstract.specs.Step.{step, outcome, performed, send_record, receive_record, reply_to_send, reply_to_receive, send_accepted, receive_accepted, where_awaited, is_send_awaited, is_receive_awaited}
use Rattle.kernel_abstract.proofs.Lists.Tables.{get_table}
use Rattle.kernel_abstract.proofs.Messages.WaitingReceive.{row_receives}
use Rattle.kernel_abstract.proofs.Messages.WaitingSend.{row_waits}
use Rattle.kernel_abstract.proofs.Reached.Invariant.{Invariant, Passes, passes}
use Rattle.kernel_abstract.proofs.Reached.Simulation.{reached_inv}
use Rattle.query_orders.specs.World.{is_waiting}

not_done : {Y : Type 0} → Done ≡ Waiting → Y
not_done e = absurd (cc)

not_dropped : {Y : Type 0} → Dropped ≡ Waiting → Y
not_dropped e = absurd (cc)

not_empty : {Y : Type 0} → Empty ≡ Waiting → Y
not_empty e = absurd (cc)

-- what is shown of a live thread
row_shown : (B : State) (t : ℕ) → list_any (λ k. t == k) (threads_of B.derivations) ≡ true → state_at (shown B) t ≡ Some (thread_view B t).state
unfolding shown
row_shown B t live =
    ap (option_map (λ (row : ThreadView). row.state)) (get_table (threads_of B.derivations) (thread_view B) t)
    ∙ ap (λ b. option_map (λ (row : ThreadView). row.state) (cond b (Some (thread_view B t)) None)) live

module _ (p : ProfileName) (A : State) (inv : Invariant A) (t : ℕ) where
  fresh : A.is_cancelled (A.count + 1) ≡ false
  fresh = inv.fresh (A.count + 1) (omega arith)

  sent : (service : Service) (message : Message) (block : Bool) → Passes A t (Send service message block)
      → (o : Option ReceiveRecord) → slice_get (receives_of A (send_record A t service message).endpoint) (length (sends_to A (send_record A t service message).endpoint)) ≡ o
      → reply_to_send (send_record A t service message) o ≡ Waiting → is_waiting (state_at (shown (send_accepted A t service message).state) t) ≡ true
  sent service message block passed (Some a) alone e = absurd (cc)
  sent service message block passed None alone e =
      ap is_waiting (row_shown (send_accepted A t service message).state t passed.thread_live
      ∙ ap (λ (row : ThreadView). Some row.state) (row_waits A t service message fresh alone passed.ready passed.endpoint_live))

  received : (service : Service) (block : Bool) → Passes A t (Receive service block)
      → (o : Option SendRecord) → slice_get (sends_to A (receive_record A t service).endpoint) (length (receives_of A (receive_record A t service).endpoint)) ≡ o
      → reply_to_receive (receive_record A t service) o ≡ Waiting → is_waiting (state_at (shown (receive_accepted A t service).state) t) ≡ true
  received service block passed (Some s) alone e = absurd (cc)
  received service block passed None alone e =
      ap is_waiting (row_shown (receive_accepted A t service).state t passed.thread_live
      ∙ ap (λ (row : ThreadView). Some row.state) (row_receives A t service fresh inv.numbered alone passed.ready passed.endpoint_live))

  performed_waits : (invocation : Invocation) → Passes A t invocation → (performed p A t invocation).reply ≡ Waiting → is_waiting (state_at (shown (performed p A t invocation).state) t) ≡ true
  performed_waits (Send service message true) passed e = sent service message true passed _ refl e
  performed_waits (Send service message false) passed e =
      elim (is_send_awaited A (send_record A t service message).endpoint) as (λ b. (where_awaited A b (send_accepted A t service message) Dropped).reply ≡ Waiting
      → is_waiting (state_at (shown (where_awaited A b (send_accepted A t service message) Dropped).state) t) ≡ true) [
        | true ↦ λ e. sent service message false passed _ refl e
        | false ↦ λ e. not_dropped e
      ] e
  performed_waits (Receive service true) passed e = received service true passed _ refl e
  performed_waits (Receive service false) passed e =
      elim (is_receive_awaited A (receive_record A t service).endpoint) as (λ b. (where_awaited A b (receive_accepted A t service) Empty).reply ≡ Waiting
      → is_waiting (state_at (shown (where_awaited A b (receive_accepted A t service) Empty).state) t) ≡ true) [
        | true ↦ λ e. received service false passed _ refl e
        | false ↦ λ e. not_empty e
      ] e
  performed_waits (Retype new) passed e = not_done e
  performed_waits (Derive placement) passed e = not_done e
  performed_waits (Move placement) passed e = not_done e
  performed_waits (Delete slot) passed e = not_done e
  performed_waits (Revoke slot) passed e = not_done e
  performed_waits (CancelBadged service) passed e = not_done e
  performed_waits (SetSpace new) passed e = not_done e
  performed_waits (Suspend tcb) passed e = not_done e
  performed_waits (Resume tcb) passed e = not_done e

-- a thread whose call is answered that it waits is shown to wait
pub caller_waits : (p : ProfileName) (A : State) (call : Call) → IsReached p A → (step p A call).reply ≡ Waiting → is_waiting (state_at (shown (step p A call).state) call.thread) ≡ true
unfolding step
caller_waits p A call reached e = by p A call reached (decoded_call p (shown A) call) refl e
  where
    by : (p : ProfileName) (A : State) (call : Call) → IsReached p A → (r : Result Invocation Refusal) → decoded_call p (shown A) call ≡ r → (outcome p A call.thread r).reply ≡ Waiting
        → is_waiting (state_at (shown (outcome p A call.thread r).state) call.thread) ≡ true
    by p A call reached (Err refusal) is e = absurd (cc)
    by p A call reached (Ok invocation) is e = performed_waits p A (reached_inv p A reached) call.thread invocation (passes p A call invocation is) e
