-- What the replies to calls tell of deliveries, where what is sent and received may be.
use Rattle.std.proofs.Common.{◌≡◌, ℕ, ◌+◌, Bool, true, false, not, List, [], ◌∷◌, map, ◌⊎◌, ◌∙◌, Option, Some, None, Result, Ok, Err, drop, length, slice_get, inl, inr, refl, sym, ap, subst, arith, length-append}
use Rattle.std.specs.Bool.{⊤}
use Rattle.std.specs.List.{AllByRecursion as Each, Contains}
use Rattle.cap_core.specs.declared.profile.ProfileName.{ProfileName}
use Rattle.cap_core.specs.declared.refusal.Refusal.{Refusal}
use Rattle.cap_core.specs.declared.message.Message.{Message}
use Rattle.cap_core.specs.declared.capability.Badge.{Badge}
use Rattle.kernel_delete.specs.Clear.{clear}
use Rattle.kernel_delete.specs.Revoke.{revoke}
use Rattle.kernel_forest.proofs.Trees.Forests.{each-contains, each-contained, each-weaker}
use Rattle.kernel_forest.proofs.Trees.Renamed.{contains-map}
use Rattle.std.proofs.lemmas.List.Elements.{Contains-append_left, Contains-append_right}
use Rattle.ipc_core.specs.declared.waiter.Waiter.{Waiter}
use Rattle.ipc_core.specs.declared.waiter.Waiter.TheVariants.{Sender, Receiver}
use Rattle.kernel_abstract.specs.Deliveries.{delivery}
use Rattle.ipc_core.specs.Records.{Instance, SendRecord, ReceiveRecord, sender, receiver}
use Rattle.kernel_abstract.specs.declared.call.Call.{Call}
use Rattle.kernel_abstract.specs.declared.call.Reply.{Reply}
use Rattle.kernel_abstract.specs.declared.call.Reply.TheVariants.{Done, Delivered, Waiting, Dropped, Empty, Refused}
use Rattle.kernel_abstract.specs.declared.invocation.Service.{Service}
use Rattle.kernel_abstract.specs.declared.invocation.Invocation.{Invocation}
use Rattle.kernel_abstract.specs.declared.invocation.Invocation.TheVariants.{Send, Receive, Retype, Derive, Move, Delete, Revoke, CancelBadged, SetSpace, Suspend, Resume}
use Rattle.kernel_abstract.specs.Decode.{decoded_call}
use Rattle.kernel_abstract.specs.Threads.{with_space}
use Rattle.kernel_abstract.specs.Shown.{waiting_at}
use Rattle.kernel_abstract.specs.State.{State, shown, endpoint_at, thread_at, sends_to, receives_of, waiting_sends, waiting_receives, waiters}
use Rattle.kernel_abstract.specs.Cancelling.{cancelling, is_send_ended, is_receive_ended, is_sent_by, is_received_by, is_badged_send}
use Rattle.kernel_abstract.specs.Step.{Outcome, next_call, outcome, performed, where_awaited, is_send_awaited, is_receive_awaited, send_accepted, receive_accepted, send_record, receive_record, reply_to_send, reply_to_receive, step, state_after, replies_of}
use Rattle.kernel_abstract.specs.Reached.{IsReached}
use Rattle.kernel_abstract.proofs.Lists.Paired.{drop_get, all_kept}
use Rattle.kernel_abstract.proofs.Lists.Rising.{all_joined, all_dropped_more, all_dropped_push}
use Rattle.kernel_abstract.proofs.Messages.WaitingSend.{same_tells, sends_here, sends_elsewhere}
use Rattle.kernel_abstract.proofs.Messages.WaitingReceive.{receives_here, receives_elsewhere}
use Rattle.kernel_abstract.proofs.Cancelling.InvariantKept.{sends_waiting, receives_waiting}
use Rattle.kernel_abstract.proofs.Cancelling.Waiting.{own_waiting_sends, own_waiting_receives}
use Rattle.kernel_abstract.proofs.Reached.Invariant.{Invariant, IsOpen, SendIsOpen, ReceiveIsOpen, list_shown}
use Rattle.kernel_abstract.proofs.Reached.Simulation.{reached_inv}
use Rattle.kernel_abstract.proofs.Reached.Runs.{reached_after}

-- deliveries from a state on, of sends and receives that may be made
module _ (p : ProfileName) (A : State) (MaySend : ℕ → ℕ → Badge → Type 0) (MayReceive : ℕ → ℕ → Type 0) where
  -- a send that waits in the state, or may be made; and such a receive
  abbrev pub Sent : SendRecord → Type 0
  Sent s = Contains (waiting_sends A s.endpoint) s ⊎ MaySend s.endpoint.base s.thread.base s.badge

  abbrev pub Received : ReceiveRecord → Type 0
  Received a = Contains (waiting_receives A a.endpoint) a ⊎ MayReceive a.endpoint.base a.thread.base

  pub record IsDelivered (reply : Reply) : Type 0 where
    pub send : SendRecord
    pub receive : ReceiveRecord
    pub told : reply ≡ delivery (send, receive)
    pub same_endpoint : receive.endpoint ≡ send.endpoint
    pub sent : Sent send
    pub received : Received receive

  abbrev pub Tells : Reply → Type 0
  Tells (Delivered endpoint from to badge message) = IsDelivered (Delivered endpoint from to badge message)
  Tells reply = ⊤

  -- what waits in a later state waited before, or may be sent and received
  pub record Wait (B : State) : Type 0 where
    pub sends : (e : Instance) → Each Sent (waiting_sends B e)
    pub receives : (e : Instance) → Each Received (waiting_receives B e)

  pub wait_before : Wait A
  wait_before = record {
    sends = λ e. all_joined (Contains (waiting_sends A e)) (λ (s : SendRecord). s.endpoint ≡ e) Sent
        (λ s there own. inl (subst (λ (m : Instance). Contains (waiting_sends A m) s) (sym own) there))
        (waiting_sends A e) (each-contains (waiting_sends A e)) (own_waiting_sends A e);
    receives = λ e. all_joined (Contains (waiting_receives A e)) (λ (a : ReceiveRecord). a.endpoint ≡ e) Received
        (λ a there own. inl (subst (λ (m : Instance). Contains (waiting_receives A m) a) (sym own) there))
        (waiting_receives A e) (each-contains (waiting_receives A e)) (own_waiting_receives A e);
  }

  -- what a call comes to
  pub record IsGoing (o : Outcome) : Type 0 where
    pub waits : Wait o.state
    pub told : Tells o.reply

  module _ (B : State) (inv : Invariant B) (wait : Wait B) where
    fresh : B.is_cancelled (B.count + 1) ≡ false
    fresh = inv.fresh (B.count + 1) (omega arith)

    still : Wait (next_call B)
    still = record { sends = wait.sends; receives = wait.receives }

    cancelled : (S : SendRecord → Bool) (Q : ReceiveRecord → Bool) → Wait (cancelling B S Q)
    cancelled S Q = record {
      sends = λ e. subst (Each Sent) (sym (sends_waiting B S Q inv e))
          (all_kept Sent (λ (s : SendRecord). not (S s)) (waiting_sends B e) (wait.sends e));
      receives = λ e. subst (Each Received) (sym (receives_waiting B S Q inv e))
          (all_kept Received (λ (a : ReceiveRecord). not (Q a)) (waiting_receives B e) (wait.receives e));
    }

    -- a send
    module _ (t : ℕ) (service : Service) (message : Message) (new : Sent (send_record B t service message)) where
      abbrev target : Instance
      target = endpoint_at B service.endpoint

      abbrev with_send : State
      with_send = (send_accepted B t service message).state

      sends_then : (e : Instance) → Each Sent (waiting_sends with_send e)
      sends_then e = elim (same_tells target e) [
        | inl w ↦ subst (λ (m : Instance). Each Sent (waiting_sends B m) → Each Sent (waiting_sends with_send m)) w
            (λ all. subst (λ (ss : List SendRecord). Each Sent (drop (length (receives_of B target)) ss)) (sym (sends_here B t service message fresh))
            (all_dropped_push Sent (length (receives_of B target)) (sends_to B target) (send_record B t service message) all new)) (wait.sends e)
        | inr w ↦ subst (λ (ss : List SendRecord). Each Sent (drop (length (receives_of B e)) ss)) (sym (sends_elsewhere B t service message fresh e w)) (wait.sends e)
      ]

      receives_then : (e : Instance) → Each Received (waiting_receives with_send e)
      receives_then e = elim (same_tells target e) [
        | inl w ↦ subst (λ (m : Instance). Each Received (waiting_receives B m) → Each Received (waiting_receives with_send m)) w
            (λ all. all_dropped_more Received (length (sends_to B target)) (length (sends_to with_send target)) (receives_of B target)
            (let long = ap length (sends_here B t service message fresh) in
            let more = length-append (sends_to B target) (send_record B t service message ∷ []) in
            omega (arith, long, more)) all) (wait.receives e)
        | inr w ↦ subst (λ (ss : List SendRecord). Each Received (drop (length ss) (receives_of B e))) (sym (sends_elsewhere B t service message fresh e w)) (wait.receives e)
      ]

      told_of : (o : Option ReceiveRecord) → slice_get (receives_of B target) (length (sends_to B target)) ≡ o →
          Tells (reply_to_send (send_record B t service message) o)
      told_of None met = tt
      told_of (Some a) met =
          let first = drop_get (length (sends_to B target)) (receives_of B target) a met in
          let waited = subst (Each Received) first (wait.receives target) in
          let own = subst (Each (λ (x : ReceiveRecord). x.endpoint ≡ target)) first (own_waiting_receives B target) in
          record {
            send = send_record B t service message;
            receive = a;
            told = refl;
            same_endpoint = own.0;
            sent = new;
            received = waited.0;
          }

      send_goes : IsGoing (send_accepted B t service message)
      send_goes = record {
        waits = record { sends = sends_then; receives = receives_then };
        told = told_of (slice_get (receives_of B target) (length (sends_to B target))) refl;
      }

    -- a receive
    module _ (t : ℕ) (service : Service) (new : Received (receive_record B t service)) where
      abbrev on : Instance
      on = endpoint_at B service.endpoint

      abbrev with_receive : State
      with_receive = (receive_accepted B t service).state

      receives_now : (e : Instance) → Each Received (waiting_receives with_receive e)
      receives_now e = elim (same_tells on e) [
        | inl w ↦ subst (λ (m : Instance). Each Received (waiting_receives B m) → Each Received (waiting_receives with_receive m)) w
            (λ all. subst (λ (qs : List ReceiveRecord). Each Received (drop (length (sends_to B on)) qs)) (sym (receives_here B t service fresh inv.numbered))
            (all_dropped_push Received (length (sends_to B on)) (receives_of B on) (receive_record B t service) all new)) (wait.receives e)
        | inr w ↦ subst (λ (qs : List ReceiveRecord). Each Received (drop (length (sends_to B e)) qs)) (sym (receives_elsewhere B t service fresh inv.numbered e w)) (wait.receives e)
      ]

      sends_now : (e : Instance) → Each Sent (waiting_sends with_receive e)
      sends_now e = elim (same_tells on e) [
        | inl w ↦ subst (λ (m : Instance). Each Sent (waiting_sends B m) → Each Sent (waiting_sends with_receive m)) w
            (λ all. all_dropped_more Sent (length (receives_of B on)) (length (receives_of with_receive on)) (sends_to B on)
            (let long = ap length (receives_here B t service fresh inv.numbered) in
            let more = length-append (receives_of B on) (receive_record B t service ∷ []) in
            omega (arith, long, more)) all) (wait.sends e)
        | inr w ↦ subst (λ (qs : List ReceiveRecord). Each Sent (drop (length qs) (sends_to B e))) (sym (receives_elsewhere B t service fresh inv.numbered e w)) (wait.sends e)
      ]

      told_from : (o : Option SendRecord) → slice_get (sends_to B on) (length (receives_of B on)) ≡ o →
          Tells (reply_to_receive (receive_record B t service) o)
      told_from None met = tt
      told_from (Some s) met =
          let first = drop_get (length (receives_of B on)) (sends_to B on) s met in
          let waited = subst (Each Sent) first (wait.sends on) in
          let own = subst (Each (λ (x : SendRecord). x.endpoint ≡ on)) first (own_waiting_sends B on) in
          record {
            send = s;
            receive = receive_record B t service;
            told = ap (λ (m : Instance). Delivered m.base s.thread.base t s.badge s.message) (sym own.0);
            same_endpoint = sym own.0;
            sent = waited.0;
            received = new;
          }

      receive_goes : IsGoing (receive_accepted B t service)
      receive_goes = record {
        waits = record { sends = sends_now; receives = receives_now };
        told = told_from (slice_get (sends_to B on) (length (receives_of B on))) refl;
      }

    awaited_goes : (awaited : Bool) (accepted : Outcome) (reply : Reply) → IsGoing accepted → Tells reply →
        IsGoing (where_awaited B awaited accepted reply)
    awaited_goes true accepted reply goes told = goes
    awaited_goes false accepted reply goes told = record { waits = still; told = told }

    -- what a call comes to may be sent or received
    abbrev pub Fits : ℕ → Invocation → Type 0
    Fits t (Send service message block) = MaySend service.endpoint t service.badge
    Fits t (Receive service block) = MayReceive service.endpoint t
    Fits t done = ⊤

    module _ (t : ℕ) where
      sent_goes : (service : Service) (message : Message) → MaySend service.endpoint t service.badge → IsGoing (send_accepted B t service message)
      sent_goes service message may = send_goes t service message (inr may)

      received_goes : (service : Service) → MayReceive service.endpoint t → IsGoing (receive_accepted B t service)
      received_goes service may = receive_goes t service (inr may)

      performed_goes : (done : Invocation) → Fits t done → IsGoing (performed p B t done)
      performed_goes (Send service message true) stays = sent_goes service message stays
      performed_goes (Send service message false) stays =
          awaited_goes (is_send_awaited B (endpoint_at B service.endpoint)) (send_accepted B t service message) Dropped
          (sent_goes service message stays) tt
      performed_goes (Receive service true) stays = received_goes service stays
      performed_goes (Receive service false) stays =
          awaited_goes (is_receive_awaited B (endpoint_at B service.endpoint)) (receive_accepted B t service) Empty
          (received_goes service stays) tt
      performed_goes (Retype new) stays = record { waits = record { sends = wait.sends; receives = wait.receives }; told = tt }
      performed_goes (Derive placement) stays = record { waits = record { sends = wait.sends; receives = wait.receives }; told = tt }
      performed_goes (Move placement) stays = record { waits = record { sends = wait.sends; receives = wait.receives }; told = tt }
      performed_goes (Delete slot) stays =
          let g = clear p slot B.derivations in
          let left = cancelled (is_send_ended B g) (is_receive_ended B g) in
          record { waits = record { sends = left.sends; receives = left.receives }; told = tt }
      performed_goes (Revoke slot) stays =
          let g = revoke p slot B.derivations in
          let left = cancelled (is_send_ended B g) (is_receive_ended B g) in
          record { waits = record { sends = left.sends; receives = left.receives }; told = tt }
      performed_goes (CancelBadged service) stays =
          let left = cancelled (is_badged_send (endpoint_at B service.endpoint) service.badge) (λ _. false) in
          record { waits = record { sends = left.sends; receives = left.receives }; told = tt }
      performed_goes (SetSpace new) stays =
          let g = with_space p new B.derivations in
          let left = cancelled (is_send_ended B g) (is_receive_ended B g) in
          record { waits = record { sends = left.sends; receives = left.receives }; told = tt }
      performed_goes (Suspend tcb) stays =
          let left = cancelled (is_sent_by (thread_at B tcb)) (is_received_by (thread_at B tcb)) in
          record { waits = record { sends = left.sends; receives = left.receives }; told = tt }
      performed_goes (Resume tcb) stays =
          let left = cancelled (is_sent_by (thread_at B tcb)) (is_received_by (thread_at B tcb)) in
          record { waits = record { sends = left.sends; receives = left.receives }; told = tt }

    outcome_goes : (t : ℕ) (r : Result Invocation Refusal) → ((done : Invocation) → r ≡ Ok done → Fits t done) → IsGoing (outcome p B t r)
    outcome_goes t (Err refusal) fits = record { waits = still; told = tt }
    outcome_goes t (Ok done) fits = performed_goes t done (fits done refl)

  -- runs from a later state on, of calls that may be made and leave something as it is
  module _ (Keeps : State → Type 0) (Allowed : Call → Type 0) (keeps : (B : State) (call : Call) → IsReached p B → Keeps B → Allowed call → Keeps (step p B call).state)
      (fits : (B : State) (call : Call) (done : Invocation) → IsReached p B → (inv : Invariant B) → (wait : Wait B) → Keeps B → Allowed call →
      decoded_call p (shown B) call ≡ Ok done → Fits B inv wait call.thread done) where
    step_goes : (B : State) (call : Call) → IsReached p B → Keeps B → Allowed call → Wait B → IsGoing (step p B call)
    unfolding step
    step_goes B call reached kept may wait =
        let inv = reached_inv p B reached in
        outcome_goes B inv wait call.thread (decoded_call p (shown B) call) (λ done is. fits B call done reached inv wait kept may is)

    pub run_told : (B : State) (calls : List Call) → IsReached p B → Keeps B → Each Allowed calls → Wait B → Each Tells (replies_of p B calls)
    unfolding replies_of state_after
    run_told B [] reached kept may wait = tt
    run_told B (call ∷ calls) reached kept may wait =
        let goes = step_goes B call reached kept may.0 wait in (
          goes.told,
          run_told (step p B call).state calls (reached_after p B (call ∷ []) reached) (keeps B call reached kept may.0) may.1 goes.waits,
        )

  -- the same by what is shown of the state
  abbrev pub TellsShown : Reply → Type 0
  TellsShown (Delivered endpoint from to badge message) =
      (Contains (waiting_at (shown A) endpoint) (Sender from badge message) ⊎ MaySend endpoint from badge)
      × (Contains (waiting_at (shown A) endpoint) (Receiver to) ⊎ MayReceive endpoint to)
  TellsShown reply = ⊤

  module _ (inv : Invariant A) where
    listed : (e m : Instance) → IsOpen A e m → waiters A e ≡ waiting_at (shown A) e.base
    listed e m stands = ap (waiters A) stands.endpoint_is ∙ sym (list_shown A e.base stands.endpoint_live)

    sender_shown : (s : SendRecord) → Contains (waiting_sends A s.endpoint) s → Contains (waiting_at (shown A) s.endpoint.base) (sender s)
    sender_shown s there =
        let stands = each-contained (SendIsOpen A) (waiting_sends A s.endpoint) s (inv.sends_open s.endpoint) there in
        subst (λ (list : List Waiter). Contains list (sender s)) (listed s.endpoint s.thread stands)
        (Contains-append_left (map sender (waiting_sends A s.endpoint)) (map receiver (waiting_receives A s.endpoint)) (sender s)
        (contains-map sender (waiting_sends A s.endpoint) s there))

    receiver_shown : (a : ReceiveRecord) → Contains (waiting_receives A a.endpoint) a → Contains (waiting_at (shown A) a.endpoint.base) (receiver a)
    receiver_shown a there =
        let stands = each-contained (ReceiveIsOpen A) (waiting_receives A a.endpoint) a (inv.receives_open a.endpoint) there in
        subst (λ (list : List Waiter). Contains list (receiver a)) (listed a.endpoint a.thread stands)
        (Contains-append_right (map sender (waiting_sends A a.endpoint)) (map receiver (waiting_receives A a.endpoint)) (receiver a)
        (contains-map receiver (waiting_receives A a.endpoint) a there))

    may_send : (s : SendRecord) → Sent s → Contains (waiting_at (shown A) s.endpoint.base) (sender s) ⊎ MaySend s.endpoint.base s.thread.base s.badge
    may_send s (inl waits) = inl (sender_shown s waits)
    may_send s (inr within) = inr within

    may_receive : (a : ReceiveRecord) → Received a → Contains (waiting_at (shown A) a.endpoint.base) (receiver a) ⊎ MayReceive a.endpoint.base a.thread.base
    may_receive a (inl waits) = inl (receiver_shown a waits)
    may_receive a (inr within) = inr within

    pub those : (reply : Reply) → Tells reply → TellsShown reply
    those Done told = tt
    those Waiting told = tt
    those Dropped told = tt
    those Empty told = tt
    those (Refused refusal) told = tt
    those (Delivered endpoint from to badge message) told =
        subst TellsShown (sym told.told) (
          may_send told.send told.sent,
          subst (λ (e : Instance). Contains (waiting_at (shown A) e.base) (Receiver told.receive.thread.base) ⊎ MayReceive e.base told.receive.thread.base) told.same_endpoint (may_receive told.receive told.received),
        )
