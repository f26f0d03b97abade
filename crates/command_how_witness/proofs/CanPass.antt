-- A message passes between two threads that are ready and have words for an endpoint.
use Rattle.std.proofs.Common.{◌≡◌, ◌≢◌, inl, inr, ℕ, zero, suc, ◌+◌, ◌≤◌, refl, sym, ap, subst, ◌∙◌, arith, Bool, true, false, cond, ◌==◌, List, [], ◌∷◌, ◌++◌, length, take, Option, Some, None, option_map, unwrap_or, is_some, Result, Ok, eq-eqb}
use Rattle.std.specs.List.{AllByRecursion as Each}
use Rattle.std.specs.FinMap.{get, insert}
use Rattle.std.proofs.lemmas.Bool.{ne_eqb}
use Rattle.cap_core.specs.declared.profile.ProfileName.{ProfileName}
use Rattle.cap_core.specs.declared.capability.Badge.{Badge}
use Rattle.cap_core.specs.declared.capability.Cap.{Cap}
use Rattle.cap_core.specs.declared.capability.Cap.TheVariants.{Endpoint}
use Rattle.cap_core.specs.declared.message.Message.{Message}
use Rattle.cap_core.specs.declared.rights.Rights.{Rights}
use Rattle.cap_core.specs.Rights.{write_bit, read_bit}
use Rattle.cap_core.specs.Checks.{◌>>=◌}
use Rattle.kernel_forest.specs.Forest.{Forest}
use Rattle.kernel_forest.specs.Entries.{Entry, cap_at}
use Rattle.ipc_core.specs.declared.waiter.Waiter.{Waiter}
use Rattle.ipc_core.specs.declared.waiter.Waiter.TheVariants.{Sender, Receiver}
use Rattle.kernel_abstract.specs.declared.call.Call.{Call}
use Rattle.kernel_abstract.specs.declared.call.Op.TheVariants as op
use Rattle.kernel_abstract.specs.declared.call.Reply.{Reply}
use Rattle.kernel_abstract.specs.declared.call.Reply.TheVariants.{Delivered}
use Rattle.kernel_abstract.specs.declared.call.ThreadState.{ThreadState}
use Rattle.kernel_abstract.specs.declared.call.ThreadState.TheVariants.{Ready, Receiving}
use Rattle.kernel_abstract.specs.declared.invocation.Service.{Service}
use Rattle.kernel_abstract.specs.declared.invocation.Invocation.{Invocation}
use Rattle.kernel_abstract.specs.declared.invocation.Invocation.TheVariants as invocation
use Rattle.kernel_abstract.specs.declared.reason.Reason.{Reason}
use Rattle.kernel_abstract.specs.declared.reason.Word.TheVariants.{Invoked}
use Rattle.kernel_abstract.specs.Reasons.{with_refusal}
use Rattle.kernel_abstract.specs.Lookups.{slot_by_word}
use Rattle.kernel_abstract.specs.Decode.{has_right, checked_send, checked_receive, checked_invocation, checked_op, decoded_call, ensure_ready, ensure_live}
use Rattle.kernel_abstract.specs.Shown.{Shown, ThreadView, state_at, waiting_at, inbox_at}
use Rattle.kernel_abstract.specs.State.{State, shown}
use Rattle.kernel_abstract.specs.Step.{step, replies_of, state_after}
use Rattle.kernel_abstract.specs.Reached.{IsReached}
use Rattle.kernel_abstract.specs.Private.Effects.{Effect, with_message, effect_of, decoded_effect, send_effect, receive_effect}
use Rattle.kernel_abstract.proofs.Checks.Walked.{word_found}
use Rattle.kernel_abstract.proofs.Lists.Tables.{get_after}
use Rattle.kernel_abstract.proofs.Reached.Equations.{shown-derivations}
use Rattle.kernel_abstract.proofs.Reached.Runs.{replies_of-nil, replies_of-cons, state_after-nil, state_after-cons}
use Rattle.kernel_abstract.proofs.Reached.Simulation.{Reached, reached_is, reached_step, simulates}
use Rattle.command_never.specs.Still.{IsReadyToPass}
use Rattle.command_how_witness.specs.Still.{HoldsEndpoint, SendsOrReceives, PassesMessage, CanPass}
use Rattle.command_how_witness.proofs.SlotWords.{has_word}

-- ---- a ready thread's call by a word for an endpoint's capability

ready_checked : (state : ThreadState) (found : Result Invocation Reason) → state ≡ Ready → ensure_ready state found ≡ found
ready_checked state found ready = ap (λ (s : ThreadState). ensure_ready s found) ready

live_checked : (o : Option ThreadView) (found : Result Invocation Reason) → option_map (λ (thread : ThreadView). thread.state) o ≡ Some Ready → ensure_live o found ≡ found
live_checked None found ready = cc
live_checked (Some thread) found ready = (let is : thread.state ≡ Ready = cc in ready_checked thread.state found is)

-- a word of a thread leads to a capability to an endpoint, with a badge and a right
record Serves (p : ProfileName) (f : Forest Entry) (right thread word endpoint : ℕ) (badge : Badge) : Type 0 where
  slot : ℕ
  rights : Rights
  found : slot_by_word p f Invoked thread word ≡ Ok slot
  cap : cap_at f slot ≡ Endpoint endpoint badge rights
  allows : has_right right rights ≡ true

abbrev service_of : ℕ → Badge → Service
service_of endpoint badge = record { endpoint = endpoint; badge = badge }

abbrev sending : ℕ → ℕ → Message → Call
sending thread word message = record { thread = thread; op = op.Send word message }

abbrev receiving : ℕ → ℕ → Call
receiving thread word = record { thread = thread; op = op.Recv word }

send_checked : (slot endpoint : ℕ) (badge : Badge) (rights : Rights) (cap : Cap) (message : Message) → cap ≡ Endpoint endpoint badge rights → has_right write_bit rights ≡ true →
    checked_send slot cap message true ≡ Ok (invocation.Send (service_of endpoint badge) message true)
send_checked slot endpoint badge rights cap message is allows = rw (is, allows) refl

receive_checked : (slot endpoint : ℕ) (badge : Badge) (rights : Rights) (cap : Cap) → cap ≡ Endpoint endpoint badge rights → has_right read_bit rights ≡ true →
    checked_receive slot cap true ≡ Ok (invocation.Receive (service_of endpoint badge) true)
receive_checked slot endpoint badge rights cap is allows = rw (is, allows) refl

module _ (p : ProfileName) (v : Shown) (thread word endpoint : ℕ) (badge : Badge) (ready : state_at v thread ≡ Some Ready) where
  send_decoded : (message : Message) → Serves p v.derivations write_bit thread word endpoint badge →
      decoded_call p v (sending thread word message) ≡ Ok (invocation.Send (service_of endpoint badge) message true)
  send_decoded message s =
      let found = ap (λ (r : Result ℕ Reason). r >>= checked_invocation p v.derivations thread (op.Send word message)) s.found in
      ap with_refusal (live_checked (get v.threads thread) (checked_op p v.derivations thread (op.Send word message)) ready
      ∙ (found ∙ send_checked s.slot endpoint badge s.rights (cap_at v.derivations s.slot) message s.cap s.allows))

  receive_decoded : Serves p v.derivations read_bit thread word endpoint badge →
      decoded_call p v (receiving thread word) ≡ Ok (invocation.Receive (service_of endpoint badge) true)
  receive_decoded s =
      let found = ap (λ (r : Result ℕ Reason). r >>= checked_invocation p v.derivations thread (op.Recv word)) s.found in
      ap with_refusal (live_checked (get v.threads thread) (checked_op p v.derivations thread (op.Recv word)) ready
      ∙ (found ∙ receive_checked s.slot endpoint badge s.rights (cap_at v.derivations s.slot) s.cap s.allows))

-- ---- what changes where one waiter is served

view_among : (b : Bool) (row : ThreadView) (o : Option ThreadView) → row.state ≡ Ready → option_map (λ (thread : ThreadView). thread.state) o ≡ Some Ready →
    option_map (λ (thread : ThreadView). thread.state) (cond b (Some row) o) ≡ Some Ready
view_among true row o made ready = ap Some made
view_among false row o made ready = ready

-- a thread that is ready is so when another one, or this one, becomes ready
stays_ready : (v : Shown) (other t : ℕ) (row : ThreadView) → row.state ≡ Ready → state_at v t ≡ Some Ready →
    option_map (λ (thread : ThreadView). thread.state) (get (insert v.threads other row) t) ≡ Some Ready
stays_ready v other t row made ready = ap (option_map (λ (thread : ThreadView). thread.state)) (get_after v.threads other row t) ∙ view_among (t == other) row (get v.threads t) made ready

list_put : (v : Shown) (e : ℕ) (list : List Waiter) → unwrap_or (get (insert v.endpoints e list) e) [] ≡ list
list_put v e list = ap (λ (o : Option (List Waiter)). unwrap_or o []) (get_after v.endpoints e list e ∙ ap (λ (b : Bool). cond b (Some list) (get v.endpoints e)) (eq-eqb e e refl))

-- both threads are live
abbrev pub AreBothLive : ℕ → ℕ → Shown → Type 0
AreBothLive from to v = (is_some (state_at v from) ≡ true) × (is_some (state_at v to) ≡ true)

-- both are live after each of the calls
abbrev pub StayBothLive : ProfileName → ℕ → ℕ → State → List Call → Type 0
StayBothLive p from to A calls = (n : ℕ) → n ≤ length calls → AreBothLive from to (shown (state_after p A (take n calls)))

live_none : (p : ProfileName) (from to : ℕ) (A : State) → AreBothLive from to (shown A) → StayBothLive p from to A []
live_none p from to A live zero low = subst (λ (B : State). AreBothLive from to (shown B)) (sym (state_after-nil p A)) live
live_none p from to A live (suc n) low = absurd (omega (arith, low))

live_more : (p : ProfileName) (from to : ℕ) (A : State) (call : Call) (calls : List Call) → AreBothLive from to (shown A) → StayBothLive p from to (step p A call).state calls →
    StayBothLive p from to A (call ∷ calls)
live_more p from to A call calls live later zero low = subst (λ (B : State). AreBothLive from to (shown B)) (sym (state_after-nil p A)) live
live_more p from to A call calls live later (suc n) low =
    subst (λ (B : State). AreBothLive from to (shown B)) (sym (state_after-cons p A call (take n calls))) (later n (omega (arith, low)))

-- both threads are ready, and these wait on the endpoint
record Stand (f : Forest Entry) (endpoint from to : ℕ) (list : List Waiter) (v : Shown) : Type 0 where
  forest : v.derivations ≡ f
  from_ready : state_at v from ≡ Some Ready
  to_ready : state_at v to ≡ Some Ready
  waits : waiting_at v endpoint ≡ list

module _ (p : ProfileName) (memory : ℕ) (f : Forest Entry) (endpoint from to : ℕ) (badge other : Badge) (message : Message) (send_word receive_word : ℕ)
    (two : from ≢ to) (sends : Serves p f write_bit from send_word endpoint badge) (receives : Serves p f read_bit to receive_word endpoint other) where
  abbrev send : Call
  send = sending from send_word message

  abbrev receive : Call
  receive = receiving to receive_word

  -- the effects of both calls, by the waiting list
  sent : (v : Shown) (list : List Waiter) → v.derivations ≡ f → state_at v from ≡ Some Ready → waiting_at v endpoint ≡ list →
      effect_of p v send ≡ send_effect v from (service_of endpoint badge) message true list
  sent v list same ready waits =
      ap (decoded_effect p v from) (send_decoded p v from send_word endpoint badge ready message (subst (λ (g : Forest Entry). Serves p g write_bit from send_word endpoint badge) (sym same) sends))
      ∙ ap (send_effect v from (service_of endpoint badge) message true) waits

  received : (v : Shown) (list : List Waiter) → v.derivations ≡ f → state_at v to ≡ Some Ready → waiting_at v endpoint ≡ list →
      effect_of p v receive ≡ receive_effect v to (service_of endpoint other) true list
  received v list same ready waits =
      ap (decoded_effect p v to) (receive_decoded p v to receive_word endpoint other ready (subst (λ (g : Forest Entry). Serves p g read_bit to receive_word endpoint other) (sym same) receives))
      ∙ ap (receive_effect v to (service_of endpoint other) true) waits

  -- a send serves a receiver that waits first, and a receive a sender
  sent_first : (v : Shown) (first : ℕ) (list : List Waiter) → Stand f endpoint from to (Receiver first ∷ list) v → Stand f endpoint from to list (effect_of p v send).after
  sent_first v first list s = subst (λ (x : Effect). Stand f endpoint from to list x.after) (sym (sent v (Receiver first ∷ list) s.forest s.from_ready s.waits)) (record {
    forest = s.forest;
    from_ready = stays_ready v first from (with_message badge message) refl s.from_ready;
    to_ready = stays_ready v first to (with_message badge message) refl s.to_ready;
    waits = list_put v endpoint list;
  })

  received_first : (v : Shown) (first : ℕ) (sent_badge : Badge) (body : Message) (list : List Waiter) → Stand f endpoint from to (Sender first sent_badge body ∷ list) v →
      Stand f endpoint from to list (effect_of p v receive).after
  received_first v first sent_badge body list s =
      let row : ThreadView = record { state = Ready; inbox = inbox_at v first } in
      let w : Shown = record v { threads = insert v.threads first row } in
      subst (λ (x : Effect). Stand f endpoint from to list x.after) (sym (received v (Sender first sent_badge body ∷ list) s.forest s.to_ready s.waits)) (record {
        forest = s.forest;
        from_ready = stays_ready w to from (with_message sent_badge body) refl (stays_ready v first from row refl s.from_ready);
        to_ready = stays_ready w to to (with_message sent_badge body) refl (stays_ready v first to row refl s.to_ready);
        waits = list_put w endpoint list;
      })

  -- where nobody waits, a receive waits alone, and a send is delivered to it
  record Awaits (v : Shown) : Type 0 where
    forest : v.derivations ≡ f
    from_ready : state_at v from ≡ Some Ready
    waits : waiting_at v endpoint ≡ Receiver to ∷ []

  received_last : (v : Shown) → Stand f endpoint from to [] v → Awaits (effect_of p v receive).after
  received_last v s =
      let row : ThreadView = record { state = Receiving endpoint; inbox = inbox_at v to } in
      subst (λ (x : Effect). Awaits x.after) (sym (received v [] s.forest s.to_ready s.waits)) (record {
        forest = s.forest;
        from_ready = ap (option_map (λ (thread : ThreadView). thread.state)) (get_after v.threads to row from)
            ∙ (ap (λ (b : Bool). option_map (λ (thread : ThreadView). thread.state) (cond b (Some row) (get v.threads from))) (ne_eqb from to two) ∙ s.from_ready);
        waits = list_put v endpoint (Receiver to ∷ []);
      })

  received_live : (v : Shown) → Stand f endpoint from to [] v → is_some (state_at (effect_of p v receive).after to) ≡ true
  received_live v s =
      let row : ThreadView = record { state = Receiving endpoint; inbox = inbox_at v to } in
      subst (λ (x : Effect). is_some (state_at x.after to) ≡ true) (sym (received v [] s.forest s.to_ready s.waits))
      (ap (λ (o : Option ThreadView). is_some (option_map (λ (thread : ThreadView). thread.state) o)) (get_after v.threads to row to)
      ∙ ap (λ (b : Bool). is_some (option_map (λ (thread : ThreadView). thread.state) (cond b (Some row) (get v.threads to)))) (eq-eqb to to refl))

  sent_live : (v : Shown) → Awaits v → AreBothLive from to (effect_of p v send).after
  sent_live v s =
      let row : ThreadView = with_message badge message in
      subst (λ (x : Effect). AreBothLive from to x.after) (sym (sent v (Receiver to ∷ []) s.forest s.from_ready s.waits)) (
        ap is_some (stays_ready v to from row refl s.from_ready),
        ap (λ (o : Option ThreadView). is_some (option_map (λ (thread : ThreadView). thread.state) o)) (get_after v.threads to row to)
            ∙ ap (λ (b : Bool). is_some (option_map (λ (thread : ThreadView). thread.state) (cond b (Some row) (get v.threads to)))) (eq-eqb to to refl),
      )

  sent_last : (v : Shown) → Awaits v → (effect_of p v send).reply ≡ Delivered endpoint from to badge message
  sent_last v s = ap (λ (x : Effect). x.reply) (sent v (Receiver to ∷ []) s.forest s.from_ready s.waits)

  -- ---- the run: who waits is served first

  record Passed (A : State) (waiting : ℕ) : Type 0 where
    calls : List Call
    kinds : Each (SendsOrReceives from to) calls
    many : length calls ≡ waiting + 2
    live : StayBothLive p from to A calls
    earlier : List Reply
    answered : replies_of p A calls ≡ earlier ++ Delivered endpoint from to badge message ∷ []

  stands_after : (A : State) (call : Call) (list : List Waiter) → Reached p memory A → Stand f endpoint from to list (effect_of p (shown A) call).after →
      Stand f endpoint from to list (shown (step p A call).state)
  stands_after A call list reached s = subst (Stand f endpoint from to list) (simulates p memory A reached call).1 s

  both_live : (list : List Waiter) (v : Shown) → Stand f endpoint from to list v → AreBothLive from to v
  both_live list v s = (ap is_some s.from_ready, ap is_some s.to_ready)

  one_more : (A : State) (call : Call) (waiting : ℕ) → SendsOrReceives from to call → AreBothLive from to (shown A) → Passed (step p A call).state waiting → Passed A (suc waiting)
  one_more A call waiting kind live later = record {
    calls = call ∷ later.calls;
    kinds = (kind, later.kinds);
    many = (let many = later.many in omega arith);
    live = live_more p from to A call later.calls live later.live;
    earlier = (step p A call).reply ∷ later.earlier;
    answered = replies_of-cons p A call later.calls ∙ ap (λ (rs : List Reply). (step p A call).reply ∷ rs) later.answered;
  }

  passed : (list : List Waiter) (A : State) → Reached p memory A → Stand f endpoint from to list (shown A) → Passed A (length list)
  passed [] A reached s =
      let B : State = (step p A receive).state in
      let waits : Awaits (shown B) = subst Awaits (simulates p memory A reached receive).1 (received_last (shown A) s) in
      let told : (step p B send).reply ≡ Delivered endpoint from to badge message =
      sym (simulates p memory B (reached_step p memory A receive reached) send).0 ∙ sent_last (shown B) waits in
      record {
        calls = receive ∷ send ∷ [];
        kinds = (inr (refl, tt), (inl (refl, tt), tt));
        many = refl;
        live =
            live_more p from to A receive (send ∷ []) (both_live [] (shown A) s)
            (live_more p from to B send []
            (ap is_some waits.from_ready, subst (λ (v : Shown). is_some (state_at v to) ≡ true) (simulates p memory A reached receive).1 (received_live (shown A) s))
            (live_none p from to (step p B send).state
            (subst (AreBothLive from to) (simulates p memory B (reached_step p memory A receive reached) send).1 (sent_live (shown B) waits))));
        earlier = (step p A receive).reply ∷ [];
        answered = replies_of-cons p A receive (send ∷ [])
            ∙ ap (λ (rs : List Reply). (step p A receive).reply ∷ rs)
            (replies_of-cons p B send [] ∙ (ap (λ (rs : List Reply). (step p B send).reply ∷ rs) (replies_of-nil p (step p B send).state) ∙ ap (λ (r : Reply). r ∷ []) told));
      }
  passed (Receiver first ∷ list) A reached s =
      one_more A send (length list) (inl (refl, tt)) (both_live (Receiver first ∷ list) (shown A) s)
      (passed list (step p A send).state (reached_step p memory A send reached) (stands_after A send list reached (sent_first (shown A) first list s)))
  passed (Sender first sent_badge body ∷ list) A reached s =
      one_more A receive (length list) (inr (refl, tt)) (both_live (Sender first sent_badge body ∷ list) (shown A) s)
      (passed list (step p A receive).state (reached_step p memory A receive reached) (stands_after A receive list reached (received_first (shown A) first sent_badge body list s)))

-- ---- the law

-- a thread has a word for the capability that a slot of its CNode holds
serves : (p : ProfileName) (A : State) (right thread endpoint : ℕ) (badge : Badge) → IsReached p A → IsReadyToPass p (shown A) thread →
    HoldsEndpoint p A.derivations right thread endpoint badge → (word : ℕ) × Serves p A.derivations right thread word endpoint badge
unfolding shown
serves p A right thread endpoint badge is ready holds =
    let named = has_word p is.plan.memory_bits (shown A) (reached_is p A is).store.lawful thread ready holds.slot holds.inside in
    (named.0, record { slot = holds.slot; rights = holds.rights; found = word_found p A.derivations Invoked thread named.0 holds.slot named.1; cap = holds.cap; allows = holds.allows })

-- the message passes, and both threads stay live
pub record PassesLive (p : ProfileName) (A : State) (endpoint from to : ℕ) (badge : Badge) (message : Message) : Type 0 where
  pub passes : PassesMessage p A endpoint from to badge message
  pub live : StayBothLive p from to A passes.calls

pub passes_live : (p : ProfileName) (A : State) (endpoint from to : ℕ) (badge other : Badge) (message : Message) → IsReached p A →
    IsReadyToPass p (shown A) from → IsReadyToPass p (shown A) to → from ≢ to →
    HoldsEndpoint p A.derivations write_bit from endpoint badge → HoldsEndpoint p A.derivations read_bit to endpoint other → PassesLive p A endpoint from to badge message
passes_live p A endpoint from to badge other message is from_ready to_ready two from_holds to_holds =
    let sends = serves p A write_bit from endpoint badge is from_ready from_holds in
    let receives = serves p A read_bit to endpoint other is to_ready to_holds in
    let run = passed p is.plan.memory_bits A.derivations endpoint from to badge other message sends.0 receives.0 two sends.1 receives.1
    (waiting_at (shown A) endpoint) A (reached_is p A is)
    (record { forest = shown-derivations A; from_ready = from_ready.ready; to_ready = to_ready.ready; waits = refl }) in
    record { passes = record { calls = run.calls; kinds = run.kinds; many = run.many; earlier = run.earlier; answered = run.answered }; live = run.live }

pub can_pass : (p : ProfileName) (A : State) (endpoint from to : ℕ) (badge other : Badge) (message : Message) → CanPass p A endpoint from to badge other message
can_pass p A endpoint from to badge other message is from_ready to_ready two from_holds to_holds =
    (passes_live p A endpoint from to badge other message is from_ready to_ready two from_holds to_holds).passes
