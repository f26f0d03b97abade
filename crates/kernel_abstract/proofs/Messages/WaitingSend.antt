-- A send, in the abstract state.
use Rattle.std.proofs.Common.{◌≡◌, ◌≢◌, ℕ, suc, ◌+◌, ◌<◌, ◌≤◌, Bool, true, false, not, cond, ◌==◌, ◌&&◌, List, [], ◌∷◌, ◌++◌, map, filter, find, length, drop, Option, None, Some, slice_get, refl, sym, ap, subst, ◌∙◌, arith, inl, inr, eq-eqb, length-append, ◌⊎◌, IsSome}
use Rattle.std.proofs.lemmas.Bool.Decides.{eqb_tells}
use Rattle.std.specs.FinMap.{get, insert}
use Rattle.kernel_abstract.proofs.Lists.Tables.{get_table, table_changed}
use Rattle.std.specs.List.{list_any, zip, filter_map}
use Rattle.std.proofs.lemmas.Bool.{ne_eqb}
use Rattle.std.proofs.lemmas.List.{drop-append-le, map-append, append-nil}
use Rattle.std.proofs.lemmas.List.Elements.{filter-append}
use Rattle.kernel_abstract.proofs.Lists.Paired.{drop_all, get_none, drop_get, get_within, zip_more_none, find_one, any_push_false, any_push_true}
use Rattle.kernel_abstract.specs.declared.call.ThreadState.{ThreadState}
use Rattle.kernel_abstract.specs.declared.call.ThreadState.TheVariants.{Ready, Inactive, Sending}
use Rattle.kernel_abstract.specs.declared.invocation.Service.{Service}
use Rattle.ipc_core.specs.Records.{ReceiveRecord, Instance, SendRecord, receiver, same_instance, sender, waiting_list}
use Rattle.cap_core.specs.declared.message.Message.{Message}
use Rattle.kernel_abstract.specs.State.{State, receives_of, endpoint_at, first_of, inbox_of, inbox_with, is_receiving, is_sending, last_completed, pairs, sends_to, shown, state_of, thread_at, thread_view, waiters, waiting_sends}
use Rattle.ipc_core.specs.declared.waiter.Waiter.{Waiter}
use Rattle.kernel_abstract.specs.Private.Effects.{changed}
use Rattle.kernel_abstract.specs.Step.{next_call, send_record}
use Rattle.kernel_abstract.specs.Shown.{endpoints_of, table, threads_of}
use Rattle.ipc_core.specs.Waits.{first_receiver}

pub same_itself : (m : Instance) → same_instance m m ≡ true
same_itself m = ap (λ (b : Bool). b && (m.birth == m.birth)) (eq-eqb m.base m.base refl) ∙ eq-eqb m.birth m.birth refl

pub not_same : (m n : Instance) → m.base ≢ n.base → same_instance m n ≡ false
not_same m n h = ap (λ (b : Bool). b && (m.birth == n.birth)) (ne_eqb m.base n.base h)

same_parts : (m n : Instance) → m.base ≡ n.base → m.birth ≡ n.birth → m ≡ n
same_parts m n d e = λ i. record { base = d i; birth = e i }

pub same_tells : (m n : Instance) → (m ≡ n) ⊎ (same_instance m n ≡ false)
same_tells m n = elim (eqb_tells m.base n.base) [
  | inl w ↦ elim (eqb_tells m.birth n.birth) [
    | inl u ↦ inl (same_parts m n w.1 u.1)
    | inr u ↦ inr (ap (λ (b : Bool). b && (m.birth == n.birth)) w.0 ∙ u.0)
  ]
  | inr w ↦ inr (ap (λ (b : Bool). b && (m.birth == n.birth)) w.0)
]

-- a thread that is ready sends nowhere
none_found : (o r : Option ℕ) (other : ThreadState) → first_of o r other ≡ Ready → o ≡ None
none_found None r other h = refl
none_found (Some e) r other h = cc

pub in_table : {X : Type 0} (keys : List ℕ) (f : ℕ → X) (q : ℕ) → list_any (λ k. q == k) keys ≡ true → IsSome (get (table keys f) q)
in_table keys f q there = subst IsSome (sym (get_table keys f q ∙ ap (λ (b : Bool). cond b (Some (f q)) None) there)) refl

one_longer : (ss : List SendRecord) (s : SendRecord) → length (ss ++ s ∷ []) ≡ suc (length ss)
one_longer ss s = length-append ss (s ∷ []) ∙ omega arith

pub list_waits : (ss : List SendRecord) (qs : List ReceiveRecord) (s : SendRecord) → slice_get qs (length ss) ≡ None → waiting_list (ss ++ s ∷ []) qs ≡ waiting_list ss qs ++ sender s ∷ []
list_waits ss qs s none =
    let le : length qs ≤ length ss = get_none (length ss) qs none in
    let longer = one_longer ss s in
    let nobody : drop (length ss) qs ≡ [] = drop_all (length ss) qs le in
    let nobody' : drop (length (ss ++ s ∷ [])) qs ≡ [] = drop_all (length (ss ++ s ∷ [])) qs (omega arith) in
    ap (λ (xs : List SendRecord). map sender xs ++ map receiver (drop (length (ss ++ s ∷ [])) qs)) (drop-append-le (length qs) ss (s ∷ []) le)
    ∙ ap (λ (xs : List ReceiveRecord). map sender (drop (length qs) ss ++ s ∷ []) ++ map receiver xs) nobody'
    ∙ append-nil (map sender (drop (length qs) ss ++ s ∷ []))
    ∙ map-append sender (drop (length qs) ss) (s ∷ [])
    ∙ ap (λ (xs : List Waiter). xs ++ sender s ∷ []) (sym (ap (λ (xs : List ReceiveRecord). map sender (drop (length qs) ss) ++ map receiver xs) nobody ∙ append-nil (map sender (drop (length qs) ss))))

pub list_serves : (ss : List SendRecord) (qs : List ReceiveRecord) (s : SendRecord) (a : ReceiveRecord) → slice_get qs (length ss) ≡ Some a → waiting_list ss qs ≡ receiver a ∷ waiting_list (ss ++ s ∷ []) qs
list_serves ss qs s a some =
    let lt : length ss < length qs = get_within (length ss) qs a some in
    let longer = one_longer ss s in
    let none : drop (length qs) ss ≡ [] = drop_all (length qs) ss (omega arith) in
    let none' : drop (length qs) (ss ++ s ∷ []) ≡ [] = drop_all (length qs) (ss ++ s ∷ []) (omega arith) in
    ap (λ (xs : List SendRecord). map sender xs ++ map receiver (drop (length ss) qs)) none
    ∙ ap (map receiver) (drop_get (length ss) qs a some)
    ∙ ap (λ (n : ℕ). receiver a ∷ map receiver (drop n qs)) (sym longer)
    ∙ sym (ap (λ (xs : List SendRecord). receiver a ∷ (map sender xs ++ map receiver (drop (length (ss ++ s ∷ [])) qs))) none')

senders_first : (ss : List SendRecord) → first_receiver (map sender ss) ≡ None
senders_first [] = refl
senders_first (s ∷ ss) = refl

pub no_receiver : (ss : List SendRecord) (qs : List ReceiveRecord) → slice_get qs (length ss) ≡ None → first_receiver (waiting_list ss qs) ≡ None
no_receiver ss qs none =
    ap (λ (xs : List ReceiveRecord). first_receiver (map sender (drop (length qs) ss) ++ map receiver xs)) (drop_all (length ss) qs (get_none (length ss) qs none))
    ∙ ap first_receiver (append-nil (map sender (drop (length qs) ss)))
    ∙ senders_first (drop (length qs) ss)

pub a_receiver : (ss : List SendRecord) (qs : List ReceiveRecord) (s : SendRecord) (a : ReceiveRecord) → slice_get qs (length ss) ≡ Some a → first_receiver (waiting_list ss qs) ≡ Some a.thread.base
a_receiver ss qs s a some = ap first_receiver (list_serves ss qs s a some)

module _ (A : State) (t : ℕ) (service : Service) (message : Message) (fresh : A.is_cancelled (A.count + 1) ≡ false) where
  abbrev pub record_sent : SendRecord
  record_sent = send_record A t service message

  -- the state after the send
  abbrev pub after_send : State
  after_send = record (next_call A) { sends = A.sends ++ record_sent ∷ [] }

  pub sends_here : sends_to after_send record_sent.endpoint ≡ sends_to A record_sent.endpoint ++ record_sent ∷ []
  sends_here =
      filter-append (λ (s : SendRecord). same_instance s.endpoint record_sent.endpoint && not (A.is_cancelled s.number)) A.sends (record_sent ∷ [])
      ∙ ap (λ (b : Bool). sends_to A record_sent.endpoint ++ cond (b && not (A.is_cancelled (A.count + 1))) (record_sent ∷ []) []) (same_itself record_sent.endpoint)
      ∙ ap (λ (b : Bool). sends_to A record_sent.endpoint ++ cond (not b) (record_sent ∷ []) []) fresh

  pub sends_elsewhere : (q : Instance) → same_instance record_sent.endpoint q ≡ false → sends_to after_send q ≡ sends_to A q
  sends_elsewhere q other =
      filter-append (λ (s : SendRecord). same_instance s.endpoint q && not (A.is_cancelled s.number)) A.sends (record_sent ∷ [])
      ∙ ap (λ (b : Bool). sends_to A q ++ cond (b && not (A.is_cancelled (A.count + 1))) (record_sent ∷ []) []) other
      ∙ append-nil (sends_to A q)

  pub waiters_elsewhere : (q : Instance) → same_instance record_sent.endpoint q ≡ false → waiters after_send q ≡ waiters A q
  waiters_elsewhere q other = ap (λ (ss : List SendRecord). waiting_list ss (receives_of A q)) (sends_elsewhere q other)

  module _ (alone : slice_get (receives_of A record_sent.endpoint) (length (sends_to A record_sent.endpoint)) ≡ None) where
    pub waiters_here : waiters after_send record_sent.endpoint ≡ waiters A record_sent.endpoint ++ sender record_sent ∷ []
    waiters_here = ap (λ (ss : List SendRecord). waiting_list ss (receives_of A record_sent.endpoint)) sends_here ∙ list_waits (sends_to A record_sent.endpoint) (receives_of A record_sent.endpoint) record_sent alone

    pub pairs_stay : (q : Instance) → pairs after_send q ≡ pairs A q
    pairs_stay q = elim (same_tells record_sent.endpoint q) [
      | inl w ↦ subst (λ (m : Instance). pairs after_send m ≡ pairs A m) w
          (ap (λ (ss : List SendRecord). zip ss (receives_of A record_sent.endpoint)) sends_here
          ∙ zip_more_none (sends_to A record_sent.endpoint) (receives_of A record_sent.endpoint) record_sent (get_none _ (receives_of A record_sent.endpoint) alone))
      | inr w ↦ ap (λ (ss : List SendRecord). zip ss (receives_of A q)) (sends_elsewhere q w)
    ]

    pub inbox_stays : (q : Instance) → inbox_of after_send q ≡ inbox_of A q
    inbox_stays q = λ i. inbox_with (last_completed (filter_map (λ (a : ReceiveRecord). find (λ (p : SendRecord × ReceiveRecord). p.1.number == a.number) (pairs_stay a.endpoint i)) (filter (λ (a : ReceiveRecord). same_instance a.thread q) A.receives)))

    pub waits_here : waiting_sends after_send record_sent.endpoint ≡ waiting_sends A record_sent.endpoint ++ record_sent ∷ []
    waits_here =
        ap (drop (length (receives_of A record_sent.endpoint))) sends_here
        ∙ drop-append-le (length (receives_of A record_sent.endpoint)) (sends_to A record_sent.endpoint) (record_sent ∷ []) (get_none _ (receives_of A record_sent.endpoint) alone)

    pub elsewhere_stays : (q : Instance) (base : ℕ) → base ≢ service.endpoint → is_sending after_send q base ≡ is_sending A q base
    elsewhere_stays q base ne = ap (λ (ss : List SendRecord). list_any (λ (s : SendRecord). same_instance s.thread q) (drop (length (receives_of A (endpoint_at A base))) ss)) (sends_elsewhere (endpoint_at A base) (not_same record_sent.endpoint (endpoint_at A base) (λ e. ne (sym e))))

    pub others_stay : (q base : ℕ) → q ≢ t → is_sending after_send (thread_at A q) base ≡ is_sending A (thread_at A q) base
    others_stay q base ne = elim (eqb_tells base service.endpoint) [
      | inl w ↦ subst (λ (b : ℕ). is_sending after_send (thread_at A q) b ≡ is_sending A (thread_at A q) b) (sym w.1)
          (ap (list_any (λ (s : SendRecord). same_instance s.thread (thread_at A q))) waits_here
          ∙ any_push_false (λ (s : SendRecord). same_instance s.thread (thread_at A q)) (waiting_sends A record_sent.endpoint) record_sent (not_same (thread_at A t) (thread_at A q) (λ e. ne (sym e))))
      | inr w ↦ elsewhere_stays (thread_at A q) base w.1
    ]

    pub receiving_stays : (q : Instance) (base : ℕ) → is_receiving after_send q base ≡ is_receiving A q base
    receiving_stays q base = elim (eqb_tells base service.endpoint) [
      | inl w ↦ subst (λ (b : ℕ). is_receiving after_send q b ≡ is_receiving A q b) (sym w.1)
          (let longer = one_longer (sends_to A record_sent.endpoint) record_sent in
          let le : length (receives_of A record_sent.endpoint) ≤ length (sends_to A record_sent.endpoint) = get_none _ (receives_of A record_sent.endpoint) alone in
          let long : length (sends_to after_send record_sent.endpoint) ≡ length (sends_to A record_sent.endpoint ++ record_sent ∷ []) = ap length sends_here in
          ap (list_any (λ (a : ReceiveRecord). same_instance a.thread q)) (drop_all _ (receives_of A record_sent.endpoint) (omega arith) ∙ sym (drop_all _ (receives_of A record_sent.endpoint) le)))
      | inr w ↦ ap (λ (ss : List SendRecord). list_any (λ (a : ReceiveRecord). same_instance a.thread q) (drop (length ss) (receives_of A (endpoint_at A base)))) (sends_elsewhere (endpoint_at A base) (not_same record_sent.endpoint (endpoint_at A base) (λ e. w.1 (sym e))))
    ]

    pub sends_now : is_sending after_send (thread_at A t) service.endpoint ≡ true
    sends_now =
        ap (list_any (λ (s : SendRecord). same_instance s.thread (thread_at A t))) waits_here
        ∙ any_push_true (λ (s : SendRecord). same_instance s.thread (thread_at A t)) (waiting_sends A record_sent.endpoint) record_sent (same_itself (thread_at A t))

    pub row_stays : (q : ℕ) → q ≢ t → thread_view after_send q ≡ thread_view A q
    row_stays q ne = λ i. record {
      state = first_of (find (λ base. others_stay q base ne i) (endpoints_of A.derivations)) (find (λ base. receiving_stays (thread_at A q) base i) (endpoints_of A.derivations)) (cond (A.is_inactive (thread_at A q)) Inactive Ready);
      inbox = inbox_stays (thread_at A q) i;
    }

    pub row_waits : state_of A (thread_at A t) ≡ Ready → list_any (λ k. service.endpoint == k) (endpoints_of A.derivations) ≡ true →
        thread_view after_send t ≡ record { state = Sending service.endpoint; inbox = inbox_of A (thread_at A t) }
    row_waits ready live =
        let found = find_one (is_sending A (thread_at A t)) (is_sending after_send (thread_at A t)) (endpoints_of A.derivations) service.endpoint (none_found _ _ _ ready) (elsewhere_stays (thread_at A t)) sends_now live in
        λ i. record {
          state = (ap (λ (o : Option ℕ). first_of o (find (is_receiving after_send (thread_at A t)) (endpoints_of A.derivations)) (cond (A.is_inactive (thread_at A t)) Inactive Ready)) found) i;
          inbox = inbox_stays (thread_at A t) i;
        }

    -- what is shown after a send that waits
    pub shown_waits : state_of A (thread_at A t) ≡ Ready → list_any (λ k. service.endpoint == k) (endpoints_of A.derivations) ≡ true →
        list_any (λ k. t == k) (threads_of A.derivations) ≡ true →
        shown after_send ≡ changed (shown A) t (record { state = Sending service.endpoint; inbox = inbox_of A (thread_at A t) }) service.endpoint (waiters A record_sent.endpoint ++ sender record_sent ∷ [])
    unfolding shown
    shown_waits ready live thread =
        let rows = table_changed (threads_of A.derivations) (thread_view A) (thread_view after_send) t (in_table _ _ _ thread) row_stays in
        let lists = table_changed (endpoints_of A.derivations) (λ base. waiters A (endpoint_at A base)) (λ base. waiters after_send (endpoint_at A base)) service.endpoint (in_table _ _ _ live) (λ q ne. waiters_elsewhere (endpoint_at A q) (not_same record_sent.endpoint (endpoint_at A q) (λ e. ne (sym e)))) in
        let rows' = rows ∙ ap (insert (table (threads_of A.derivations) (thread_view A)) t) (row_waits ready live) in
        let lists' = lists ∙ ap (insert (table (endpoints_of A.derivations) (λ base. waiters A (endpoint_at A base))) service.endpoint) waiters_here in
        λ i. record { derivations = A.derivations; threads = rows' i; endpoints = lists' i }
