-- A receive, in the abstract state.
use Rattle.std.proofs.Common.{◌≡◌, ◌≢◌, ℕ, suc, ◌+◌, ◌<◌, ◌≤◌, Bool, true, false, not, cond, ◌==◌, ◌&&◌, List, [], ◌∷◌, ◌++◌, map, filter, find, length, drop, Option, None, Some, slice_get, refl, sym, ap, subst, ◌∙◌, arith, inl, inr, length-append}
use Rattle.std.proofs.lemmas.Bool.Decides.{eqb_tells}
use Rattle.std.specs.FinMap.{insert}
use Rattle.kernel_abstract.proofs.Lists.Tables.{table_changed}
use Rattle.std.specs.List.{list_any, zip, filter_map, cons_option, AllByRecursion}
use Rattle.std.proofs.lemmas.Bool.{ne_eqb}
use Rattle.std.proofs.lemmas.List.{drop-append-le, map-append, append-nil}
use Rattle.std.proofs.lemmas.List.Elements.{filter-append, filter_map-append}
use Rattle.kernel_abstract.proofs.Lists.Paired.{drop_all, get_none, zip_none_right, find_one, any_push_false, any_push_true}
use Rattle.kernel_abstract.proofs.Messages.WaitingSend.{same_itself, not_same, same_tells, in_table}
use Rattle.kernel_abstract.specs.declared.call.ThreadState.{ThreadState}
use Rattle.kernel_abstract.specs.declared.call.ThreadState.TheVariants.{Ready, Inactive, Receiving}
use Rattle.kernel_abstract.specs.declared.invocation.Service.{Service}
use Rattle.ipc_core.specs.Records.{ReceiveRecord, Instance, SendRecord, receiver, same_instance, sender, waiting_list}
use Rattle.kernel_abstract.specs.State.{State, receives_of, endpoint_at, first_of, inbox_of, inbox_with, is_receiving, is_sending, last_completed, pair_of, pairs, sends_to, shown, state_of, thread_at, thread_view, waiters, waiting_receives}
use Rattle.kernel_abstract.specs.Step.{receive_record, next_call}
use Rattle.kernel_abstract.specs.Private.Effects.{changed}
use Rattle.kernel_abstract.specs.Shown.{endpoints_of, table, threads_of}
use Rattle.ipc_core.specs.Waits.{first_sender}

one_longer : (qs : List ReceiveRecord) (a : ReceiveRecord) → length (qs ++ a ∷ []) ≡ suc (length qs)
one_longer qs a = length-append qs (a ∷ []) ∙ omega arith

-- one more receives, and no send is left
pub list_receive_waits : (ss : List SendRecord) (qs : List ReceiveRecord) (a : ReceiveRecord) → slice_get ss (length qs) ≡ None → waiting_list ss (qs ++ a ∷ []) ≡ waiting_list ss qs ++ receiver a ∷ []
list_receive_waits ss qs a none =
    let le : length ss ≤ length qs = get_none (length qs) ss none in
    let longer = one_longer qs a in
    let nobody : drop (length qs) ss ≡ [] = drop_all (length qs) ss le in
    let nobody' : drop (length (qs ++ a ∷ [])) ss ≡ [] = drop_all (length (qs ++ a ∷ [])) ss (omega arith) in
    ap (λ (xs : List SendRecord). map sender xs ++ map receiver (drop (length ss) (qs ++ a ∷ []))) nobody'
    ∙ ap (map receiver) (drop-append-le (length ss) qs (a ∷ []) le)
    ∙ map-append receiver (drop (length ss) qs) (a ∷ [])
    ∙ ap (λ (xs : List SendRecord). (map sender xs ++ map receiver (drop (length ss) qs)) ++ receiver a ∷ []) (sym nobody)

receivers_first : (qs : List ReceiveRecord) → first_sender (map receiver qs) ≡ None
receivers_first [] = refl
receivers_first (a ∷ qs) = refl

pub no_sender : (ss : List SendRecord) (qs : List ReceiveRecord) → slice_get ss (length qs) ≡ None → first_sender (waiting_list ss qs) ≡ None
no_sender ss qs none =
    ap (λ (xs : List SendRecord). first_sender (map sender xs ++ map receiver (drop (length ss) qs))) (drop_all (length qs) ss (get_none (length qs) ss none))
    ∙ receivers_first (drop (length ss) qs)

-- a number that no receive has yet finds no pair
abbrev pub ReceivesUpTo : ℕ → List ReceiveRecord → Type 0
ReceivesUpTo n receives = AllByRecursion (λ (a : ReceiveRecord). a.number ≤ n) receives

pub up_to_filter : (f : ReceiveRecord → Bool) (n : ℕ) (receives : List ReceiveRecord) → ReceivesUpTo n receives → ReceivesUpTo n (filter f receives)
up_to_filter f n [] h = tt
up_to_filter f n (a ∷ receives) h = elim (f a) as (λ b. ReceivesUpTo n (cond b (a ∷ filter f receives) (filter f receives))) [ true ↦ (h.0, up_to_filter f n receives h.1) | false ↦ up_to_filter f n receives h.1 ]

pub no_pair_yet : (n m : ℕ) (ss : List SendRecord) (qs : List ReceiveRecord) → n < m → ReceivesUpTo n qs → find (λ (p : SendRecord × ReceiveRecord). p.1.number == m) (zip ss qs) ≡ None
no_pair_yet n m [] qs lt h = refl
no_pair_yet n m (s ∷ ss) [] lt h = refl
no_pair_yet n m (s ∷ ss) (a ∷ qs) lt h =
    let le = h.0 in
    ap (λ (b : Bool). cond b (Some (s, a)) (find (λ (p : SendRecord × ReceiveRecord). p.1.number == m) (zip ss qs))) (ne_eqb a.number m (λ e. absurd (omega arith)))
    ∙ no_pair_yet n m ss qs lt h.1

-- a thread that is ready receives nowhere
pub none_received : (o r : Option ℕ) (other : ThreadState) → first_of o r other ≡ Ready → (o ≡ None) × (r ≡ None)
none_received None None other h = (refl, refl)
none_received None (Some e) other h = cc
none_received (Some e) r other h = cc

module _ (A : State) (t : ℕ) (service : Service) (fresh : A.is_cancelled (A.count + 1) ≡ false) (numbered : ReceivesUpTo A.count A.receives) where
  abbrev pub record_received : ReceiveRecord
  record_received = receive_record A t service

  -- the state after the receive
  abbrev pub after_receive : State
  after_receive = record (next_call A) { receives = A.receives ++ record_received ∷ [] }

  pub receives_here : receives_of after_receive record_received.endpoint ≡ receives_of A record_received.endpoint ++ record_received ∷ []
  receives_here =
      filter-append (λ (a : ReceiveRecord). same_instance a.endpoint record_received.endpoint && not (A.is_cancelled a.number)) A.receives (record_received ∷ [])
      ∙ ap (λ (b : Bool). receives_of A record_received.endpoint ++ cond (b && not (A.is_cancelled (A.count + 1))) (record_received ∷ []) []) (same_itself record_received.endpoint)
      ∙ ap (λ (b : Bool). receives_of A record_received.endpoint ++ cond (not b) (record_received ∷ []) []) fresh

  pub receives_elsewhere : (q : Instance) → same_instance record_received.endpoint q ≡ false → receives_of after_receive q ≡ receives_of A q
  receives_elsewhere q other =
      filter-append (λ (a : ReceiveRecord). same_instance a.endpoint q && not (A.is_cancelled a.number)) A.receives (record_received ∷ [])
      ∙ ap (λ (b : Bool). receives_of A q ++ cond (b && not (A.is_cancelled (A.count + 1))) (record_received ∷ []) []) other
      ∙ append-nil (receives_of A q)

  pub lists_elsewhere : (q : Instance) → same_instance record_received.endpoint q ≡ false → waiters after_receive q ≡ waiters A q
  lists_elsewhere q other = ap (λ (qs : List ReceiveRecord). waiting_list (sends_to A q) qs) (receives_elsewhere q other)

  module _ (alone : slice_get (sends_to A record_received.endpoint) (length (receives_of A record_received.endpoint)) ≡ None) where
    pub few : length (sends_to A record_received.endpoint) ≤ length (receives_of A record_received.endpoint)
    few = get_none _ (sends_to A record_received.endpoint) alone

    pub list_here : waiters after_receive record_received.endpoint ≡ waiters A record_received.endpoint ++ receiver record_received ∷ []
    list_here = ap (λ (qs : List ReceiveRecord). waiting_list (sends_to A record_received.endpoint) qs) receives_here ∙ list_receive_waits (sends_to A record_received.endpoint) (receives_of A record_received.endpoint) record_received alone

    pub pairs_kept : (q : Instance) → pairs after_receive q ≡ pairs A q
    pairs_kept q = elim (same_tells record_received.endpoint q) [
      | inl w ↦ subst (λ (m : Instance). pairs after_receive m ≡ pairs A m) w
          (ap (λ (qs : List ReceiveRecord). zip (sends_to A record_received.endpoint) qs) receives_here
          ∙ zip_none_right (sends_to A record_received.endpoint) (receives_of A record_received.endpoint) record_received few)
      | inr w ↦ ap (λ (qs : List ReceiveRecord). zip (sends_to A q) qs) (receives_elsewhere q w)
    ]

    -- the new receive has no pair, so no inbox changes
    pub inbox_kept : (q : Instance) → inbox_of after_receive q ≡ inbox_of A q
    inbox_kept q =
        (λ i. inbox_with (last_completed (filter_map (λ (a : ReceiveRecord). find (λ (p : SendRecord × ReceiveRecord). p.1.number == a.number) (pairs_kept a.endpoint i)) (filter-append (λ (a : ReceiveRecord). same_instance a.thread q) A.receives (record_received ∷ []) i))))
        ∙ ap (λ (ps : List (SendRecord × ReceiveRecord)). inbox_with (last_completed ps)) (filter_map-append (pair_of A) (filter (λ (a : ReceiveRecord). same_instance a.thread q) A.receives) (filter (λ (a : ReceiveRecord). same_instance a.thread q) (record_received ∷ [])))
        ∙ ap (λ (ps : List (SendRecord × ReceiveRecord)). inbox_with (last_completed (filter_map (pair_of A) (filter (λ (a : ReceiveRecord). same_instance a.thread q) A.receives) ++ ps))) (nothing (same_instance record_received.thread q))
        ∙ ap (λ (ps : List (SendRecord × ReceiveRecord)). inbox_with (last_completed ps)) (append-nil (filter_map (pair_of A) (filter (λ (a : ReceiveRecord). same_instance a.thread q) A.receives)))
      where
        unpaired : pair_of A record_received ≡ None
        unpaired = no_pair_yet A.count (A.count + 1) (sends_to A record_received.endpoint) (receives_of A record_received.endpoint) (omega arith) (up_to_filter _ A.count A.receives numbered)

        nothing : (b : Bool) → filter_map (pair_of A) (cond b (record_received ∷ []) []) ≡ []
        nothing true = ap (λ (o : Option (SendRecord × ReceiveRecord)). cons_option o []) unpaired
        nothing false = refl

    pub receives_wait : waiting_receives after_receive record_received.endpoint ≡ waiting_receives A record_received.endpoint ++ record_received ∷ []
    receives_wait =
        ap (drop (length (sends_to A record_received.endpoint))) receives_here
        ∙ drop-append-le (length (sends_to A record_received.endpoint)) (receives_of A record_received.endpoint) (record_received ∷ []) few

    pub elsewhere_kept : (q : Instance) (base : ℕ) → base ≢ service.endpoint → is_receiving after_receive q base ≡ is_receiving A q base
    elsewhere_kept q base ne = ap (λ (qs : List ReceiveRecord). list_any (λ (a : ReceiveRecord). same_instance a.thread q) (drop (length (sends_to A (endpoint_at A base))) qs)) (receives_elsewhere (endpoint_at A base) (not_same record_received.endpoint (endpoint_at A base) (λ e. ne (sym e))))

    pub others_kept : (q base : ℕ) → q ≢ t → is_receiving after_receive (thread_at A q) base ≡ is_receiving A (thread_at A q) base
    others_kept q base ne = elim (eqb_tells base service.endpoint) [
      | inl w ↦ subst (λ (b : ℕ). is_receiving after_receive (thread_at A q) b ≡ is_receiving A (thread_at A q) b) (sym w.1)
          (ap (list_any (λ (a : ReceiveRecord). same_instance a.thread (thread_at A q))) receives_wait
          ∙ any_push_false (λ (a : ReceiveRecord). same_instance a.thread (thread_at A q)) (waiting_receives A record_received.endpoint) record_received (not_same (thread_at A t) (thread_at A q) (λ e. ne (sym e))))
      | inr w ↦ elsewhere_kept (thread_at A q) base w.1
    ]

    pub sending_kept : (q : Instance) (base : ℕ) → is_sending after_receive q base ≡ is_sending A q base
    sending_kept q base = elim (eqb_tells base service.endpoint) [
      | inl w ↦ subst (λ (b : ℕ). is_sending after_receive q b ≡ is_sending A q b) (sym w.1)
          (let longer = one_longer (receives_of A record_received.endpoint) record_received in
          let le = few in
          let long : length (receives_of after_receive record_received.endpoint) ≡ length (receives_of A record_received.endpoint ++ record_received ∷ []) = ap length receives_here in
          ap (list_any (λ (s : SendRecord). same_instance s.thread q)) (drop_all _ (sends_to A record_received.endpoint) (omega arith) ∙ sym (drop_all _ (sends_to A record_received.endpoint) le)))
      | inr w ↦ ap (λ (qs : List ReceiveRecord). list_any (λ (s : SendRecord). same_instance s.thread q) (drop (length qs) (sends_to A (endpoint_at A base)))) (receives_elsewhere (endpoint_at A base) (not_same record_received.endpoint (endpoint_at A base) (λ e. w.1 (sym e))))
    ]

    pub receives_now : is_receiving after_receive (thread_at A t) service.endpoint ≡ true
    receives_now =
        ap (list_any (λ (a : ReceiveRecord). same_instance a.thread (thread_at A t))) receives_wait
        ∙ any_push_true (λ (a : ReceiveRecord). same_instance a.thread (thread_at A t)) (waiting_receives A record_received.endpoint) record_received (same_itself (thread_at A t))

    pub row_kept : (q : ℕ) → q ≢ t → thread_view after_receive q ≡ thread_view A q
    row_kept q ne = λ i. record {
      state = first_of (find (λ base. sending_kept (thread_at A q) base i) (endpoints_of A.derivations)) (find (λ base. others_kept q base ne i) (endpoints_of A.derivations)) (cond (A.is_inactive (thread_at A q)) Inactive Ready);
      inbox = inbox_kept (thread_at A q) i;
    }

    pub row_receives : state_of A (thread_at A t) ≡ Ready → list_any (λ k. service.endpoint == k) (endpoints_of A.derivations) ≡ true →
        thread_view after_receive t ≡ record { state = Receiving service.endpoint; inbox = inbox_of A (thread_at A t) }
    row_receives ready live =
        let before = none_received _ _ _ ready in
        let sends : find (is_sending after_receive (thread_at A t)) (endpoints_of A.derivations) ≡ None = (λ i. find (λ base. sending_kept (thread_at A t) base i) (endpoints_of A.derivations)) ∙ before.0 in
        let found = find_one (is_receiving A (thread_at A t)) (is_receiving after_receive (thread_at A t)) (endpoints_of A.derivations) service.endpoint before.1 (elsewhere_kept (thread_at A t)) receives_now live in
        λ i. record {
          state = first_of (sends i) (found i) (cond (A.is_inactive (thread_at A t)) Inactive Ready);
          inbox = inbox_kept (thread_at A t) i;
        }

    -- what is shown after a receive that waits
    pub shown_receive_waits : state_of A (thread_at A t) ≡ Ready → list_any (λ k. service.endpoint == k) (endpoints_of A.derivations) ≡ true →
        list_any (λ k. t == k) (threads_of A.derivations) ≡ true →
        shown after_receive ≡ changed (shown A) t (record { state = Receiving service.endpoint; inbox = inbox_of A (thread_at A t) }) service.endpoint (waiters A record_received.endpoint ++ receiver record_received ∷ [])
    unfolding shown
    shown_receive_waits ready live thread =
        let rows = table_changed (threads_of A.derivations) (thread_view A) (thread_view after_receive) t (in_table _ _ _ thread) row_kept in
        let lists = table_changed (endpoints_of A.derivations) (λ base. waiters A (endpoint_at A base)) (λ base. waiters after_receive (endpoint_at A base)) service.endpoint (in_table _ _ _ live) (λ q ne. lists_elsewhere (endpoint_at A q) (not_same record_received.endpoint (endpoint_at A q) (λ e. ne (sym e)))) in
        let rows' = rows ∙ ap (insert (table (threads_of A.derivations) (thread_view A)) t) (row_receives ready live) in
        let lists' = lists ∙ ap (insert (table (endpoints_of A.derivations) (λ base. waiters A (endpoint_at A base))) service.endpoint) list_here in
        λ i. record { derivations = A.derivations; threads = rows' i; endpoints = lists' i }
