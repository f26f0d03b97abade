-- What is shown after objects have ended.
use Rattle.std.proofs.Common.{◌≡◌, ℕ, Bool, true, false, not, cond, ◌==◌, ◌&&◌, List, ◌++◌, map, filter, find, None, Some, refl, sym, ap, subst, ◌∙◌, eq-eqb}
use Rattle.std.specs.List.{list_any, AllByRecursion}
use Rattle.std.specs.FinMap.{get}
use Rattle.std.proofs.lemmas.List.Elements.{filter-append}
use Rattle.kernel_forest.specs.Forest.{Forest}
use Rattle.kernel_forest.specs.Entries.{Entry}
use Rattle.ipc_core.specs.Records.{Instance, same_instance, SendRecord, ReceiveRecord, sender, receiver}
use Rattle.ipc_core.specs.declared.waiter.Waiter.{Waiter}
use Rattle.ipc_core.specs.Waits.{thread_of}
use Rattle.ipc_core.proofs.Histories.Cancelling.{filter-map}
use Rattle.kernel_abstract.specs.declared.call.ThreadState.TheVariants.{Ready, Inactive}
use Rattle.kernel_abstract.specs.Shown.{threads_of, endpoints_of, waiting_at}
use Rattle.kernel_abstract.specs.State.{State, endpoint_at, thread_at, waiting_sends, waiting_receives, waiters, is_sending, is_receiving, state_of, first_of, thread_view, shown}
use Rattle.kernel_abstract.specs.Cancelling.{is_ended, is_send_ended, is_receive_ended, ending}
use Rattle.kernel_abstract.specs.Private.Endings.{after_ending, view_among, waiting_among, state_among}
use Rattle.kernel_abstract.proofs.Lists.Tables.{get_table}
use Rattle.kernel_abstract.proofs.Lists.Searches.{find_found, table_agrees}
use Rattle.kernel_abstract.proofs.Reached.Invariant.{list_shown}
use Rattle.kernel_abstract.proofs.Lists.Rising.{all_weaker, all_joined, all_of, all_passing, any_left, filter_same}
use Rattle.kernel_abstract.proofs.Cancelling.Records.{inbox_same}
use Rattle.kernel_abstract.proofs.Reached.Invariant.{Invariant, SendIsOpen, ReceiveIsOpen}
use Rattle.kernel_abstract.proofs.Cancelling.InvariantKept.{sends_waiting, receives_waiting}
use Rattle.kernel_abstract.proofs.Cancelling.Waiting.{own_waiting_sends, own_waiting_receives, same_is, sender_open, receiver_open, sends_on_one, receives_on_one, sends_alone}
use Rattle.kernel_abstract.proofs.Cancelling.States.{find_among, state_found}

-- the row of a live thread, as it is shown
pub row_shown : (A : State) (t : ℕ) → list_any (λ k. t == k) (threads_of A.derivations) ≡ true → get (shown A).threads t ≡ Some (thread_view A t)
unfolding shown
row_shown A t live = get_table (threads_of A.derivations) (thread_view A) t ∙ ap (λ (b : Bool). cond b (Some (thread_view A t)) None) live

-- a waiting list, less those that a test names
pub list_less : (ss : List SendRecord) (qs : List ReceiveRecord) (S : SendRecord → Bool) (Q : ReceiveRecord → Bool) (stays : Waiter → Bool) →
    AllByRecursion (λ (s : SendRecord). not (S s) ≡ stays (sender s)) ss → AllByRecursion (λ (a : ReceiveRecord). not (Q a) ≡ stays (receiver a)) qs →
    (map sender (filter (λ (s : SendRecord). not (S s)) ss) ++ map receiver (filter (λ (a : ReceiveRecord). not (Q a)) qs)) ≡ filter stays (map sender ss ++ map receiver qs)
list_less ss qs S Q stays hs hq =
    let sends = ap (map sender) (filter_same (λ (s : SendRecord). not (S s)) (λ (s : SendRecord). stays (sender s)) ss hs) ∙ sym (filter-map sender stays (λ (s : SendRecord). stays (sender s)) (λ s. refl) ss) in
    let receives = ap (map receiver) (filter_same (λ (a : ReceiveRecord). not (Q a)) (λ (a : ReceiveRecord). stays (receiver a)) qs hq) ∙ sym (filter-map receiver stays (λ (a : ReceiveRecord). stays (receiver a)) (λ a. refl) qs) in
    (λ i. sends i ++ receives i) ∙ sym (filter-append stays (map sender ss) (map receiver qs))

not_not : (b : Bool) → not (not b) ≡ b
not_not true = refl
not_not false = refl

module _ (A : State) (g : Forest Entry) (inv : Invariant A)
    (endpoints : (q : ℕ) → list_any (λ k. q == k) (endpoints_of g) ≡ true → list_any (λ k. q == k) (endpoints_of A.derivations) ≡ true)
    (threads : (q : ℕ) → list_any (λ k. q == k) (threads_of g) ≡ true → list_any (λ k. q == k) (threads_of A.derivations) ≡ true) where
  abbrev left : State
  left = ending A g

  -- what is open after has an endpoint and a thread that are live
  pub sends_not_ended : (e : Instance) → AllByRecursion (λ (s : SendRecord). not (is_send_ended A g s) ≡ true) (waiting_sends (ending A g) e)
  sends_not_ended e = subst (AllByRecursion (λ (s : SendRecord). not (is_send_ended A g s) ≡ true)) (sym (sends_waiting A (is_send_ended A g) (is_receive_ended A g) inv e))
      (all_weaker (λ (s : SendRecord). (s ≡ s) × (not (is_send_ended A g s) ≡ true)) (λ (s : SendRecord). not (is_send_ended A g s) ≡ true) (λ s w. w.1) _ (all_passing (λ (s : SendRecord). s ≡ s) (λ (s : SendRecord). not (is_send_ended A g s)) (waiting_sends A e) (all_of (λ (s : SendRecord). s ≡ s) (λ s. refl) (waiting_sends A e))))

  pub receives_not_ended : (e : Instance) → AllByRecursion (λ (a : ReceiveRecord). not (is_receive_ended A g a) ≡ true) (waiting_receives (ending A g) e)
  receives_not_ended e = subst (AllByRecursion (λ (a : ReceiveRecord). not (is_receive_ended A g a) ≡ true)) (sym (receives_waiting A (is_send_ended A g) (is_receive_ended A g) inv e))
      (all_weaker (λ (a : ReceiveRecord). (a ≡ a) × (not (is_receive_ended A g a) ≡ true)) (λ (a : ReceiveRecord). not (is_receive_ended A g a) ≡ true) (λ a w. w.1) _ (all_passing (λ (a : ReceiveRecord). a ≡ a) (λ (a : ReceiveRecord). not (is_receive_ended A g a)) (waiting_receives A e) (all_of (λ (a : ReceiveRecord). a ≡ a) (λ a. refl) (waiting_receives A e))))

  -- at an endpoint that stays, what ends is what threads that end sent and received
  ended_by_thread : (b t : ℕ) → list_any (λ k. b == k) (endpoints_of g) ≡ true → is_ended A g (endpoint_at A b) (thread_at A t) ≡ not (list_any (λ k. t == k) (threads_of g))
  ended_by_thread b t live =
      ap (λ (x : Bool). not ((x && (A.endpoint_birth b == A.endpoint_birth b)) && (list_any (λ k. t == k) (threads_of g) && (A.thread_birth t == A.thread_birth t)))) live
      ∙ ap (λ (x : Bool). not (x && (list_any (λ k. t == k) (threads_of g) && (A.thread_birth t == A.thread_birth t)))) (eq-eqb (A.endpoint_birth b) (A.endpoint_birth b) refl)
      ∙ ap (λ (x : Bool). not (list_any (λ k. t == k) (threads_of g) && x)) (eq-eqb (A.thread_birth t) (A.thread_birth t) refl)
      ∙ ap not (and_true (list_any (λ k. t == k) (threads_of g)))
    where
      and_true : (x : Bool) → (x && true) ≡ x
      and_true true = refl
      and_true false = refl

  -- a thread that stays waits at the endpoints that stay
  module _ (t : ℕ) (thread : list_any (λ k. t == k) (threads_of g) ≡ true) where
    not_ended : (b : ℕ) → list_any (λ k. b == k) (endpoints_of g) ≡ true → (e m : Instance) → e ≡ endpoint_at A b → m ≡ thread_at A t → is_ended A g e m ≡ false
    not_ended b live e m is is' = (λ i. is_ended A g (is i) (is' i)) ∙ ended_by_thread b t live ∙ ap not thread

    same_sending : (b : ℕ) → list_any (λ k. b == k) (endpoints_of g) ≡ true → is_sending left (thread_at A t) b ≡ is_sending A (thread_at A t) b
    same_sending b live =
        ap (list_any (λ (s : SendRecord). same_instance s.thread (thread_at A t))) (sends_waiting A (is_send_ended A g) (is_receive_ended A g) inv (endpoint_at A b))
        ∙ any_left (λ (s : SendRecord). same_instance s.thread (thread_at A t)) (is_send_ended A g) false (waiting_sends A (endpoint_at A b))
        (all_weaker (λ (s : SendRecord). s.endpoint ≡ endpoint_at A b) (λ (s : SendRecord). same_instance s.thread (thread_at A t) ≡ true → is_ended A g s.endpoint s.thread ≡ false) (λ s own there. not_ended b live s.endpoint s.thread own (same_is s.thread (thread_at A t) there)) (waiting_sends A (endpoint_at A b)) (own_waiting_sends A (endpoint_at A b)))

    same_receiving : (b : ℕ) → list_any (λ k. b == k) (endpoints_of g) ≡ true → is_receiving left (thread_at A t) b ≡ is_receiving A (thread_at A t) b
    same_receiving b live =
        ap (list_any (λ (a : ReceiveRecord). same_instance a.thread (thread_at A t))) (receives_waiting A (is_send_ended A g) (is_receive_ended A g) inv (endpoint_at A b))
        ∙ any_left (λ (a : ReceiveRecord). same_instance a.thread (thread_at A t)) (is_receive_ended A g) false (waiting_receives A (endpoint_at A b))
        (all_weaker (λ (a : ReceiveRecord). a.endpoint ≡ endpoint_at A b) (λ (a : ReceiveRecord). same_instance a.thread (thread_at A t) ≡ true → is_ended A g a.endpoint a.thread ≡ false) (λ a own there. not_ended b live a.endpoint a.thread own (same_is a.thread (thread_at A t) there)) (waiting_receives A (endpoint_at A b)) (own_waiting_receives A (endpoint_at A b)))

    state_left : state_of left (thread_at A t) ≡ state_among (endpoints_of g) (state_of A (thread_at A t))
    state_left =
        let m = thread_at A t in
        let f = endpoints_of A.derivations in
        let sends = find_among (is_sending A m) (is_sending left m) f (endpoints_of g) endpoints same_sending (sends_on_one A inv m) in
        let receives = find_among (is_receiving A m) (is_receiving left m) f (endpoints_of g) endpoints same_receiving (receives_on_one A inv m) in
        (λ i. first_of (sends i) (receives i) (cond (A.is_inactive m) Inactive Ready))
        ∙ state_found (endpoints_of g) (find (is_sending A m) f) (find (is_receiving A m) f) (A.is_inactive m)
        (λ e found. let there = (find_found (is_sending A m) f e found).1 in ((sender_open A inv (endpoint_at A e) m there).awake, sends_alone A inv m e there))
        (λ e found. (receiver_open A inv (endpoint_at A e) m (find_found (is_receiving A m) f e found).1).awake)

    view_left : view_among (endpoints_of g) (get (shown A).threads t) ≡ thread_view left t
    view_left =
        ap (view_among (endpoints_of g)) (row_shown A t (threads t thread))
        ∙ (λ i. record { state = sym state_left i; inbox = sym (inbox_same A (is_send_ended A g) (is_receive_ended A g) inv.sends_rising inv.rising inv.unshared (thread_at A t)) i })

  -- the waiting list of an endpoint that stays
  list_left : (b : ℕ) → list_any (λ k. b == k) (endpoints_of g) ≡ true → waiters left (endpoint_at A b) ≡ waiting_among (threads_of g) (waiting_at (shown A) b)
  list_left b live =
      let e = endpoint_at A b in
      let sends = sends_waiting A (is_send_ended A g) (is_receive_ended A g) inv e in
      let receives = receives_waiting A (is_send_ended A g) (is_receive_ended A g) inv e in
      (λ i. map sender (sends i) ++ map receiver (receives i))
      ∙ list_less (waiting_sends A e) (waiting_receives A e) (is_send_ended A g) (is_receive_ended A g) (λ (w : Waiter). list_any (λ k. thread_of w == k) (threads_of g))
      (all_joined (λ (s : SendRecord). s.endpoint ≡ e) (SendIsOpen A) _ (λ (s : SendRecord) own o. stays s.endpoint s.thread own o.thread_is) (waiting_sends A e) (own_waiting_sends A e) (inv.sends_open e))
      (all_joined (λ (a : ReceiveRecord). a.endpoint ≡ e) (ReceiveIsOpen A) _ (λ (a : ReceiveRecord) own o. stays a.endpoint a.thread own o.thread_is) (waiting_receives A e) (own_waiting_receives A e) (inv.receives_open e))
      ∙ ap (waiting_among (threads_of g)) (sym (list_shown A b (endpoints b live)))
    where
      stays : (e m : Instance) → e ≡ endpoint_at A b → m ≡ thread_at A m.base → not (is_ended A g e m) ≡ list_any (λ k. m.base == k) (threads_of g)
      stays e m own is = (λ i. not (is_ended A g (own i) (is i))) ∙ ap not (ended_by_thread b m.base live) ∙ not_not (list_any (λ k. m.base == k) (threads_of g))

  pub ending_shown : shown (ending A g) ≡ after_ending (shown A) g
  unfolding shown
  ending_shown =
      let rows = table_agrees (threads_of g) (threads_of g) (thread_view left) (λ t. view_among (endpoints_of g) (get (shown A).threads t)) (λ q. refl) view_left in
      let lists = table_agrees (endpoints_of g) (endpoints_of g) (λ b. waiting_among (threads_of g) (waiting_at (shown A) b)) (λ b. waiters left (endpoint_at A b)) (λ q. refl) list_left in
      λ i. record { derivations = g; threads = sym rows i; endpoints = lists i }
