-- A receive that meets a send, in the abstract state.
use Rattle.std.proofs.Common.{◌≡◌, ◌≢◌, ℕ, suc, ◌+◌, ◌<◌, ◌≤◌, Bool, true, false, cond, ◌==◌, ◌||◌, List, [], ◌∷◌, ◌++◌, map, filter, find, length, drop, Some, slice_get, refl, sym, ap, subst, ◌∙◌, arith, inl, inr, eq-eqb, length-append}
use Rattle.std.specs.List.{list_any, zip, filter_map}
use Rattle.std.proofs.lemmas.Bool.{ne_eqb}
use Rattle.std.proofs.lemmas.Bool.Decides.{eqb_tells}
use Rattle.std.proofs.lemmas.List.{append-nil}
use Rattle.std.proofs.lemmas.List.Elements.{filter-append}
use Rattle.std.specs.FinMap.{FinMap, insert}
use Rattle.std.specs.Ordering.{nat_cmp}
use Rattle.kernel_abstract.proofs.Lists.Tables.{table_changed}
use Rattle.kernel_abstract.proofs.Lists.Paired.{drop_all, drop_get, get_within, zip_some_right, all_more}
use Rattle.kernel_abstract.proofs.Messages.WaitingSend.{same_itself, not_same, same_tells, in_table}
use Rattle.kernel_abstract.proofs.Messages.WaitingReceive.{ReceivesUpTo, record_received, after_receive, receives_here, receives_elsewhere, lists_elsewhere, up_to_filter, no_pair_yet}
use Rattle.kernel_abstract.proofs.Messages.Inboxes.{untouched, now_last, Here}
use Rattle.kernel_abstract.proofs.Lists.Numbered.{Member, all_filter, all_map, find_push_no, find_push_yes, tally, zero_none, find_nothing, any_kept, none_kept}
use Rattle.kernel_abstract.proofs.Messages.DeliveredSend.{SendsUpTo, deliveries_up_to, pending}
use Rattle.kernel_abstract.proofs.Messages.WaitsOnce.{ready_waits_not}
use Rattle.kernel_abstract.specs.declared.invocation.Service.{Service}
use Rattle.kernel_abstract.specs.declared.call.ThreadState.TheVariants.{Ready, Inactive}
use Rattle.ipc_core.specs.Records.{ReceiveRecord, Instance, SendRecord, receiver, same_instance, sender}
use Rattle.kernel_abstract.specs.State.{State, receives_of, endpoint_at, first_of, inbox_of, inbox_with, is_receiving, is_sending, last_completed, pair_of, pairs, sends_to, shown, state_of, thread_at, thread_view, waiters, waiting_receives, waiting_sends}
use Rattle.kernel_abstract.specs.Shown.{ThreadView, endpoints_of, table, threads_of}
use Rattle.kernel_abstract.specs.Private.Effects.{changed, with_message}

member_last : (xs : List ReceiveRecord) (r : ReceiveRecord) → Member r (xs ++ r ∷ [])
member_last [] r = inl refl
member_last (x ∷ xs) r = inr (member_last xs r)

module _ (A : State) (t : ℕ) (service : Service) (fresh : A.is_cancelled (A.count + 1) ≡ false)
    (sends_numbered : SendsUpTo A.count A.sends) (receives_numbered : ReceivesUpTo A.count A.receives)
    (s : SendRecord) (met : slice_get (sends_to A (endpoint_at A service.endpoint)) (length (receives_of A (endpoint_at A service.endpoint))) ≡ Some s) where
  abbrev e : Instance
  e = endpoint_at A service.endpoint

  abbrev r : ReceiveRecord
  r = record_received A t service fresh receives_numbered

  abbrev A' : State
  A' = after_receive A t service fresh receives_numbered

  pairs_grow : pairs A' e ≡ pairs A e ++ (s, r) ∷ []
  pairs_grow = ap (λ (qs : List ReceiveRecord). zip (sends_to A e) qs) (receives_here A t service fresh receives_numbered) ∙ zip_some_right (sends_to A e) (receives_of A e) s r met

  pair_elsewhere : (x : ReceiveRecord) → x.number ≢ A.count + 1 → pair_of A' x ≡ pair_of A x
  pair_elsewhere x ne = elim (same_tells e x.endpoint) [
    | inl w ↦ subst (λ (m : Instance). find (λ (p : SendRecord × ReceiveRecord). p.1.number == x.number) (pairs A' m) ≡ find (λ (p : SendRecord × ReceiveRecord). p.1.number == x.number) (pairs A m)) w
        (ap (find (λ (p : SendRecord × ReceiveRecord). p.1.number == x.number)) pairs_grow
        ∙ find_push_no (λ (p : SendRecord × ReceiveRecord). p.1.number == x.number) (pairs A e) (s, r) (ne_eqb r.number x.number (λ d. ne (sym d))))
    | inr w ↦ ap (λ (qs : List ReceiveRecord). find (λ (p : SendRecord × ReceiveRecord). p.1.number == x.number) (zip (sends_to A x.endpoint) qs)) (receives_elsewhere A t service fresh receives_numbered x.endpoint w)
  ]

  pair_now : pair_of A' r ≡ Some (s, r)
  pair_now =
      ap (find (λ (p : SendRecord × ReceiveRecord). p.1.number == r.number)) pairs_grow
      ∙ find_push_yes (λ (p : SendRecord × ReceiveRecord). p.1.number == r.number) (pairs A e) (s, r) (no_pair_yet A.count (A.count + 1) (sends_to A e) (receives_of A e) (omega arith) (up_to_filter _ A.count A.receives receives_numbered)) (eq-eqb r.number r.number refl)

  here : (f : ReceiveRecord → Bool) → Here (pair_of A) (pair_of A') (A.count + 1) (s, r) pair_elsewhere (filter f (A.receives ++ r ∷ []))
  here f = all_filter _ f (A.receives ++ r ∷ []) (all_more (λ (x : ReceiveRecord). x.number ≡ A.count + 1 → pair_of A' x ≡ Some (s, r)) A.receives r
      (all_map (λ (x : ReceiveRecord). x.number ≤ A.count) (λ (x : ReceiveRecord). x.number ≡ A.count + 1 → pair_of A' x ≡ Some (s, r)) (λ x le d. absurd (omega arith)) A.receives receives_numbered) (λ d. pair_now))

  inbox_filled : inbox_of A' (thread_at A t) ≡ (with_message s.badge s.message).inbox
  inbox_filled = ap inbox_with (now_last (pair_of A) (pair_of A') (A.count + 1) (s, r) pair_elsewhere (filter (λ (x : ReceiveRecord). same_instance x.thread (thread_at A t)) (A.receives ++ r ∷ [])) A.count
      (here (λ (x : ReceiveRecord). same_instance x.thread (thread_at A t))) (deliveries_up_to A sends_numbered receives_numbered _) (omega arith)
      (any_kept (λ (x : ReceiveRecord). same_instance x.thread (thread_at A t)) (A.receives ++ r ∷ []) r (member_last A.receives r) (same_itself (thread_at A t))))

  inbox_else : (q : Instance) → same_instance (thread_at A t) q ≡ false → inbox_of A' q ≡ inbox_of A q
  inbox_else q other =
      ap (λ (xs : List ReceiveRecord). inbox_with (last_completed (filter_map (pair_of A') xs)))
      (filter-append (λ (x : ReceiveRecord). same_instance x.thread q) A.receives (r ∷ []) ∙ ap (λ (b : Bool). filter (λ (x : ReceiveRecord). same_instance x.thread q) A.receives ++ cond b (r ∷ []) []) other ∙ append-nil (filter (λ (x : ReceiveRecord). same_instance x.thread q) A.receives))
      ∙ ap (λ (ps : List (SendRecord × ReceiveRecord)). inbox_with (last_completed ps)) (untouched (pair_of A) (pair_of A') (A.count + 1) (s, r) pair_elsewhere (filter (λ (x : ReceiveRecord). same_instance x.thread q) A.receives)
      (none_kept (λ (x : ReceiveRecord). same_instance x.thread q) A.receives (A.count + 1) (all_map (λ (x : ReceiveRecord). x.number ≤ A.count) (λ (x : ReceiveRecord). x.number ≡ A.count + 1 → same_instance x.thread q ≡ false) (λ x le d. absurd (omega arith)) A.receives receives_numbered)))

  long : length (receives_of A' e) ≡ suc (length (receives_of A e))
  long = ap length (receives_here A t service fresh receives_numbered) ∙ length-append (receives_of A e) (r ∷ []) ∙ omega arith

  no_receives : waiting_receives A e ≡ []
  no_receives = let lt : length (receives_of A e) < length (sends_to A e) = get_within _ (sends_to A e) s met in drop_all _ (receives_of A e) (omega arith)

  no_receives_after : waiting_receives A' e ≡ []
  no_receives_after = let lt : length (receives_of A e) < length (sends_to A e) = get_within _ (sends_to A e) s met in let l = long in drop_all _ (receives_of A' e) (omega arith)

  sends_left : waiting_sends A e ≡ s ∷ waiting_sends A' e
  sends_left = drop_get _ (sends_to A e) s met ∙ ap (λ (n : ℕ). s ∷ drop n (sends_to A e)) (sym long)

  pub list_left : waiters A e ≡ sender s ∷ waiters A' e
  list_left = ap (λ (ss : List SendRecord). map sender ss ++ map receiver (waiting_receives A e)) sends_left
      ∙ ap (λ (qs : List ReceiveRecord). sender s ∷ (map sender (waiting_sends A' e) ++ map receiver qs)) (no_receives ∙ sym no_receives_after)

  receiving_at : (q : Instance) (base : ℕ) → is_receiving A' q base ≡ is_receiving A q base
  receiving_at q base = elim (eqb_tells base service.endpoint) [
    | inl w ↦ subst (λ (b : ℕ). is_receiving A' q b ≡ is_receiving A q b) (sym w.1) (ap (list_any (λ (x : ReceiveRecord). same_instance x.thread q)) (no_receives_after ∙ sym no_receives))
    | inr w ↦ ap (λ (qs : List ReceiveRecord). list_any (λ (x : ReceiveRecord). same_instance x.thread q) (drop (length (sends_to A (endpoint_at A base))) qs)) (receives_elsewhere A t service fresh receives_numbered (endpoint_at A base) (not_same e (endpoint_at A base) (λ d. w.1 (sym d))))
  ]

  sending_elsewhere : (q : Instance) (base : ℕ) → base ≢ service.endpoint → is_sending A' q base ≡ is_sending A q base
  sending_elsewhere q base ne = ap (λ (qs : List ReceiveRecord). list_any (λ (x : SendRecord). same_instance x.thread q) (drop (length qs) (sends_to A (endpoint_at A base)))) (receives_elsewhere A t service fresh receives_numbered (endpoint_at A base) (not_same e (endpoint_at A base) (λ d. ne (sym d))))

  sending_at : (q : Instance) (base : ℕ) → same_instance s.thread q ≡ false → is_sending A' q base ≡ is_sending A q base
  sending_at q base other = elim (eqb_tells base service.endpoint) [
    | inl w ↦ subst (λ (b : ℕ). is_sending A' q b ≡ is_sending A q b) (sym w.1)
        (sym (ap (list_any (λ (x : SendRecord). same_instance x.thread q)) sends_left ∙ ap (λ (b : Bool). b || list_any (λ (x : SendRecord). same_instance x.thread q) (waiting_sends A' e)) other))
    | inr w ↦ sending_elsewhere q base w.1
  ]

  module _ (live : list_any (λ k. service.endpoint == k) (endpoints_of A.derivations) ≡ true) (ready : state_of A (thread_at A t) ≡ Ready)
      (once : (m : Instance) (b : ℕ) → list_any (λ k. b == k) (endpoints_of A.derivations) ≡ true → pending A m b ≤ 1)
      (alone : (m : Instance) (b c : ℕ) → list_any (λ k. b == k) (endpoints_of A.derivations) ≡ true → list_any (λ k. c == k) (endpoints_of A.derivations) ≡ true → b ≢ c → pending A m b + pending A m c ≤ 1) where
    mine : tally (λ (x : SendRecord). same_instance x.thread s.thread) (waiting_sends A e) ≡ 1 + tally (λ (x : SendRecord). same_instance x.thread s.thread) (waiting_sends A' e)
    mine = ap (tally (λ (x : SendRecord). same_instance x.thread s.thread)) sends_left ∙ ap (λ (b : Bool). cond {A = ℕ} b 1 0 + tally (λ (x : SendRecord). same_instance x.thread s.thread) (waiting_sends A' e)) (same_itself s.thread)

    nowhere_sending : (b : ℕ) → list_any (λ k. b == k) (endpoints_of A.derivations) ≡ true → is_sending A' s.thread b ≡ false
    nowhere_sending b there = elim (eqb_tells b service.endpoint) [
      | inl w ↦ subst (λ (n : ℕ). is_sending A' s.thread n ≡ false) (sym w.1)
          (let m = mine in let o = once s.thread service.endpoint live in zero_none (λ (x : SendRecord). same_instance x.thread s.thread) (waiting_sends A' e) (omega arith))
      | inr w ↦ sending_elsewhere s.thread b w.1
          ∙ (let m = mine in let o = alone s.thread b service.endpoint there live w.1 in zero_none (λ (x : SendRecord). same_instance x.thread s.thread) (waiting_sends A (endpoint_at A b)) (omega arith))
    ]

    nowhere_receiving : (b : ℕ) → list_any (λ k. b == k) (endpoints_of A.derivations) ≡ true → is_receiving A' s.thread b ≡ false
    nowhere_receiving b there = receiving_at s.thread b ∙ elim (eqb_tells b service.endpoint) [
      | inl w ↦ subst (λ (n : ℕ). is_receiving A s.thread n ≡ false) (sym w.1) (ap (list_any (λ (x : ReceiveRecord). same_instance x.thread s.thread)) no_receives)
      | inr w ↦ (let m = mine in let o = alone s.thread b service.endpoint there live w.1 in zero_none (λ (x : ReceiveRecord). same_instance x.thread s.thread) (waiting_receives A (endpoint_at A b)) (omega arith))
    ]

    served_ready : A.is_inactive s.thread ≡ false → state_of A' s.thread ≡ Ready
    served_ready awake =
        let q = find_nothing (is_receiving A' s.thread) (endpoints_of A.derivations) nowhere_receiving in
        let k = find_nothing (is_sending A' s.thread) (endpoints_of A.derivations) nowhere_sending in
        λ i. first_of (k i) (q i) (cond (awake i) Inactive Ready)

    -- the sender is another thread
    other_thread : s.thread ≡ thread_at A s.thread.base → s.thread.base ≢ t
    other_thread known d =
        let z = ready_waits_not A s.thread service.endpoint (ap (state_of A) (known ∙ ap (thread_at A) d) ∙ ready) live in
        let m = mine in
        absurd (omega arith)

    -- what is shown after a receive that is delivered
    pub shown_serves : A.is_inactive s.thread ≡ false → s.thread ≡ thread_at A s.thread.base → list_any (λ k. s.thread.base == k) (threads_of A.derivations) ≡ true → list_any (λ k. t == k) (threads_of A.derivations) ≡ true →
        (let v = shown A in
        shown A' ≡ changed (record v { threads = insert v.threads s.thread.base (record { state = Ready; inbox = inbox_of A s.thread }) }) t (with_message s.badge s.message) service.endpoint (drop 1 (waiters A e)))
    unfolding shown
    shown_serves awake known thread thread_t =
        let ne : s.thread.base ≢ t = other_thread known in
        let from : ThreadView = record { state = Ready; inbox = inbox_of A s.thread } in
        let mid : ℕ → ThreadView = λ q. cond (q == s.thread.base) from (thread_view A q) in
        let mid_from : mid s.thread.base ≡ from = ap (λ (b : Bool). cond b from (thread_view A s.thread.base)) (eq-eqb s.thread.base s.thread.base refl) in
        let mid_else : (q : ℕ) → q ≢ s.thread.base → mid q ≡ thread_view A q = λ q n. ap (λ (b : Bool). cond b from (thread_view A q)) (ne_eqb q s.thread.base n) in
        let row : thread_view A' s.thread.base ≡ from =
        ap (λ (m : Instance). record { state = state_of A' m; inbox = inbox_of A' m }) (sym known)
        ∙ (λ i. record { state = served_ready awake i; inbox = inbox_else s.thread (not_same (thread_at A t) s.thread (λ d. ne (sym d))) i }) in
        let stays : (q : ℕ) → q ≢ s.thread.base → state_of A' (thread_at A q) ≡ state_of A (thread_at A q) = λ q n. (λ i. first_of (find (λ b. sending_at (thread_at A q) b (not_same s.thread (thread_at A q) (λ d. n (sym d))) i) (endpoints_of A.derivations)) (find (λ b. receiving_at (thread_at A q) b i) (endpoints_of A.derivations)) (cond (A.is_inactive (thread_at A q)) Inactive Ready)) in
        let here : thread_view A' t ≡ with_message s.badge s.message = λ i. record { state = (stays t (λ d. ne (sym d)) ∙ ready) i; inbox = inbox_filled i } in
        let others : (q : ℕ) → q ≢ t → thread_view A' q ≡ mid q = λ q n. elim (eqb_tells q s.thread.base) [
          | inl w ↦ subst (λ (k : ℕ). thread_view A' k ≡ mid k) (sym w.1) (row ∙ sym mid_from)
          | inr w ↦ (λ i. record { state = stays q w.1 i; inbox = inbox_else (thread_at A q) (not_same (thread_at A t) (thread_at A q) (λ d. n (sym d))) i }) ∙ sym (mid_else q w.1)
        ] in
        let first = table_changed (threads_of A.derivations) (thread_view A) mid s.thread.base (in_table _ _ _ thread) mid_else ∙ ap (insert (table (threads_of A.derivations) (thread_view A)) s.thread.base) mid_from in
        let rows = table_changed (threads_of A.derivations) mid (thread_view A') t (in_table _ _ _ thread_t) others
        ∙ ap (λ (m : FinMap nat_cmp ThreadView). insert m t (thread_view A' t)) first
        ∙ ap (insert (insert (table (threads_of A.derivations) (thread_view A)) s.thread.base from) t) here in
        let lists = table_changed (endpoints_of A.derivations) (λ base. waiters A (endpoint_at A base)) (λ base. waiters A' (endpoint_at A base)) service.endpoint (in_table _ _ _ live) (λ q n. lists_elsewhere A t service fresh receives_numbered (endpoint_at A q) (not_same e (endpoint_at A q) (λ d. n (sym d))))
        ∙ ap (insert (table (endpoints_of A.derivations) (λ base. waiters A (endpoint_at A base))) service.endpoint) (sym (ap (drop 1) list_left)) in
        λ i. record { derivations = A.derivations; threads = rows i; endpoints = lists i }
