-- A send that meets a receive, in the abstract state.
use Rattle.std.proofs.Common.{◌≡◌, ◌≢◌, ℕ, suc, ◌+◌, ◌<◌, ◌≤◌, Bool, true, false, not, cond, ◌==◌, ◌&&◌, ◌||◌, List, [], ◌∷◌, ◌++◌, filter, find, length, drop, Option, None, Some, slice_get, refl, sym, ap, subst, ◌∙◌, arith, inl, inr, eq-eqb, length-append}
use Rattle.std.specs.List.{list_any, zip, filter_map, cons_option, AllByRecursion}
use Rattle.std.proofs.lemmas.Bool.{ne_eqb}
use Rattle.std.proofs.lemmas.Bool.Decides.{eqb_tells}
use Rattle.std.specs.FinMap.{insert}
use Rattle.kernel_abstract.proofs.Lists.Tables.{table_changed}
use Rattle.kernel_abstract.proofs.Lists.Paired.{drop_all, drop_get, get_within, zip_more_some}
use Rattle.kernel_abstract.proofs.Messages.WaitingSend.{record_sent, after_send, sends_here, sends_elsewhere, waiters_elsewhere, same_itself, not_same, same_tells, in_table, list_serves}
use Rattle.kernel_abstract.proofs.Messages.WaitingReceive.{ReceivesUpTo}
use Rattle.kernel_abstract.proofs.Messages.Inboxes.{UpTo, untouched, now_last, Here}
use Rattle.kernel_abstract.proofs.Lists.Numbered.{Rising, Member, member_get, member_filter, all_filter, all_map, rising_filter, only_one, next_unpaired, find_push_no, find_push_yes, tally, zero_none, find_nothing, any_kept, none_kept}
use Rattle.kernel_abstract.specs.declared.invocation.Service.{Service}
use Rattle.kernel_abstract.specs.declared.call.ThreadState.TheVariants.{Ready, Inactive}
use Rattle.ipc_core.specs.Records.{ReceiveRecord, Instance, SendRecord, same_instance, waiting_list}
use Rattle.cap_core.specs.declared.message.Message.{Message}
use Rattle.kernel_abstract.specs.State.{State, receives_of, completion, endpoint_at, first_of, inbox_of, inbox_with, is_receiving, is_sending, last_completed, pair_of, pairs, sends_to, shown, state_of, thread_at, thread_view, waiters, waiting_receives, waiting_sends}
use Rattle.kernel_abstract.specs.Private.Effects.{changed, with_message}
use Rattle.kernel_abstract.specs.Shown.{endpoints_of, table, threads_of}

abbrev pub SendsUpTo : ℕ → List SendRecord → Type 0
SendsUpTo n sends = AllByRecursion (λ (s : SendRecord). s.number ≤ n) sends

sends_filter : (f : SendRecord → Bool) (n : ℕ) (xs : List SendRecord) → SendsUpTo n xs → SendsUpTo n (filter f xs)
sends_filter f n [] h = tt
sends_filter f n (x ∷ xs) h = elim (f x) as (λ b. SendsUpTo n (cond b (x ∷ filter f xs) (filter f xs))) [ true ↦ (h.0, sends_filter f n xs h.1) | false ↦ sends_filter f n xs h.1 ]

-- a pair that is found is not completed later than its records
found_up_to : (q : SendRecord × ReceiveRecord → Bool) (n : ℕ) (ss : List SendRecord) (qs : List ReceiveRecord) (p : SendRecord × ReceiveRecord) → SendsUpTo n ss → ReceivesUpTo n qs → find q (zip ss qs) ≡ Some p → completion p ≤ n
found_up_to q n [] qs p hs hq e = cc
found_up_to q n (s ∷ ss) [] p hs hq e = cc
found_up_to q n (s ∷ ss) (a ∷ qs) p hs hq e =
    elim (q (s, a)) as (λ b. cond b (Some (s, a)) (find q (zip ss qs)) ≡ Some p → completion p ≤ n) [
      | true ↦ λ k.
          let same_pair : pair_with s a ≡ p = cc in
          let le : s.number ≤ n = hs.0 in
          let le' : a.number ≤ n = hq.0 in
          subst (λ (x : SendRecord × ReceiveRecord). completion x ≤ n) same_pair (omega arith)
      | false ↦ λ k. found_up_to q n ss qs p hs.1 hq.1 k
    ] e
  where
    pair_with : SendRecord → ReceiveRecord → SendRecord × ReceiveRecord
    pair_with x y = (x, y)

module _ (A : State) (sends_numbered : SendsUpTo A.count A.sends) (receives_numbered : ReceivesUpTo A.count A.receives) where
  pub deliveries_up_to : (xs : List ReceiveRecord) → UpTo A.count (filter_map (pair_of A) xs)
  deliveries_up_to [] = tt
  deliveries_up_to (x ∷ xs) = by_pair (deliveries_up_to xs) (pair_of A x) refl
    where
      by_pair : UpTo A.count (filter_map (pair_of A) xs) → (o : Option (SendRecord × ReceiveRecord)) → pair_of A x ≡ o → UpTo A.count (cons_option o (filter_map (pair_of A) xs))
      by_pair rest None e = rest
      by_pair rest (Some p) e = (found_up_to _ A.count (sends_to A x.endpoint) (receives_of A x.endpoint) p (sends_filter _ A.count A.sends sends_numbered) (all_filter (λ (a : ReceiveRecord). a.number ≤ A.count) _ A.receives receives_numbered) e, rest)

-- how often a thread waits at an endpoint
abbrev pub pending : State → Instance → ℕ → ℕ
pending A m base = tally (λ (s : SendRecord). same_instance s.thread m) (waiting_sends A (endpoint_at A base)) + tally (λ (a : ReceiveRecord). same_instance a.thread m) (waiting_receives A (endpoint_at A base))

module _ (A : State) (t : ℕ) (service : Service) (message : Message) (fresh : A.is_cancelled (A.count + 1) ≡ false)
    (sends_numbered : SendsUpTo A.count A.sends) (receives_numbered : ReceivesUpTo A.count A.receives) (rising : Rising A.receives)
    (a : ReceiveRecord) (met : slice_get (receives_of A (endpoint_at A service.endpoint)) (length (sends_to A (endpoint_at A service.endpoint))) ≡ Some a) where
  abbrev e : Instance
  e = endpoint_at A service.endpoint

  abbrev s : SendRecord
  s = record_sent A t service message fresh

  abbrev A' : State
  A' = after_send A t service message fresh

  pairs_grow : pairs A' e ≡ pairs A e ++ (s, a) ∷ []
  pairs_grow = ap (λ (ss : List SendRecord). zip ss (receives_of A e)) (sends_here A t service message fresh) ∙ zip_more_some (sends_to A e) (receives_of A e) s a met

  asked : Member a A.receives × ((same_instance a.endpoint e && not (A.is_cancelled a.number)) ≡ true)
  asked = member_filter _ A.receives a (member_get (receives_of A e) _ a met)

  pair_elsewhere : (x : ReceiveRecord) → x.number ≢ a.number → pair_of A' x ≡ pair_of A x
  pair_elsewhere x ne = elim (same_tells e x.endpoint) [
    | inl w ↦ subst (λ (m : Instance). find (λ (p : SendRecord × ReceiveRecord). p.1.number == x.number) (pairs A' m) ≡ find (λ (p : SendRecord × ReceiveRecord). p.1.number == x.number) (pairs A m)) w
        (ap (find (λ (p : SendRecord × ReceiveRecord). p.1.number == x.number)) pairs_grow
        ∙ find_push_no (λ (p : SendRecord × ReceiveRecord). p.1.number == x.number) (pairs A e) (s, a) (ne_eqb a.number x.number (λ d. ne (sym d))))
    | inr w ↦ ap (λ (ss : List SendRecord). find (λ (p : SendRecord × ReceiveRecord). p.1.number == x.number) (zip ss (receives_of A x.endpoint))) (sends_elsewhere A t service message fresh x.endpoint w)
  ]

  pair_now : pair_of A' a ≡ Some (s, a)
  pair_now = elim (same_tells a.endpoint e) [
    | inl w ↦ ap (λ (m : Instance). find (λ (p : SendRecord × ReceiveRecord). p.1.number == a.number) (pairs A' m)) w
        ∙ ap (find (λ (p : SendRecord × ReceiveRecord). p.1.number == a.number)) pairs_grow
        ∙ find_push_yes (λ (p : SendRecord × ReceiveRecord). p.1.number == a.number) (pairs A e) (s, a) (next_unpaired (sends_to A e) (receives_of A e) a (rising_filter _ A.receives rising) met) (eq-eqb a.number a.number refl)
    | inr w ↦ let false_is : false ≡ true = sym (ap (λ (b : Bool). b && not (A.is_cancelled a.number)) w) ∙ asked.1 in cc
  ]

  here : (f : ReceiveRecord → Bool) → Here (pair_of A) (pair_of A') a.number (s, a) pair_elsewhere (filter f A.receives)
  here f = all_filter _ f A.receives (all_map (λ (x : ReceiveRecord). x.number ≡ a.number → x ≡ a) (λ (x : ReceiveRecord). x.number ≡ a.number → pair_of A' x ≡ Some (s, a)) (λ x is d. ap (pair_of A') (is d) ∙ pair_now) A.receives (only_one A.receives a rising asked.0))

  -- the thread that asked has the message now
  pub inbox_filled : inbox_of A' a.thread ≡ (with_message service.badge message).inbox
  inbox_filled = ap inbox_with (now_last (pair_of A) (pair_of A') a.number (s, a) pair_elsewhere (filter (λ (x : ReceiveRecord). same_instance x.thread a.thread) A.receives) A.count
      (here (λ (x : ReceiveRecord). same_instance x.thread a.thread)) (deliveries_up_to A sends_numbered receives_numbered _) (omega arith) (any_kept (λ (x : ReceiveRecord). same_instance x.thread a.thread) A.receives a asked.0 (same_itself a.thread)))

  -- no other inbox changes
  pub inbox_else : (q : Instance) → same_instance a.thread q ≡ false → inbox_of A' q ≡ inbox_of A q
  inbox_else q other = ap (λ (ps : List (SendRecord × ReceiveRecord)). inbox_with (last_completed ps)) (untouched (pair_of A) (pair_of A') a.number (s, a) pair_elsewhere (filter (λ (x : ReceiveRecord). same_instance x.thread q) A.receives)
      (none_kept (λ (x : ReceiveRecord). same_instance x.thread q) A.receives a.number (all_map (λ (x : ReceiveRecord). x.number ≡ a.number → x ≡ a) (λ (x : ReceiveRecord). x.number ≡ a.number → same_instance x.thread q ≡ false) (λ x is d. ap (λ (y : ReceiveRecord). same_instance y.thread q) (is d) ∙ other) A.receives (only_one A.receives a rising asked.0))))

  -- the waiting receives lose their first
  pub no_sends : waiting_sends A e ≡ []
  no_sends = let lt : length (sends_to A e) < length (receives_of A e) = get_within _ (receives_of A e) a met in drop_all _ (sends_to A e) (omega arith)

  long : length (sends_to A' e) ≡ suc (length (sends_to A e))
  long = ap length (sends_here A t service message fresh) ∙ length-append (sends_to A e) (s ∷ []) ∙ omega arith

  pub no_sends_after : waiting_sends A' e ≡ []
  no_sends_after = let lt : length (sends_to A e) < length (receives_of A e) = get_within _ (receives_of A e) a met in let l = long in drop_all _ (sends_to A' e) (omega arith)

  pub receives_left : waiting_receives A e ≡ a ∷ waiting_receives A' e
  receives_left = drop_get _ (receives_of A e) a met ∙ ap (λ (n : ℕ). a ∷ drop n (receives_of A e)) (sym long)

  sending_at : (q : Instance) (base : ℕ) → is_sending A' q base ≡ is_sending A q base
  sending_at q base = elim (eqb_tells base service.endpoint) [
    | inl w ↦ subst (λ (b : ℕ). is_sending A' q b ≡ is_sending A q b) (sym w.1) (ap (list_any (λ (x : SendRecord). same_instance x.thread q)) (no_sends_after ∙ sym no_sends))
    | inr w ↦ ap (λ (ss : List SendRecord). list_any (λ (x : SendRecord). same_instance x.thread q) (drop (length (receives_of A (endpoint_at A base))) ss)) (sends_elsewhere A t service message fresh (endpoint_at A base) (not_same e (endpoint_at A base) (λ d. w.1 (sym d))))
  ]

  receiving_elsewhere : (q : Instance) (base : ℕ) → base ≢ service.endpoint → is_receiving A' q base ≡ is_receiving A q base
  receiving_elsewhere q base ne = ap (λ (ss : List SendRecord). list_any (λ (x : ReceiveRecord). same_instance x.thread q) (drop (length ss) (receives_of A (endpoint_at A base)))) (sends_elsewhere A t service message fresh (endpoint_at A base) (not_same e (endpoint_at A base) (λ d. ne (sym d))))

  receiving_at : (q : Instance) (base : ℕ) → same_instance a.thread q ≡ false → is_receiving A' q base ≡ is_receiving A q base
  receiving_at q base other = elim (eqb_tells base service.endpoint) [
    | inl w ↦ subst (λ (b : ℕ). is_receiving A' q b ≡ is_receiving A q b) (sym w.1)
        (sym (ap (list_any (λ (x : ReceiveRecord). same_instance x.thread q)) receives_left ∙ ap (λ (b : Bool). b || list_any (λ (x : ReceiveRecord). same_instance x.thread q) (waiting_receives A' e)) other))
    | inr w ↦ receiving_elsewhere q base w.1
  ]

  -- a thread waits once at most, at the live endpoints
  module _ (live : list_any (λ k. service.endpoint == k) (endpoints_of A.derivations) ≡ true)
      (once : (m : Instance) (b : ℕ) → list_any (λ k. b == k) (endpoints_of A.derivations) ≡ true → pending A m b ≤ 1)
      (alone : (m : Instance) (b c : ℕ) → list_any (λ k. b == k) (endpoints_of A.derivations) ≡ true → list_any (λ k. c == k) (endpoints_of A.derivations) ≡ true → b ≢ c → pending A m b + pending A m c ≤ 1) where
    mine : tally (λ (x : ReceiveRecord). same_instance x.thread a.thread) (waiting_receives A e) ≡ 1 + tally (λ (x : ReceiveRecord). same_instance x.thread a.thread) (waiting_receives A' e)
    mine = ap (tally (λ (x : ReceiveRecord). same_instance x.thread a.thread)) receives_left ∙ ap (λ (b : Bool). cond {A = ℕ} b 1 0 + tally (λ (x : ReceiveRecord). same_instance x.thread a.thread) (waiting_receives A' e)) (same_itself a.thread)

    nowhere_receiving : (b : ℕ) → list_any (λ k. b == k) (endpoints_of A.derivations) ≡ true → is_receiving A' a.thread b ≡ false
    nowhere_receiving b there = elim (eqb_tells b service.endpoint) [
      | inl w ↦ subst (λ (n : ℕ). is_receiving A' a.thread n ≡ false) (sym w.1)
          (let m = mine in let o = once a.thread service.endpoint live in zero_none (λ (x : ReceiveRecord). same_instance x.thread a.thread) (waiting_receives A' e) (omega arith))
      | inr w ↦ receiving_elsewhere a.thread b w.1
          ∙ (let m = mine in let o = alone a.thread b service.endpoint there live w.1 in zero_none (λ (x : ReceiveRecord). same_instance x.thread a.thread) (waiting_receives A (endpoint_at A b)) (omega arith))
    ]

    nowhere_sending : (b : ℕ) → list_any (λ k. b == k) (endpoints_of A.derivations) ≡ true → is_sending A' a.thread b ≡ false
    nowhere_sending b there = sending_at a.thread b ∙ elim (eqb_tells b service.endpoint) [
      | inl w ↦ subst (λ (n : ℕ). is_sending A a.thread n ≡ false) (sym w.1) (ap (list_any (λ (x : SendRecord). same_instance x.thread a.thread)) no_sends)
      | inr w ↦ (let m = mine in let o = alone a.thread b service.endpoint there live w.1 in zero_none (λ (x : SendRecord). same_instance x.thread a.thread) (waiting_sends A (endpoint_at A b)) (omega arith))
    ]

    served_ready : A.is_inactive a.thread ≡ false → state_of A' a.thread ≡ Ready
    served_ready awake =
        let r = find_nothing (is_receiving A' a.thread) (endpoints_of A.derivations) nowhere_receiving in
        let k = find_nothing (is_sending A' a.thread) (endpoints_of A.derivations) nowhere_sending in
        λ i. first_of (k i) (r i) (cond (awake i) Inactive Ready)

    -- what is shown after a send that is delivered
    pub shown_delivers : A.is_inactive a.thread ≡ false → a.thread ≡ thread_at A a.thread.base → list_any (λ k. a.thread.base == k) (threads_of A.derivations) ≡ true →
        shown A' ≡ changed (shown A) a.thread.base (with_message service.badge message) service.endpoint (drop 1 (waiters A e))
    unfolding shown
    shown_delivers awake known thread =
        let row : thread_view A' a.thread.base ≡ with_message service.badge message =
        ap (λ (m : Instance). record { state = state_of A' m; inbox = inbox_of A' m }) (sym known) ∙ (λ i. record { state = served_ready awake i; inbox = inbox_filled i }) in
        let others : (q : ℕ) → q ≢ a.thread.base → thread_view A' q ≡ thread_view A q = λ q ne.
        (let other : same_instance a.thread (thread_at A q) ≡ false = not_same a.thread (thread_at A q) (λ d. ne (sym d)) in
        λ i. record {
          state = first_of (find (λ b. sending_at (thread_at A q) b i) (endpoints_of A.derivations)) (find (λ b. receiving_at (thread_at A q) b other i) (endpoints_of A.derivations)) (cond (A.is_inactive (thread_at A q)) Inactive Ready);
          inbox = inbox_else (thread_at A q) other i;
        }) in
        let rows = table_changed (threads_of A.derivations) (thread_view A) (thread_view A') a.thread.base (in_table _ _ _ thread) others ∙ ap (insert (table (threads_of A.derivations) (thread_view A)) a.thread.base) row in
        let list : waiters A' e ≡ drop 1 (waiters A e) =
        ap (λ (ss : List SendRecord). waiting_list ss (receives_of A e)) (sends_here A t service message fresh)
        ∙ sym (ap (drop 1) (list_serves (sends_to A e) (receives_of A e) s a met)) in
        let lists = table_changed (endpoints_of A.derivations) (λ base. waiters A (endpoint_at A base)) (λ base. waiters A' (endpoint_at A base)) service.endpoint (in_table _ _ _ live) (λ q ne. waiters_elsewhere A t service message fresh (endpoint_at A q) (not_same e (endpoint_at A q) (λ d. ne (sym d))))
        ∙ ap (insert (table (endpoints_of A.derivations) (λ base. waiters A (endpoint_at A base))) service.endpoint) list in
        λ i. record { derivations = A.derivations; threads = rows i; endpoints = lists i }
