-- What is shown after the senders with a badge wait no more.
use Rattle.std.proofs.Common.{◌≡◌, ◌≢◌, ℕ, ◌≤◌, ◌+◌, Bool, true, false, not, cond, ◌==◌, ◌&&◌, ◌||◌, List, [], ◌∷◌, ◌++◌, map, filter, find, None, refl, sym, ap, subst, ◌∙◌, arith, inl, inr}
use Rattle.std.specs.List.{list_any, AllByRecursion}
use Rattle.std.specs.FinMap.{get, insert}
use Rattle.std.proofs.lemmas.Bool.{false≢true}
use Rattle.std.proofs.lemmas.Bool.Decides.{eqb_tells}
use Rattle.cap_core.specs.declared.capability.Badge.{Badge}
use Rattle.ipc_core.specs.Records.{Instance, same_instance, SendRecord, ReceiveRecord, sender, receiver}
use Rattle.ipc_core.specs.declared.waiter.Waiter.{Waiter}
use Rattle.ipc_core.specs.Cancelled.{is_thread, is_sender_with, those, others}
use Rattle.kernel_abstract.specs.declared.call.ThreadState.TheVariants.{Ready, Inactive}
use Rattle.kernel_abstract.specs.Shown.{threads_of, endpoints_of, table, waiting_at}
use Rattle.kernel_abstract.specs.State.{State, endpoint_at, thread_at, waiting_sends, waiting_receives, waiters, is_sending, is_receiving, state_of, first_of, thread_view, shown}
use Rattle.kernel_abstract.specs.Cancelling.{is_badged_send, cancelling_badged}
use Rattle.kernel_abstract.specs.Private.Endings.{after_cancel_badge, after_release, readied}
use Rattle.kernel_abstract.proofs.Lists.Tables.{table_changed}
use Rattle.kernel_abstract.proofs.Lists.Numbered.{find_nothing, tally, zero_none}
use Rattle.kernel_abstract.proofs.Lists.Searches.{table_agrees}
use Rattle.kernel_abstract.proofs.Messages.WaitingSend.{in_table, not_same, same_itself}
use Rattle.kernel_abstract.proofs.Reached.Invariant.{list_shown}
use Rattle.kernel_abstract.proofs.Lists.Rising.{all_weaker, all_of, all_joined, any_left, any_same, filter_all, passes_not}
use Rattle.kernel_abstract.proofs.Cancelling.Records.{inbox_same}
use Rattle.kernel_abstract.proofs.Reached.Invariant.{Invariant, SendIsOpen}
use Rattle.kernel_abstract.proofs.Cancelling.InvariantKept.{sends_waiting, receives_waiting}
use Rattle.kernel_abstract.proofs.Cancelling.Waiting.{own_waiting_sends, sender_open, sends_on_one, sends_alone}
use Rattle.kernel_abstract.proofs.Cancelling.Ended.{list_less, row_shown}
use Rattle.kernel_abstract.proofs.Cancelling.Stopped.{same_thread_at}

-- lists of which some are named

any_filter : {X : Type 0} (p q : X → Bool) (xs : List X) → list_any p (filter q xs) ≡ list_any (λ x. q x && p x) xs
any_filter p q [] = refl
any_filter p q (x ∷ xs) = elim (q x) as (λ b. list_any p (cond b (x ∷ filter q xs) (filter q xs)) ≡ ((b && p x) || list_any (λ y. q y && p y) xs)) [
  | true ↦ ap (λ (b : Bool). p x || b) (any_filter p q xs)
  | false ↦ any_filter p q xs
]

any_map : {X Y : Type 0} (p : Y → Bool) (f : X → Y) (xs : List X) → list_any p (map f xs) ≡ list_any (λ x. p (f x)) xs
any_map p f [] = refl
any_map p f (x ∷ xs) = ap (λ (b : Bool). p (f x) || b) (any_map p f xs)

any_append : {X : Type 0} (p : X → Bool) (xs ys : List X) → list_any p (xs ++ ys) ≡ (list_any p xs || list_any p ys)
any_append p [] ys = refl
any_append p (x ∷ xs) ys = ap (λ (b : Bool). p x || b) (any_append p xs ys) ∙ by (p x)
  where
    by : (b : Bool) → (b || (list_any p xs || list_any p ys)) ≡ ((b || list_any p xs) || list_any p ys)
    by true = refl
    by false = refl

any_never : {X : Type 0} (xs : List X) → list_any (λ (x : X). false) xs ≡ false
any_never [] = refl
any_never (x ∷ xs) = any_never xs

-- where one passes at most, those that pass are named all or not at all
one_named : {X : Type 0} (p named : X → Bool) (xs : List X) → tally p xs ≤ 1 → AllByRecursion (λ (x : X). p x ≡ true → named x ≡ list_any (λ y. p y && named y) xs) xs
one_named {X = X} p named [] le = tt
one_named {X = X} p named (x ∷ xs) le = elim (p x) as (λ b. p x ≡ b → cond b 1 0 + tally p xs ≤ 1 →
    AllByRecursion (λ y. p y ≡ true → named y ≡ ((b && named x) || list_any (λ z. p z && named z) xs)) (x ∷ xs)) [
      | true ↦ λ e few.
          let none : list_any p xs ≡ false = zero_none p xs (omega (arith, few)) in
          (λ _. sym (ap (λ (b : Bool). named x || b) (none_both xs none) ∙ or_nothing (named x)), all_absent xs none)
      | false ↦ λ e few. (λ there. absurd (false≢true (sym e ∙ there)), one_named p named xs (omega (arith, few)))
    ] refl le
  where
    or_nothing : (b : Bool) → (b || false) ≡ b
    or_nothing true = refl
    or_nothing false = refl

    none_both : (zs : List X) → list_any p zs ≡ false → list_any (λ z. p z && named z) zs ≡ false
    none_both [] h = refl
    none_both (z ∷ zs) h = elim (p z) as (λ b. (b || list_any p zs) ≡ false → ((b && named z) || list_any (λ y. p y && named y) zs) ≡ false) [
      | true ↦ λ k. absurd (false≢true (sym k))
      | false ↦ λ k. none_both zs k
    ] h

    all_absent : (zs : List X) → list_any p zs ≡ false → AllByRecursion (λ y. p y ≡ true → named y ≡ (named x || list_any (λ z. p z && named z) xs)) zs
    all_absent [] h = tt
    all_absent (z ∷ zs) h = elim (p z) as (λ b. p z ≡ b → (b || list_any p zs) ≡ false → AllByRecursion (λ y. p y ≡ true → named y ≡ (named x || list_any (λ w. p w && named w) xs)) (z ∷ zs)) [
      | true ↦ λ e k. absurd (false≢true (sym k))
      | false ↦ λ e k. (λ there. absurd (false≢true (sym e ∙ there)), all_absent zs k)
    ] refl h

some_both : {X : Type 0} (p q : X → Bool) (xs : List X) → list_any (λ x. p x && q x) xs ≡ true → list_any p xs ≡ true
some_both p q [] h = h
some_both p q (x ∷ xs) h = elim (p x) as (λ b. ((b && q x) || list_any (λ y. p y && q y) xs) ≡ true → (b || list_any p xs) ≡ true) [
  | true ↦ λ k. refl
  | false ↦ λ k. some_both p q xs k
] h

module _ (A : State) (base : ℕ) (badge : Badge) (inv : Invariant A) (live : list_any (λ k. base == k) (endpoints_of A.derivations) ≡ true) (some : (badge.0 == 0) ≡ false) where
  abbrev e : Instance
  e = endpoint_at A base

  abbrev named : SendRecord → Bool
  named = is_badged_send (endpoint_at A base) badge

  abbrev left : State
  left = cancelling_badged A (endpoint_at A base) badge

  sends_left : (x : Instance) → waiting_sends left x ≡ filter (λ (s : SendRecord). not (named s)) (waiting_sends A x)
  sends_left x = sends_waiting A (is_badged_send (endpoint_at A base) badge) (λ _. false) inv x

  receives_left : (x : Instance) → waiting_receives left x ≡ waiting_receives A x
  receives_left x = receives_waiting A (is_badged_send (endpoint_at A base) badge) (λ _. false) inv x ∙ filter_all (λ (a : ReceiveRecord). true) (waiting_receives A x) (all_of (λ (a : ReceiveRecord). true ≡ true) (λ a. refl) (waiting_receives A x))

  -- at the endpoint itself the badge decides, and elsewhere nothing is named
  by_badge : (s : SendRecord) → s.endpoint ≡ e → named s ≡ (s.badge.0 == badge.0)
  by_badge s own =
      ap (λ (b : Bool). not b && (same_instance s.endpoint e && s.badge.0 == badge.0)) some
      ∙ ap (λ (x : Instance). same_instance x e && s.badge.0 == badge.0) own
      ∙ ap (λ (b : Bool). b && s.badge.0 == badge.0) (same_itself e)

  unnamed : (q : ℕ) → q ≢ base → (s : SendRecord) → s.endpoint ≡ endpoint_at A q → named s ≡ false
  unnamed q ne s own =
      ap (λ (b : Bool). not b && (same_instance s.endpoint e && s.badge.0 == badge.0)) some
      ∙ ap (λ (x : Instance). same_instance x e && s.badge.0 == badge.0) own
      ∙ ap (λ (b : Bool). b && s.badge.0 == badge.0) (not_same (endpoint_at A q) e ne)

  sends_elsewhere : (q : ℕ) → q ≢ base → waiting_sends left (endpoint_at A q) ≡ waiting_sends A (endpoint_at A q)
  sends_elsewhere q ne = sends_left (endpoint_at A q) ∙ filter_all (λ (s : SendRecord). not (named s)) (waiting_sends A (endpoint_at A q))
      (all_weaker (λ (s : SendRecord). s.endpoint ≡ endpoint_at A q) (λ (s : SendRecord). not (named s) ≡ true) (λ s own. ap not (unnamed q ne s own)) (waiting_sends A (endpoint_at A q)) (own_waiting_sends A (endpoint_at A q)))

  -- the waiting lists
  list_elsewhere : (q : ℕ) → q ≢ base → waiters left (endpoint_at A q) ≡ waiters A (endpoint_at A q)
  list_elsewhere q ne = let ss = sends_elsewhere q ne in let qs = receives_left (endpoint_at A q) in λ i. map sender (ss i) ++ map receiver (qs i)

  list_here : waiters left e ≡ others (is_sender_with badge) (waiters A e)
  list_here =
      let qs = receives_waiting A (is_badged_send (endpoint_at A base) badge) (λ _. false) inv e in
      let ss = sends_left e in
      (λ i. map sender (ss i) ++ map receiver (qs i))
      ∙ list_less (waiting_sends A e) (waiting_receives A e) named (λ _. false) (λ (w : Waiter). not (is_sender_with badge w))
      (all_weaker (λ (s : SendRecord). s.endpoint ≡ e) (λ (s : SendRecord). not (named s) ≡ not (s.badge.0 == badge.0)) (λ s own. ap not (by_badge s own)) (waiting_sends A e) (own_waiting_sends A e))
      (all_of (λ (a : ReceiveRecord). true ≡ true) (λ a. refl) (waiting_receives A e))

  -- whether a thread is among those that wait no more
  module _ (t : ℕ) where
    abbrev m : Instance
    m = thread_at A t

    abbrev was_named : Bool
    was_named = list_any (λ (s : SendRecord). same_instance s.thread m && named s) (waiting_sends A e)

    told : list_any (is_thread t) (those (is_sender_with badge) (waiters A e)) ≡ was_named
    told =
        any_filter (is_thread t) (is_sender_with badge) (waiters A e)
        ∙ any_append (λ (w : Waiter). is_sender_with badge w && is_thread t w) (map sender (waiting_sends A e)) (map receiver (waiting_receives A e))
        ∙ ap (λ (b : Bool). list_any (λ (w : Waiter). is_sender_with badge w && is_thread t w) (map sender (waiting_sends A e)) || b)
        (any_map (λ (w : Waiter). is_sender_with badge w && is_thread t w) receiver (waiting_receives A e) ∙ any_never (waiting_receives A e))
        ∙ or_nothing (list_any (λ (w : Waiter). is_sender_with badge w && is_thread t w) (map sender (waiting_sends A e)))
        ∙ any_map (λ (w : Waiter). is_sender_with badge w && is_thread t w) sender (waiting_sends A e)
        ∙ any_same (λ (s : SendRecord). s.badge.0 == badge.0 && s.thread.base == t) (λ (s : SendRecord). same_instance s.thread m && named s) (waiting_sends A e)
        (all_joined (λ (s : SendRecord). s.endpoint ≡ e) (SendIsOpen A) _ (λ (s : SendRecord) own o.
        swapped (s.badge.0 == badge.0) (s.thread.base == t)
        ∙ ap (λ (b : Bool). b && (s.badge.0 == badge.0)) (sym (ap (λ (x : Instance). same_instance x m) o.thread_is ∙ same_thread_at A s.thread.base t))
        ∙ ap (λ (b : Bool). same_instance s.thread m && b) (sym (by_badge s own)))
        (waiting_sends A e) (own_waiting_sends A e) (inv.sends_open e))
      where
        or_nothing : (b : Bool) → (b || false) ≡ b
        or_nothing true = refl
        or_nothing false = refl

        swapped : (b c : Bool) → (b && c) ≡ (c && b)
        swapped true true = refl
        swapped true false = refl
        swapped false true = refl
        swapped false false = refl

    few : tally (λ (s : SendRecord). same_instance s.thread m) (waiting_sends A e) ≤ 1
    few = let le = inv.once m base live in omega (arith, le)

    sending_here : is_sending left m base ≡ cond was_named false (is_sending A m base)
    sending_here =
        ap (list_any (λ (s : SendRecord). same_instance s.thread m)) (sends_left e)
        ∙ any_left (λ (s : SendRecord). same_instance s.thread m) named was_named (waiting_sends A e) (one_named (λ (s : SendRecord). same_instance s.thread m) named (waiting_sends A e) few)

    sending_elsewhere : (q : ℕ) → q ≢ base → is_sending left m q ≡ is_sending A m q
    sending_elsewhere q ne = ap (list_any (λ (s : SendRecord). same_instance s.thread m)) (sends_elsewhere q ne)

    receiving_same : (q : ℕ) → is_receiving left m q ≡ is_receiving A m q
    receiving_same q = ap (list_any (λ (a : ReceiveRecord). same_instance a.thread m)) (receives_left (endpoint_at A q))

    state_stays : was_named ≡ false → state_of left m ≡ state_of A m
    state_stays is =
        let sends : (q : ℕ) → is_sending left m q ≡ is_sending A m q = λ q. elim (eqb_tells q base) [
          | inl w ↦ subst (λ (n : ℕ). is_sending left m n ≡ is_sending A m n) (sym w.1) (sending_here ∙ ap (λ (b : Bool). cond b false (is_sending A m base)) is)
          | inr w ↦ sending_elsewhere q w.1
        ] in
        λ i. first_of (find (λ q. sends q i) (endpoints_of A.derivations)) (find (λ q. receiving_same q i) (endpoints_of A.derivations)) (cond (A.is_inactive m) Inactive Ready)

    state_ready : was_named ≡ true → state_of left m ≡ Ready
    state_ready is =
        let there : is_sending A m base ≡ true = some_both (λ (s : SendRecord). same_instance s.thread m) named (waiting_sends A e) is in
        let nowhere : (q : ℕ) → is_sending left m q ≡ false = λ q. elim (eqb_tells q base) [
          | inl w ↦ subst (λ (n : ℕ). is_sending left m n ≡ false) (sym w.1) (sending_here ∙ ap (λ (b : Bool). cond b false (is_sending A m base)) is)
          | inr w ↦ sending_elsewhere q w.1 ∙ passes_not (is_sending A m q) (λ sends. w.1 (sends_on_one A inv m q base sends there))
        ] in
        let sends = find_nothing (is_sending left m) (endpoints_of A.derivations) (λ k _. nowhere k) in
        let receives : find (is_receiving left m) (endpoints_of A.derivations) ≡ None = (λ i. find (λ q. receiving_same q i) (endpoints_of A.derivations)) ∙ sends_alone A inv m base there in
        let awake = (sender_open A inv e m there).awake in
        λ i. first_of (sends i) (receives i) (cond (awake i) Inactive Ready)

    state_left : (c : Bool) → was_named ≡ c → state_of left m ≡ cond c Ready (state_of A m)
    state_left true is = state_ready is
    state_left false is = state_stays is

    view_left : list_any (λ k. t == k) (threads_of A.derivations) ≡ true →
        readied (list_any (is_thread t) (those (is_sender_with badge) (waiting_at (shown A) base))) (get (shown A).threads t) ≡ thread_view left t
    view_left there =
        let state = state_left was_named refl in
        let inbox = inbox_same A (is_badged_send (endpoint_at A base) badge) (λ _. false) inv.sends_rising inv.rising inv.unshared m in
        ap (λ (list : List Waiter). readied (list_any (is_thread t) (those (is_sender_with badge) list)) (get (shown A).threads t)) (list_shown A base live)
        ∙ ap (λ (b : Bool). readied b (get (shown A).threads t)) told
        ∙ ap (readied was_named) (row_shown A t there)
        ∙ (λ i. record { state = sym state i; inbox = sym inbox i })

  badged_shown : shown (cancelling_badged A (endpoint_at A base) badge) ≡ after_release (shown A) base (is_sender_with badge)
  unfolding shown
  badged_shown =
      let rows = table_agrees (threads_of A.derivations) (threads_of A.derivations) (thread_view left) (λ t. readied (list_any (is_thread t) (those (is_sender_with badge) (waiting_at (shown A) base))) (get (shown A).threads t)) (λ q. refl) view_left in
      let lists = table_changed (endpoints_of A.derivations) (λ b. waiters A (endpoint_at A b)) (λ b. waiters left (endpoint_at A b)) base (in_table _ _ _ live) list_elsewhere
      ∙ ap (insert (table (endpoints_of A.derivations) (λ b. waiters A (endpoint_at A b))) base) (list_here ∙ ap (others (is_sender_with badge)) (sym (list_shown A base live))) in
      λ i. record { derivations = A.derivations; threads = sym rows i; endpoints = lists i }

-- badge 0 names none: nothing changes
module _ (A : State) (base : ℕ) (badge : Badge) (inv : Invariant A) (none : (badge.0 == 0) ≡ true) where
  abbrev kept : State
  kept = cancelling_badged A (endpoint_at A base) badge

  sends_kept : (x : Instance) → waiting_sends kept x ≡ waiting_sends A x
  sends_kept x =
      sends_waiting A (is_badged_send (endpoint_at A base) badge) (λ _. false) inv x
      ∙ filter_all (λ (s : SendRecord). not (is_badged_send (endpoint_at A base) badge s)) (waiting_sends A x) (all_of (λ (s : SendRecord). not (is_badged_send (endpoint_at A base) badge s) ≡ true)
      (λ s. ap (λ (b : Bool). not (not b && (same_instance s.endpoint (endpoint_at A base) && s.badge.0 == badge.0))) none) (waiting_sends A x))

  receives_kept : (x : Instance) → waiting_receives kept x ≡ waiting_receives A x
  receives_kept x = receives_waiting A (is_badged_send (endpoint_at A base) badge) (λ _. false) inv x ∙ filter_all (λ (a : ReceiveRecord). true) (waiting_receives A x) (all_of (λ (a : ReceiveRecord). true ≡ true) (λ a. refl) (waiting_receives A x))

  unbadged_shown : shown kept ≡ shown A
  unfolding shown
  unbadged_shown = λ i. record {
    derivations = A.derivations;
    threads = table (threads_of A.derivations) (λ t. record {
      state = first_of
          (find (λ q. list_any (λ (s : SendRecord). same_instance s.thread (thread_at A t)) (sends_kept (endpoint_at A q) i)) (endpoints_of A.derivations))
          (find (λ q. list_any (λ (a : ReceiveRecord). same_instance a.thread (thread_at A t)) (receives_kept (endpoint_at A q) i)) (endpoints_of A.derivations))
          (cond (A.is_inactive (thread_at A t)) Inactive Ready);
      inbox = inbox_same A (is_badged_send (endpoint_at A base) badge) (λ _. false) inv.sends_rising inv.rising inv.unshared (thread_at A t) i;
    });
    endpoints = table (endpoints_of A.derivations) (λ b. map sender (sends_kept (endpoint_at A b) i) ++ map receiver (receives_kept (endpoint_at A b) i));
  }

pub cancelling_badged_shown : (A : State) (base : ℕ) (badge : Badge) → Invariant A → list_any (λ k. base == k) (endpoints_of A.derivations) ≡ true →
    shown (cancelling_badged A (endpoint_at A base) badge) ≡ after_cancel_badge (shown A) base badge
cancelling_badged_shown A base badge inv live = by (badge.0 == 0) refl
  where
    by : (b : Bool) → (badge.0 == 0) ≡ b → shown (cancelling_badged A (endpoint_at A base) badge) ≡ cond b (shown A) (after_release (shown A) base (is_sender_with badge))
    by true none = unbadged_shown A base badge inv none
    by false some = badged_shown A base badge inv live some
