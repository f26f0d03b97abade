-- A kernel after a thread was suspended or resumed, and after badged sends were cancelled.
use Rattle.std.proofs.Common.{◌≡◌, ℕ, ◌*◌, ◌^◌, Bool, true, false, not, cond, ◌==◌, List, [], ◌∷◌, filter, length, Option, None, Some, is_some, IsSome, IsSomeAnd, option_map, refl, sym, ap, subst, ◌∙◌, inl, inr, eq-eqb}
use Rattle.std.proofs.lemmas.Bool.{ne_eqb, false≢true}
use Rattle.std.proofs.lemmas.Bool.Decides.{eqb_tells}
use Rattle.std.proofs.lemmas.List.Elements.{recursion_from_All, All-from_recursion}
use Rattle.std.specs.List.{list_any, AllByRecursion as Each}
use Rattle.std.specs.Ordering.{nat_cmp}
use Rattle.std.specs.FinMap.{FinMap, get, insert}
use Rattle.cap_core.specs.declared.profile.ProfileName.{ProfileName}
use Rattle.cap_core.specs.declared.capability.Badge.{Badge}
use Rattle.cap_core.specs.Numbers.{tcb_size}
use Rattle.kernel_forest.specs.Forest.{Forest}
use Rattle.kernel_forest.specs.Entries.{Entry, caps}
use Rattle.ipc_core.specs.declared.waiter.Waiter.{Waiter}
use Rattle.ipc_core.specs.declared.waiter.Role.{Role}
use Rattle.ipc_core.specs.Waits.{Waits, IsEndpointAddress, thread_of}
use Rattle.ipc_core.specs.Cancelled.{is_thread, is_sender_with, those, others, after_cancel_thread, after_cancel_badge as after_badge}
use Rattle.kernel_abstract.specs.declared.call.Inbox.{Inbox}
use Rattle.kernel_abstract.specs.declared.call.ThreadState.TheVariants.{Ready, Inactive}
use Rattle.kernel_abstract.specs.Shown.{Shown, threads_of, endpoints_of, table, waiting_at, inbox_at}
use Rattle.kernel_abstract.specs.Private.Effects.{IsLiveEndpoint}
use Rattle.kernel_abstract.specs.Private.Endings.{after_stop, after_release, after_cancel_badge, readied}
use Rattle.kernel_abstract.specs.Private.Invocations.{IsLiveThread}
use Rattle.kernel_abstract.proofs.Lists.Tables.{get_after, get_table, table_changed, same_nat_map}
use Rattle.kernel_core.specs.declared.rows.ThreadRow.{ThreadRow}
use Rattle.kernel_core.specs.Rows.{rows_map, threads_shown, kernel_shown, IsActive, IsKernel, IsBetweenCalls, view_of}
use Rattle.kernel_core.specs.Private.NewRows.{stopped_row, with_stopped}
use Rattle.kernel_core.proofs.Threads.Addresses.{live_address}
use Rattle.kernel_core.proofs.Threads.RowViews.{get_thread, threads_changed, inbox_shown_is}
use Rattle.kernel_core.proofs.Messages.KernelParts.{waiting_is}
use Rattle.kernel_core.proofs.Endings.EndedKernel.{waiting_one}
use Rattle.kernel_core.proofs.Endings.Deletions.{between}

-- what holds of each that is left of a list, and of each that is taken
each_left : (P : Waiter → Type 0) (names : Waiter → Bool) (l : List Waiter) → Each P l → Each P (filter names l)
each_left P names [] h = tt
each_left P names (x ∷ l) h = elim (names x) as (λ b. Each P (cond b (x ∷ filter names l) (filter names l))) [
  | true ↦ (h.0, each_left P names l h.1)
  | false ↦ each_left P names l h.1
]

-- a test that failed
pub unequal : (b : Bool) → not b ≡ true → b ≡ false
unequal true h = absurd (false≢true h)
unequal false h = refl

module _ (p : ProfileName) (memory store waiters : ℕ) (f : Forest Entry) (rows : List (Option ThreadRow)) (w : Waits) (kernel : IsKernel p memory store waiters f rows w) (v : Shown) (view : kernel_shown p f rows w ≡ v) where
  active : (e : ℕ) → Each (λ (x : Waiter). IsActive (tcb_size p) rows (thread_of x)) (w.queue e)
  active e = recursion_from_All (λ (x : Waiter). IsActive (tcb_size p) rows (thread_of x)) (w.queue e) (kernel.waiting_active e)

  -- a live thread has a row
  pub live_row : (t : ℕ) → IsLiveThread v.derivations t → IsSome (get (rows_map (tcb_size p) rows) t)
  live_row t live = kernel.live_rows t ∙ subst (λ (u : Shown). IsLiveThread u.derivations t) (sym view) live

  module _ (t : ℕ) (live : IsLiveThread v.derivations t) (inactive : Bool) (memory' : ℕ) (rows' : List (Option ThreadRow)) (w' : Waits)
      (mapped : rows_map (tcb_size p) rows' ≡ with_stopped t inactive (rows_map (tcb_size p) rows)) (is : w' ≡ after_cancel_thread t w) where
    abbrev row : ThreadRow
    row = stopped_row inactive (get (rows_map (tcb_size p) rows) t)

    at_row : (q : ℕ) → get (rows_map (tcb_size p) rows') q ≡ cond (q == t) (Some row) (get (rows_map (tcb_size p) rows) q)
    at_row q = ap (λ (m : FinMap nat_cmp ThreadRow). get m q) mapped ∙ get_after (rows_map (tcb_size p) rows) t row q

    rows_live : (q : ℕ) → is_some (get (rows_map (tcb_size p) rows') q) ≡ list_any (λ k. q == k) (threads_of f)
    rows_live q = ap is_some (at_row q) ∙ elim (eqb_tells q t) [
      | inl u ↦ ap (λ (b : Bool). is_some (cond b (Some row) (get (rows_map (tcb_size p) rows) q))) u.0 ∙ sym (ap (λ (n : ℕ). list_any (λ k. n == k) (threads_of f)) u.1 ∙ subst (λ (x : Shown). IsLiveThread x.derivations t) (sym view) live)
      | inr u ↦ ap (λ (b : Bool). is_some (cond b (Some row) (get (rows_map (tcb_size p) rows) q))) u.0 ∙ kernel.live_rows q
    ]

    others_active : (l : List Waiter) → Each (λ (x : Waiter). IsActive (tcb_size p) rows (thread_of x)) l → Each (λ (x : Waiter). IsActive (tcb_size p) rows' (thread_of x)) (others (is_thread t) l)
    others_active [] h = tt
    others_active (x ∷ l) h = elim (is_thread t x) as (λ b. is_thread t x ≡ b → Each (λ (y : Waiter). IsActive (tcb_size p) rows' (thread_of y)) (cond (not b) (x ∷ others (is_thread t) l) (others (is_thread t) l))) [
      | true ↦ λ same. others_active l h.1
      | false ↦ λ other. (
        subst (λ (o : Option ThreadRow). IsSomeAnd o (λ (r : ThreadRow). r.inactive ≡ false)) (sym (at_row (thread_of x) ∙ ap (λ (b : Bool). cond b (Some row) (get (rows_map (tcb_size p) rows) (thread_of x))) other)) h.0,
        others_active l h.1,
      )
    ] refl

    rowless : (q : ℕ) → get (rows_map (tcb_size p) rows') q ≡ None → cond (q == t) None (w.role q) ≡ None
    rowless q none = elim (eqb_tells q t) [
      | inl u ↦ ap (λ (b : Bool). cond b None (w.role q)) u.0
      | inr u ↦ ap (λ (b : Bool). cond b None (w.role q)) u.0 ∙ kernel.rowless_role q (sym (at_row q ∙ ap (λ (b : Bool). cond b (Some row) (get (rows_map (tcb_size p) rows) q)) u.0) ∙ none)
    ]

    stopped_parts : (waiters' : ℕ) → memory' ≡ memory → waiters' ≡ memory' → length rows' * tcb_size p ≡ 2 ^ memory' → IsKernel p memory' store waiters' f rows' w'
    stopped_parts waiters' same same' fill = subst (IsKernel p memory' store waiters' f rows') (sym is) (
        subst (λ (m : ℕ). waiters' ≡ m → length rows' * tcb_size p ≡ 2 ^ m → IsKernel p m store waiters' f rows' (after_cancel_thread t w)) (sym same) (λ memories fills. record {
          store_memory_is = kernel.store_memory_is;
          waiters_memory_is = memories;
          memory_least = kernel.memory_least;
          memory_most = kernel.memory_most;
          rows_fill = fills;
          slots_distinct = kernel.slots_distinct;
          slots_placed = kernel.slots_placed;
          lawful = kernel.lawful;
          disjoint = kernel.disjoint;
          regions = kernel.regions;
          housed = kernel.housed;
          live_rows = rows_live;
          waiting_active = λ e. All-from_recursion (λ (x : Waiter). IsActive (tcb_size p) rows' (thread_of x)) (others (is_thread t) (w.queue e)) (others_active (w.queue e) (active e));
          dead_queue = λ e dead. ap (others (is_thread t)) (kernel.dead_queue e dead);
          rowless_role = rowless;
        }) same' fill)

    pub stopped_kernel : (waiters' : ℕ) → memory' ≡ memory → waiters' ≡ memory' → length rows' * tcb_size p ≡ 2 ^ memory' → (chain : List ℕ × ℕ) → chain ≡ ([], 2 ^ memory) → IsBetweenCalls p memory' store waiters' f rows' w' chain
    stopped_kernel waiters' same same' fill chain chain_is = between p memory memory' store waiters' f rows' w' chain chain (stopped_parts waiters' same same' fill) same refl chain_is

    stopped_threads : threads_shown (tcb_size p) rows' (after_cancel_thread t w) ≡ insert (threads_shown (tcb_size p) rows w) t (record { state = cond inactive Inactive Ready; inbox = inbox_at (kernel_shown p f rows w) t })
    stopped_threads = threads_changed (tcb_size p) rows rows' w (after_cancel_thread t w) t (record { state = cond inactive Inactive Ready; inbox = inbox_at (kernel_shown p f rows w) t })
        (λ q ne. at_row q ∙ ap (λ (b : Bool). cond b (Some row) (get (rows_map (tcb_size p) rows) q)) (ne_eqb q t ne))
        (λ q ne. ap (λ (b : Bool). cond b None (w.role q)) (ne_eqb q t ne))
        (ap (λ (b : Bool). option_map (view_of (cond b None (w.role t))) (get (rows_map (tcb_size p) rows') t)) (eq-eqb t t refl)
        ∙ ap (option_map (view_of None)) (at_row t ∙ ap (λ (b : Bool). cond b (Some row) (get (rows_map (tcb_size p) rows) t)) (eq-eqb t t refl))
        ∙ ap (λ (i : Option Inbox). Some (record { state = cond inactive Inactive Ready; inbox = i })) (sym (inbox_shown_is (tcb_size p) rows w t)))

    pub stopped_shown : kernel_shown p f rows' w' ≡ after_stop v t (cond inactive Inactive Ready)
    stopped_shown =
        ap (kernel_shown p f rows') is
        ∙ (λ i. record {
          derivations = f;
          threads = stopped_threads i;
          endpoints = table (endpoints_of f) (λ e. others (is_thread t) (sym (waiting_is p memory store waiters f rows w kernel e) i));
        })
        ∙ ap (λ (u : Shown). after_stop u t (cond inactive Inactive Ready)) view

  -- an endpoint's senders with a badge wait no more
  module _ (e : ℕ) (badge : Badge) (live : IsLiveEndpoint v e) where
    endpoint_live : list_any (λ k. e == k) (endpoints_of f) ≡ true
    endpoint_live = present _ (subst IsSome (get_table (endpoints_of f) w.queue e) (subst (λ (u : Shown). IsLiveEndpoint u e) (sym view) live))
      where
        present : (b : Bool) → IsSome (cond b (Some (w.queue e)) None) → b ≡ true
        present true h = refl
        present false h = absurd (false≢true h)

    pub endpoint_placed : IsEndpointAddress p waiters e
    endpoint_placed = subst (λ (m : ℕ). IsEndpointAddress p m e) (sym kernel.waiters_memory_is) (live_address p memory e (caps f) endpoint_live kernel.lawful)

    module _ (w' : Waits) (is : w' ≡ after_badge e badge w) where
      pub released_kernel : (waiters' : ℕ) → waiters' ≡ waiters → (chain : List ℕ × ℕ) → chain ≡ ([], 2 ^ memory) → IsBetweenCalls p memory store waiters' f rows w' chain
      released_kernel waiters' same chain chain_is = between p memory memory store waiters' f rows w' chain chain (subst (IsKernel p memory store waiters' f rows) (sym is) (record {
        store_memory_is = kernel.store_memory_is;
        waiters_memory_is = same ∙ kernel.waiters_memory_is;
        memory_least = kernel.memory_least;
        memory_most = kernel.memory_most;
        rows_fill = kernel.rows_fill;
        slots_distinct = kernel.slots_distinct;
        slots_placed = kernel.slots_placed;
        lawful = kernel.lawful;
        disjoint = kernel.disjoint;
        regions = kernel.regions;
        housed = kernel.housed;
        live_rows = kernel.live_rows;
        waiting_active = λ q. All-from_recursion (λ (x : Waiter). IsActive (tcb_size p) rows (thread_of x)) ((after_badge e badge w).queue q) (kept q (q == e));
        dead_queue = λ q dead. elim (eqb_tells q e) [
          | inl u ↦ ap (λ (b : Bool). cond b (others (is_sender_with badge) (w.queue e)) (w.queue q)) u.0 ∙ ap (others (is_sender_with badge)) (ap w.queue (sym u.1) ∙ kernel.dead_queue q dead)
          | inr u ↦ ap (λ (b : Bool). cond b (others (is_sender_with badge) (w.queue e)) (w.queue q)) u.0 ∙ kernel.dead_queue q dead
        ];
        rowless_role = λ q none. role_none (list_any (is_thread q) (those (is_sender_with badge) (w.queue e))) (w.role q) (kernel.rowless_role q none);
      })) refl refl chain_is
        where
          kept : (q : ℕ) (b : Bool) → Each (λ (x : Waiter). IsActive (tcb_size p) rows (thread_of x)) (cond b (others (is_sender_with badge) (w.queue e)) (w.queue q))
          kept q true = each_left (λ (x : Waiter). IsActive (tcb_size p) rows (thread_of x)) (λ (x : Waiter). not (is_sender_with badge x)) (w.queue e) (active e)
          kept q false = active q

          role_none : (b : Bool) (r : Option Role) → r ≡ None → cond b None r ≡ None
          role_none true r h = refl
          role_none false r h = h

      -- one thread, whose send was cancelled or not
      released_view : (o : Option ThreadRow) (r : Option Role) (named there : Bool) → is_some o ≡ there → ((row : ThreadRow) → o ≡ Some row → named ≡ true → row.inactive ≡ false) →
          option_map (view_of (cond named None r)) o ≡ cond there (Some (readied named (option_map (view_of r) o))) None
      released_view None r named there some h = ap (λ (b : Bool). cond b (Some (readied named None)) None) some
      released_view (Some row) r true there some h =
          ap (λ (b : Bool). Some (record { state = cond b Inactive Ready; inbox = row.inbox })) (h row refl refl) ∙ ap (λ (b : Bool). cond b (Some (readied true (Some (view_of r row)))) None) some
      released_view (Some row) r false there some h = ap (λ (b : Bool). cond b (Some (readied false (Some (view_of r row)))) None) some

      released_threads : threads_shown (tcb_size p) rows (after_badge e badge w) ≡
          table (threads_of f) (λ t. readied (list_any (is_thread t) (those (is_sender_with badge) (waiting_at (kernel_shown p f rows w) e))) (get (threads_shown (tcb_size p) rows w) t))
      released_threads = same_nat_map _ _ (λ t.
          get_thread (tcb_size p) rows (after_badge e badge w) t
          ∙ released_view (get (rows_map (tcb_size p) rows) t) (w.role t) (list_any (is_thread t) (those (is_sender_with badge) (w.queue e))) (list_any (λ k. t == k) (threads_of f)) (kernel.live_rows t)
          (λ row there named. subst (λ (o : Option ThreadRow). IsSomeAnd o (λ (r : ThreadRow). r.inactive ≡ false)) there
          (waiting_one (IsActive (tcb_size p) rows) t (those (is_sender_with badge) (w.queue e)) (each_left (λ (x : Waiter). IsActive (tcb_size p) rows (thread_of x)) (is_sender_with badge) (w.queue e) (active e)) named))
          ∙ (λ i. cond (list_any (λ k. t == k) (threads_of f)) (Some (readied (list_any (is_thread t) (those (is_sender_with badge) (sym (waiting_is p memory store waiters f rows w kernel e) i))) (sym (get_thread (tcb_size p) rows w t) i))) None)
          ∙ sym (get_table (threads_of f) (λ q. readied (list_any (is_thread q) (those (is_sender_with badge) (waiting_at (kernel_shown p f rows w) e))) (get (threads_shown (tcb_size p) rows w) q)) t))

      released_lists : table (endpoints_of f) (after_badge e badge w).queue ≡ insert (table (endpoints_of f) w.queue) e (others (is_sender_with badge) (waiting_at (kernel_shown p f rows w) e))
      released_lists =
          table_changed (endpoints_of f) w.queue (after_badge e badge w).queue e (subst (λ (u : Shown). IsLiveEndpoint u e) (sym view) live)
          (λ q ne. ap (λ (b : Bool). cond b (others (is_sender_with badge) (w.queue e)) (w.queue q)) (ne_eqb q e ne))
          ∙ ap (insert (table (endpoints_of f) w.queue) e) (ap (λ (b : Bool). cond b (others (is_sender_with badge) (w.queue e)) (w.queue e)) (eq-eqb e e refl)
          ∙ ap (others (is_sender_with badge)) (sym (waiting_is p memory store waiters f rows w kernel e)))

      pub released_shown : (badge.0 == 0) ≡ false → kernel_shown p f rows w' ≡ after_cancel_badge v e badge
      released_shown some =
          ap (kernel_shown p f rows) is
          ∙ (λ i. record { derivations = f; threads = released_threads i; endpoints = released_lists i })
          ∙ ap (λ (u : Shown). after_release u e (is_sender_with badge)) view
          ∙ sym (ap (λ (b : Bool). cond b v (after_release v e (is_sender_with badge))) some)
