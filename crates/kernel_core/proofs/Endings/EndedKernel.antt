-- A kernel in which objects end, and what it shows.
use Rattle.std.proofs.Common.{◌≡◌, ℕ, ◌*◌, ◌^◌, Bool, true, false, not, cond, ◌==◌, ◌&&◌, ◌||◌, List, [], ◌∷◌, map, length, Option, None, Some, is_some, option_map, IsSomeAnd, refl, sym, ap, subst, ◌∙◌, inl, inr}
use Rattle.std.proofs.lemmas.Bool.{false≢true, eqb-true}
use Rattle.std.proofs.lemmas.List.Elements.{recursion_from_All, All-from_recursion}
use Rattle.std.specs.List.{list_any, filter_map, cons_option, AllByRecursion as Each}
use Rattle.std.specs.FinMap.{get}
use Rattle.cap_core.specs.declared.profile.ProfileName.{ProfileName}
use Rattle.cap_core.specs.declared.capability.Cap.{Cap}
use Rattle.cap_core.specs.declared.capability.Cap.TheVariants.{Null, Untyped, Endpoint, CNode, Tcb}
use Rattle.cap_core.specs.declared.capability.Badge.{Badge}
use Rattle.cap_core.specs.declared.rights.Rights.{Rights}
use Rattle.cap_core.specs.Numbers.{tcb_size}
use Rattle.cap_core.specs.Rights.{all_rights}
use Rattle.cap_core.specs.Objects.{same_object}
use Rattle.kernel_forest.specs.Forest.{Forest, preorder}
use Rattle.kernel_forest.specs.Entries.{Entry, caps}
use Rattle.kernel_forest.specs.Derivation.{is_named}
use Rattle.ipc_core.specs.declared.waiter.Waiter.{Waiter}
use Rattle.ipc_core.specs.declared.waiter.Role.{Role}
use Rattle.ipc_core.specs.declared.waiter.Role.TheVariants as R
use Rattle.ipc_core.specs.Waits.{Waits, thread_of, endpoint_of}
use Rattle.ipc_core.specs.Cancelled.{is_thread, others}
use Rattle.ipc_core.specs.Agreement.{AreRolesAndQueues}
use Rattle.kernel_delete.specs.Clear.{ended}
use Rattle.kernel_delete.specs.Housed.{IsHoused}
use Rattle.kernel_delete.proofs.Members.{both_true, either_true}
use Rattle.kernel_abstract.specs.declared.call.ThreadState.TheVariants.{Ready, Sending, Receiving}
use Rattle.kernel_abstract.specs.Shown.{threads_of, endpoints_of, tcb_base, endpoint_base, table, waiting_at}
use Rattle.kernel_abstract.specs.Private.Endings.{after_ending, state_among, view_among, waiting_among}
use Rattle.kernel_abstract.specs.Private.Stores.{IsKernelStore}
use Rattle.kernel_abstract.proofs.Lists.Tables.{get_table, same_nat_map}
use Rattle.kernel_abstract.proofs.Lists.Rising.{filter_same, all_weaker, and_false}
use Rattle.kernel_core.specs.declared.rows.ThreadRow.{ThreadRow}
use Rattle.kernel_core.specs.Rows.{rows_map, threads_shown, kernel_shown, IsActive, IsKernel, view_of, state_with}
use Rattle.kernel_core.specs.Private.Ended.{AreLeft, HaveEnded, StandsIn, ends_endpoint, ends_thread, role_left}
use Rattle.kernel_core.proofs.Threads.Addresses.{live_address, row_address}
use Rattle.kernel_core.proofs.Threads.RowViews.{get_thread}
use Rattle.kernel_core.proofs.Messages.KernelParts.{waiting_is}
use Rattle.kernel_core.proofs.Endings.EndedObjects.{eqb_swap}

-- the objects that are named are those that are live

thread_named : (t : ℕ) (cap : Cap) (rest : List ℕ) (b : Bool) → b ≡ list_any (λ k. t == k) rest → same_object cap (Tcb t) || b ≡ list_any (λ k. t == k) (cons_option (tcb_base cap) rest)
thread_named t Null rest b h = h
thread_named t (Untyped base bits free) rest b h = h
thread_named t (Endpoint base badge rights) rest b h = h
thread_named t (CNode base radix guard) rest b h = h
thread_named t (Tcb base) rest b h = (λ i. eqb_swap base t i || h i)

endpoint_named : (e : ℕ) (badge : Badge) (rights : Rights) (cap : Cap) (rest : List ℕ) (b : Bool) → b ≡ list_any (λ k. e == k) rest → same_object cap (Endpoint e badge rights) || b ≡ list_any (λ k. e == k) (cons_option (endpoint_base cap) rest)
endpoint_named e badge rights Null rest b h = h
endpoint_named e badge rights (Untyped base bits free) rest b h = h
endpoint_named e badge rights (Endpoint base badge' rights') rest b h = (λ i. eqb_swap base e i || h i)
endpoint_named e badge rights (CNode base radix guard) rest b h = h
endpoint_named e badge rights (Tcb base) rest b h = h

pub named_thread : (t : ℕ) (f : Forest Entry) → is_named (Tcb t) f ≡ list_any (λ k. t == k) (threads_of f)
named_thread t f = among (preorder f)
  where
    among : (l : List Entry) → list_any (λ (e : Entry). same_object e.cap (Tcb t)) l ≡ list_any (λ k. t == k) (filter_map tcb_base (map (λ (e : Entry). e.cap) l))
    among [] = refl
    among (x ∷ l) = thread_named t x.cap (filter_map tcb_base (map (λ (e : Entry). e.cap) l)) (list_any (λ (e : Entry). same_object e.cap (Tcb t)) l) (among l)

pub named_endpoint : (e : ℕ) (badge : Badge) (rights : Rights) (f : Forest Entry) → is_named (Endpoint e badge rights) f ≡ list_any (λ k. e == k) (endpoints_of f)
named_endpoint e badge rights f = among (preorder f)
  where
    among : (l : List Entry) → list_any (λ (x : Entry). same_object x.cap (Endpoint e badge rights)) l ≡ list_any (λ k. e == k) (filter_map endpoint_base (map (λ (x : Entry). x.cap) l))
    among [] = refl
    among (x ∷ l) = endpoint_named e badge rights x.cap (filter_map endpoint_base (map (λ (y : Entry). y.cap) l)) (list_any (λ (y : Entry). same_object y.cap (Endpoint e badge rights)) l) (among l)

-- what holds of each thread that waits, of one of them
pub waiting_one : (P : ℕ → Type 0) (t : ℕ) (l : List Waiter) → Each (λ (x : Waiter). P (thread_of x)) l → list_any (is_thread t) l ≡ true → P t
waiting_one P t [] each h = absurd (false≢true h)
waiting_one P t (x ∷ l) each h = elim (either_true (is_thread t x) (list_any (is_thread t) l) h) [
  | inl here ↦ subst P (eqb-true (thread_of x) t here) each.0
  | inr there ↦ waiting_one P t l each.1 there
]

-- the views of one thread before and after
thread_left : (es : List ℕ) (gone : Cap → Bool) (o : Option ThreadRow) (r : Option Role) (was is dead : Bool) → is_some o ≡ was → dead ≡ (was && not is) → (is ≡ true → was ≡ true) →
    ((row : ThreadRow) → o ≡ Some row → state_with (role_left gone r) row.inactive ≡ state_among es (state_with r row.inactive)) →
    option_map (view_of (cond dead None (role_left gone r))) (cond dead None o) ≡ cond is (Some (view_among es (option_map (view_of r) o))) None
thread_left es gone o r was true dead some died fewer state = by o refl
  where
    lives : dead ≡ false
    lives = died ∙ and_false was

    by : (x : Option ThreadRow) → o ≡ x → option_map (view_of (cond dead None (role_left gone r))) (cond dead None o) ≡ Some (view_among es (option_map (view_of r) o))
    by None e = absurd (false≢true (sym (ap is_some e) ∙ some ∙ fewer refl))
    by (Some row) e =
        (λ i. option_map (view_of (cond (lives i) None (role_left gone r))) (cond (lives i) None (e i)))
        ∙ (λ i. Some (record { state = state row e i; inbox = row.inbox }))
        ∙ sym (λ i. Some (view_among es (option_map (view_of r) (e i))))
thread_left es gone o r true false dead some died fewer state = (λ i. option_map (view_of (cond (died i) None (role_left gone r))) (cond (died i) None o))
thread_left es gone o r false false dead some died fewer state =
    (λ i. option_map (view_of (cond (died i) None (role_left gone r))) (cond (died i) None o)) ∙ by o some
  where
    by : (x : Option ThreadRow) → is_some x ≡ false → option_map (view_of (role_left gone r)) x ≡ None
    by None h = refl
    by (Some row) h = absurd (false≢true (sym h))

-- how a thread waits before and after
state_left : (es : List ℕ) (gone : Cap → Bool) (r : Option Role) (inactive : Bool) →
    ((x : Role) → r ≡ Some x → (ends_endpoint gone (endpoint_of x) ≡ not (list_any (λ k. endpoint_of x == k) es)) × (inactive ≡ false)) →
    state_with (role_left gone r) inactive ≡ state_among es (state_with r inactive)
state_left es gone None true h = refl
state_left es gone None false h = refl
state_left es gone (Some (R.Sending e)) inactive h =
    let w = h (R.Sending e) refl in
    ap (λ b. state_with (cond b None (Some (R.Sending e))) inactive) w.0 ∙ ap (λ b. state_with (cond (not (list_any (λ k. e == k) es)) None (Some (R.Sending e))) b) w.1 ∙ by (list_any (λ k. e == k) es)
  where
    by : (b : Bool) → state_with (cond (not b) None (Some (R.Sending e))) false ≡ cond b (Sending e) Ready
    by true = refl
    by false = refl
state_left es gone (Some (R.Receiving e)) inactive h =
    let w = h (R.Receiving e) refl in
    ap (λ b. state_with (cond b None (Some (R.Receiving e))) inactive) w.0 ∙ ap (λ b. state_with (cond (not (list_any (λ k. e == k) es)) None (Some (R.Receiving e))) b) w.1 ∙ by (list_any (λ k. e == k) es)
  where
    by : (b : Bool) → state_with (cond (not b) None (Some (R.Receiving e))) false ≡ cond b (Receiving e) Ready
    by true = refl
    by false = refl

module _ (p : ProfileName) (memory store waiters : ℕ) (f : Forest Entry) (rows : List (Option ThreadRow)) (w : Waits) (kernel : IsKernel p memory store waiters f rows w) where
  -- what ends stands where such an object can
  pub stands : (h : Forest Entry) (c : Cap) → ended f h c ≡ true → StandsIn p memory c
  stands h c is = by c (both_true (is_named c f) (not (is_named c h)) is).0
    where
      by : (c : Cap) → is_named c f ≡ true → StandsIn p memory c
      by Null named = tt
      by (Untyped base bits free) named = tt
      by (Endpoint base badge rights) named = live_address p memory base (caps f) (sym (named_endpoint base badge rights f) ∙ named) kernel.lawful
      by (CNode base radix guard) named = tt
      by (Tcb base) named = row_address p memory rows base kernel.rows_fill (kernel.live_rows base ∙ sym (named_thread base f) ∙ named)

  module _ (agree : AreRolesAndQueues w) (h : Forest Entry) (gone : Cap → Bool) (memory' : ℕ) (rows' : List (Option ThreadRow)) (w' : Waits) (left : AreLeft p gone memory memory' rows rows' w w')
      (gone_thread : (t : ℕ) → ends_thread gone t ≡ (list_any (λ k. t == k) (threads_of f) && not (list_any (λ k. t == k) (threads_of h))))
      (gone_endpoint : (e : ℕ) → ends_endpoint gone e ≡ (list_any (λ k. e == k) (endpoints_of f) && not (list_any (λ k. e == k) (endpoints_of h))))
      (threads : (t : ℕ) → list_any (λ k. t == k) (threads_of h) ≡ true → list_any (λ k. t == k) (threads_of f) ≡ true)
      (endpoints : (e : ℕ) → list_any (λ k. e == k) (endpoints_of h) ≡ true → list_any (λ k. e == k) (endpoints_of f) ≡ true) where
    size : ℕ
    size = tcb_size p

    active : (e : ℕ) → Each (λ (x : Waiter). IsActive (tcb_size p) rows (thread_of x)) (w.queue e)
    active e = recursion_from_All (λ (x : Waiter). IsActive (tcb_size p) rows (thread_of x)) (w.queue e) (kernel.waiting_active e)

    row_there : (o : Option ThreadRow) → IsSomeAnd o (λ (r : ThreadRow). r.inactive ≡ false) → is_some o ≡ true
    row_there None a = absurd a
    row_there (Some row) a = refl

    -- an active thread is live
    active_live : (t : ℕ) → IsActive (tcb_size p) rows t → list_any (λ k. t == k) (threads_of f) ≡ true
    active_live t a = sym (kernel.live_rows t) ∙ row_there _ a

    -- of an active thread that did not end nothing changes
    still_active : (t : ℕ) → IsActive (tcb_size p) rows t → not (ends_thread gone t) ≡ true → IsActive (tcb_size p) rows' t
    still_active t a lives = subst (λ (o : Option ThreadRow). IsSomeAnd o (λ (r : ThreadRow). r.inactive ≡ false)) (sym (left.rows_left t ∙ by (ends_thread gone t) lives)) a
      where
        by : (b : Bool) → not b ≡ true → cond b None (get (rows_map (tcb_size p) rows) t) ≡ get (rows_map (tcb_size p) rows) t
        by true lives = absurd (false≢true lives)
        by false lives = refl

    waiting_kept : (e : ℕ) → Each (λ (x : Waiter). IsActive (tcb_size p) rows' (thread_of x)) (w'.queue e)
    waiting_kept e = subst (Each (λ (x : Waiter). IsActive (tcb_size p) rows' (thread_of x))) (sym (left.queues_left e)) (by (ends_endpoint gone e))
      where
        others_active : (l : List Waiter) → Each (λ (x : Waiter). IsActive (tcb_size p) rows (thread_of x)) l → Each (λ (x : Waiter). IsActive (tcb_size p) rows' (thread_of x)) (others (λ (x : Waiter). ends_thread gone (thread_of x)) l)
        others_active [] a = tt
        others_active (x ∷ l) a = elim (ends_thread gone (thread_of x)) as (λ b. ends_thread gone (thread_of x) ≡ b → Each (λ (y : Waiter). IsActive (tcb_size p) rows' (thread_of y))
            (cond (not b) (x ∷ others (λ (y : Waiter). ends_thread gone (thread_of y)) l) (others (λ (y : Waiter). ends_thread gone (thread_of y)) l))) [
              | true ↦ λ is. others_active l a.1
              | false ↦ λ is. (still_active (thread_of x) a.0 (ap not is), others_active l a.1)
            ] refl

        by : (b : Bool) → Each (λ (x : Waiter). IsActive (tcb_size p) rows' (thread_of x)) (cond b [] (others (λ (x : Waiter). ends_thread gone (thread_of x)) (w.queue e)))
        by true = tt
        by false = others_active (w.queue e) (active e)

    dead_kept : (e : ℕ) → list_any (λ k. e == k) (endpoints_of h) ≡ false → w'.queue e ≡ []
    dead_kept e dead = left.queues_left e ∙ by (list_any (λ k. e == k) (endpoints_of f)) refl
      where
        by : (b : Bool) → list_any (λ k. e == k) (endpoints_of f) ≡ b → cond (ends_endpoint gone e) [] (others (λ (x : Waiter). ends_thread gone (thread_of x)) (w.queue e)) ≡ []
        by true was = ap (λ b. cond b [] (others (λ (x : Waiter). ends_thread gone (thread_of x)) (w.queue e))) (gone_endpoint e ∙ (λ i. was i && not (dead i)))
        by false was = ap (λ l. cond (ends_endpoint gone e) [] (others (λ (x : Waiter). ends_thread gone (thread_of x)) l)) (kernel.dead_queue e was) ∙ none (ends_endpoint gone e)
          where
            none : (b : Bool) → cond b [] (others (λ (x : Waiter). ends_thread gone (thread_of x)) []) ≡ []
            none true = refl
            none false = refl

    rows_live : (t : ℕ) → is_some (get (rows_map (tcb_size p) rows') t) ≡ list_any (λ k. t == k) (threads_of h)
    rows_live t = ap is_some (left.rows_left t ∙ ap (λ b. cond b None (get (rows_map (tcb_size p) rows) t)) (gone_thread t))
        ∙ by (list_any (λ k. t == k) (threads_of f)) (list_any (λ k. t == k) (threads_of h)) (get (rows_map (tcb_size p) rows) t) (kernel.live_rows t) (threads t)
      where
        by : (was is : Bool) (o : Option ThreadRow) → is_some o ≡ was → (is ≡ true → was ≡ true) → is_some (cond (was && not is) None o) ≡ is
        by true true o some fewer = some
        by true false o some fewer = refl
        by false true o some fewer = absurd (false≢true (fewer refl))
        by false false o some fewer = some

    rowless_kept : (t : ℕ) → get (rows_map (tcb_size p) rows') t ≡ None → w'.role t ≡ None
    rowless_kept t none = left.roles_left t ∙ by (ends_thread gone t) (w.role t) (sym (left.rows_left t) ∙ none) (kernel.rowless_role t)
      where
        by : (b : Bool) (r : Option Role) → cond b None (get (rows_map (tcb_size p) rows) t) ≡ None → (get (rows_map (tcb_size p) rows) t ≡ None → r ≡ None) → cond b None (role_left gone r) ≡ None
        by true r absent waits = refl
        by false r absent waits = ap (role_left gone) (waits absent)

    pub ended_kernel : (store' waiters' : ℕ) → store' ≡ store → waiters' ≡ memory' → length rows' * tcb_size p ≡ 2 ^ memory' → IsKernelStore p memory h → IsHoused p h → IsKernel p memory' store' waiters' h rows' w'
    ended_kernel store' waiters' same same' fill kept housed = subst (λ (m : ℕ). waiters' ≡ m → length rows' * tcb_size p ≡ 2 ^ m → IsKernel p m store' waiters' h rows' w') (sym left.memory_is) (λ is fills. record {
      store_memory_is = same ∙ kernel.store_memory_is;
      waiters_memory_is = is;
      memory_least = kernel.memory_least;
      memory_most = kernel.memory_most;
      rows_fill = fills;
      slots_distinct = kept.slots_distinct;
      slots_placed = kept.slots_placed;
      lawful = kept.lawful;
      disjoint = kept.disjoint;
      regions = kept.regions;
      housed = housed;
      live_rows = rows_live;
      waiting_active = λ e. All-from_recursion (λ (x : Waiter). IsActive (tcb_size p) rows' (thread_of x)) (w'.queue e) (waiting_kept e);
      dead_queue = dead_kept;
      rowless_role = rowless_kept;
    }) same' fill

    -- where a thread waits its endpoint is live, and it is active
    waits_live : (t : ℕ) (x : Role) → w.role t ≡ Some x → list_any (λ k. endpoint_of x == k) (endpoints_of f) ≡ true
    waits_live t x is = by (list_any (λ k. endpoint_of x == k) (endpoints_of f)) refl
      where
        by : (b : Bool) → list_any (λ k. endpoint_of x == k) (endpoints_of f) ≡ b → b ≡ true
        by true was = refl
        by false was = sym (ap (list_any (is_thread t)) (kernel.dead_queue (endpoint_of x) was)) ∙ agree.waits t x is

    waits_active : (t : ℕ) (x : Role) → w.role t ≡ Some x → IsActive (tcb_size p) rows t
    waits_active t x is = waiting_one (IsActive (tcb_size p) rows) t (w.queue (endpoint_of x)) (active (endpoint_of x)) (agree.waits t x is)

    threads_seen : threads_shown (tcb_size p) rows' w' ≡ table (threads_of h) (λ t. view_among (endpoints_of h) (get (threads_shown (tcb_size p) rows w) t))
    threads_seen = same_nat_map _ _ (λ t.
        get_thread (tcb_size p) rows' w' t
        ∙ (λ i. option_map (view_of (left.roles_left t i)) (left.rows_left t i))
        ∙ thread_left (endpoints_of h) gone (get (rows_map (tcb_size p) rows) t) (w.role t) (list_any (λ k. t == k) (threads_of f)) (list_any (λ k. t == k) (threads_of h)) (ends_thread gone t)
        (kernel.live_rows t) (gone_thread t) (threads t)
        (λ row is. state_left (endpoints_of h) gone (w.role t) row.inactive (λ x role. (
          gone_endpoint (endpoint_of x) ∙ ap (λ b. b && not (list_any (λ k. endpoint_of x == k) (endpoints_of h))) (waits_live t x role),
          subst (λ (o : Option ThreadRow). IsSomeAnd o (λ (r : ThreadRow). r.inactive ≡ false)) is (waits_active t x role),
        )))
        ∙ ap (λ o. cond (list_any (λ k. t == k) (threads_of h)) (Some (view_among (endpoints_of h) o)) None) (sym (get_thread (tcb_size p) rows w t))
        ∙ sym (get_table (threads_of h) (λ q. view_among (endpoints_of h) (get (threads_shown (tcb_size p) rows w) q)) t))

    list_seen : (e : ℕ) → list_any (λ k. e == k) (endpoints_of h) ≡ true → w'.queue e ≡ waiting_among (threads_of h) (w.queue e)
    list_seen e live =
        left.queues_left e
        ∙ ap (λ b. cond b [] (others (λ (x : Waiter). ends_thread gone (thread_of x)) (w.queue e))) (gone_endpoint e ∙ ap (λ b. list_any (λ k. e == k) (endpoints_of f) && not b) live ∙ and_false (list_any (λ k. e == k) (endpoints_of f)))
        ∙ filter_same (λ (x : Waiter). not (ends_thread gone (thread_of x))) (λ (x : Waiter). list_any (λ k. thread_of x == k) (threads_of h)) (w.queue e)
        (all_weaker (λ (x : Waiter). IsActive (tcb_size p) rows (thread_of x)) (λ (x : Waiter). not (ends_thread gone (thread_of x)) ≡ list_any (λ k. thread_of x == k) (threads_of h))
        (λ x a. ap not (gone_thread (thread_of x)) ∙ ap (λ b. not (b && not (list_any (λ k. thread_of x == k) (threads_of h)))) (active_live (thread_of x) a) ∙ not_not (list_any (λ k. thread_of x == k) (threads_of h)))
        (w.queue e) (active e))
      where
        not_not : (b : Bool) → not (not b) ≡ b
        not_not true = refl
        not_not false = refl

    lists_seen : table (endpoints_of h) w'.queue ≡ table (endpoints_of h) (λ e. waiting_among (threads_of h) (waiting_at (kernel_shown p f rows w) e))
    lists_seen = same_nat_map _ _ (λ e.
        get_table (endpoints_of h) w'.queue e ∙ by e (list_any (λ k. e == k) (endpoints_of h)) refl
        ∙ sym (get_table (endpoints_of h) (λ q. waiting_among (threads_of h) (waiting_at (kernel_shown p f rows w) q)) e))
      where
        by : (e : ℕ) (b : Bool) → list_any (λ k. e == k) (endpoints_of h) ≡ b → cond (list_any (λ k. e == k) (endpoints_of h)) (Some (w'.queue e)) None ≡
            cond (list_any (λ k. e == k) (endpoints_of h)) (Some (waiting_among (threads_of h) (waiting_at (kernel_shown p f rows w) e))) None
        by e true is = ap (λ l. cond (list_any (λ k. e == k) (endpoints_of h)) (Some l) None) (list_seen e is ∙ ap (waiting_among (threads_of h)) (sym (waiting_is p memory store waiters f rows w kernel e)))
        by e false is = ap (λ b. cond b (Some (w'.queue e)) None) is ∙ sym (ap (λ b. cond b (Some (waiting_among (threads_of h) (waiting_at (kernel_shown p f rows w) e))) None) is)

    pub ended_shown : kernel_shown p h rows' w' ≡ after_ending (kernel_shown p f rows w) h
    ended_shown = λ i. record { derivations = h; threads = threads_seen i; endpoints = lists_seen i }

-- the objects ended by which one forest comes to another with the same live objects as a third
module _ (p : ProfileName) (memory store waiters : ℕ) (f : Forest Entry) (rows : List (Option ThreadRow)) (w : Waits) (kernel : IsKernel p memory store waiters f rows w) (agree : AreRolesAndQueues w)
    (g h f' : Forest Entry) (memory' : ℕ) (rows' : List (Option ThreadRow)) (w' : Waits) (after : HaveEnded p (ended f g) memory memory' rows rows' w w')
    (threads : (t : ℕ) → list_any (λ k. t == k) (threads_of g) ≡ true → list_any (λ k. t == k) (threads_of f) ≡ true)
    (endpoints : (e : ℕ) → list_any (λ k. e == k) (endpoints_of g) ≡ true → list_any (λ k. e == k) (endpoints_of f) ≡ true)
    (same_threads : (t : ℕ) → list_any (λ k. t == k) (threads_of h) ≡ list_any (λ k. t == k) (threads_of g))
    (same_endpoints : (e : ℕ) → list_any (λ k. e == k) (endpoints_of h) ≡ list_any (λ k. e == k) (endpoints_of g))
    (is : f' ≡ h) where
  left : AreLeft p (ended f g) memory memory' rows rows' w w'
  left = after (stands p memory store waiters f rows w kernel g)

  pub memory_kept : memory' ≡ memory
  memory_kept = left.memory_is

  gone_thread : (t : ℕ) → ended f g (Tcb t) ≡ (list_any (λ k. t == k) (threads_of f) && not (list_any (λ k. t == k) (threads_of h)))
  gone_thread t = λ i. named_thread t f i && not ((named_thread t g ∙ sym (same_threads t)) i)

  gone_endpoint : (e : ℕ) → ends_endpoint (ended f g) e ≡ (list_any (λ k. e == k) (endpoints_of f) && not (list_any (λ k. e == k) (endpoints_of h)))
  gone_endpoint e = λ i. named_endpoint e (record { 0 = 0 }) all_rights f i && not ((named_endpoint e (record { 0 = 0 }) all_rights g ∙ sym (same_endpoints e)) i)

  pub cleared_kernel : (store' waiters' : ℕ) → store' ≡ store → waiters' ≡ memory' → length rows' * tcb_size p ≡ 2 ^ memory' → IsKernelStore p memory h → IsHoused p h → IsKernel p memory' store' waiters' f' rows' w'
  cleared_kernel store' waiters' same same' fill kept housed =
      subst (λ (x : Forest Entry). IsKernel p memory' store' waiters' x rows' w') (sym is)
      (ended_kernel p memory store waiters f rows w kernel agree h (ended f g) memory' rows' w' left gone_thread gone_endpoint
      (λ t live. threads t (sym (same_threads t) ∙ live)) (λ e live. endpoints e (sym (same_endpoints e) ∙ live)) store' waiters' same same' fill kept housed)

  pub cleared_shown : kernel_shown p f' rows' w' ≡ after_ending (kernel_shown p f rows w) h
  cleared_shown =
      subst (λ (x : Forest Entry). kernel_shown p x rows' w' ≡ after_ending (kernel_shown p f rows w) h) (sym is)
      (ended_shown p memory store waiters f rows w kernel agree h (ended f g) memory' rows' w' left gone_thread gone_endpoint
      (λ t live. threads t (sym (same_threads t) ∙ live)) (λ e live. endpoints e (sym (same_endpoints e) ∙ live)))
