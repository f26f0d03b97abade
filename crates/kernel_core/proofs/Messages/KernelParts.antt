-- The parts of a kernel, as a send and a receive change them.
use Rattle.std.proofs.Common.{◌≡◌, ℕ, ◌*◌, Bool, true, false, cond, ◌==◌, List, [], ◌∷◌, ◌++◌, drop, length, get_or, Option, None, Some, IsSome, is_some, IsSomeAnd, All, unwrap_or, refl, sym, ap, subst, ◌∙◌, arith, inl, inr}
use Rattle.std.proofs.lemmas.Bool.{false≢true}
use Rattle.std.proofs.lemmas.Bool.Decides.{eqb_tells}
use Rattle.std.proofs.lemmas.List.Elements.{All-push, All-drop}
use Rattle.std.specs.List.{list_any}
use Rattle.std.specs.Ordering.{nat_cmp}
use Rattle.std.specs.FinMap.{FinMap, get, insert}
use Rattle.cap_core.specs.declared.profile.ProfileName.{ProfileName}
use Rattle.cap_core.specs.declared.capability.Badge.{Badge}
use Rattle.cap_core.specs.declared.message.Message.{Message}
use Rattle.cap_core.specs.Numbers.{tcb_size}
use Rattle.kernel_forest.specs.Forest.{Forest}
use Rattle.kernel_forest.specs.Entries.{Entry, caps}
use Rattle.ipc_core.specs.declared.waiter.Waiter.{Waiter}
use Rattle.ipc_core.specs.declared.waiter.Waiter.TheVariants.{Sender, Receiver}
use Rattle.ipc_core.specs.declared.waiter.Role.{Role}
use Rattle.ipc_core.specs.declared.waiter.Offer.{Offer}
use Rattle.ipc_core.specs.Waits.{Waits, IsEndpointAddress, thread_of, first_receiver, first_sender, served, queued}
use Rattle.kernel_core.specs.declared.rows.ThreadRow.{ThreadRow}
use Rattle.kernel_abstract.specs.Shown.{endpoints_of, waiting_at}
use Rattle.kernel_core.specs.Rows.{rows_map, kernel_shown, IsActive, IsKernel}
use Rattle.kernel_core.proofs.Threads.Addresses.{live_address}
use Rattle.kernel_abstract.proofs.Lists.Tables.{get_after, get_table}

-- a row that is not inactive stays so where one such row is written
active_row : (o : Option ThreadRow) (b : Bool) (row : ThreadRow) → row.inactive ≡ false → IsSomeAnd o (λ (r : ThreadRow). r.inactive ≡ false) → IsSomeAnd (cond b (Some row) o) (λ (r : ThreadRow). r.inactive ≡ false)
active_row o true row active h = active
active_row o false row active h = h

pub still_active : (size : ℕ) (rows rows' : List (Option ThreadRow)) (t q : ℕ) (row : ThreadRow) → row.inactive ≡ false → rows_map size rows' ≡ insert (rows_map size rows) t row → IsActive size rows q → IsActive size rows' q
still_active size rows rows' t q row active mapped h =
    subst (λ (o : Option ThreadRow). IsSomeAnd o (λ (r : ThreadRow). r.inactive ≡ false))
    (sym (ap (λ (m : FinMap nat_cmp ThreadRow). get m q) mapped ∙ get_after (rows_map size rows) t row q))
    (active_row (get (rows_map size rows) q) (q == t) row active h)

no_row_before : (b : Bool) (row : ThreadRow) (o : Option ThreadRow) → cond b (Some row) o ≡ None → o ≡ None
no_row_before true row o h = cc
no_row_before false row o h = h

module _ (p : ProfileName) (memory store waiters : ℕ) (f : Forest Entry) (rows : List (Option ThreadRow)) (w : Waits) (kernel : IsKernel p memory store waiters f rows w) where
  -- one thread is served, and a row that was there is written, and is not inactive
  pub served_kernel : (rows' : List (Option ThreadRow)) (e from t : ℕ) (row : ThreadRow) → IsSome (get (rows_map (tcb_size p) rows) t) → row.inactive ≡ false →
      rows_map (tcb_size p) rows' ≡ insert (rows_map (tcb_size p) rows) t row → length rows' ≡ length rows →
      IsKernel p memory store waiters f rows' (served e from w)
  served_kernel rows' e from t row there active mapped long = record {
    store_memory_is = kernel.store_memory_is;
    waiters_memory_is = kernel.waiters_memory_is;
    memory_least = kernel.memory_least;
    memory_most = kernel.memory_most;
    rows_fill = ap (λ (n : ℕ). n * tcb_size p) long ∙ kernel.rows_fill;
    slots_distinct = kernel.slots_distinct;
    slots_placed = kernel.slots_placed;
    lawful = kernel.lawful;
    disjoint = kernel.disjoint;
    regions = kernel.regions;
    housed = kernel.housed;
    live_rows = λ q. same_row q ∙ kernel.live_rows q;
    waiting_active = λ x. kept x (w.queue x) (x == e) (λ i d lt. still (get_or (w.queue x) i d) (kernel.waiting_active x i d lt)) (λ i d lt. still (get_or (w.queue e) i d) (kernel.waiting_active e i d lt));
    dead_queue = λ x dead. elim (eqb_tells x e) [
      | inl u ↦ ap (λ (b : Bool). cond b (drop 1 (w.queue e)) (w.queue x)) u.0 ∙ ap (drop 1) (ap w.queue (sym u.1) ∙ kernel.dead_queue x dead)
      | inr u ↦ ap (λ (b : Bool). cond b (drop 1 (w.queue e)) (w.queue x)) u.0 ∙ kernel.dead_queue x dead
    ];
    rowless_role = λ q none. role_none (q == from) (w.role q)
        (kernel.rowless_role q (no_row_before (q == t) row _ (sym (ap (λ (m : FinMap nat_cmp ThreadRow). get m q) mapped ∙ get_after (rows_map (tcb_size p) rows) t row q) ∙ none)));
  }
    where
      same_row : (q : ℕ) → is_some (get (rows_map (tcb_size p) rows') q) ≡ is_some (get (rows_map (tcb_size p) rows) q)
      same_row q =
          ap (λ (m : FinMap nat_cmp ThreadRow). is_some (get m q)) mapped ∙ ap is_some (get_after (rows_map (tcb_size p) rows) t row q)
          ∙ elim (eqb_tells q t) [
            | inl u ↦ ap (λ (b : Bool). is_some (cond b (Some row) (get (rows_map (tcb_size p) rows) q))) u.0 ∙ sym (ap (λ (n : ℕ). is_some (get (rows_map (tcb_size p) rows) n)) u.1 ∙ there)
            | inr u ↦ ap (λ (b : Bool). is_some (cond b (Some row) (get (rows_map (tcb_size p) rows) q))) u.0
          ]

      still : (a : Waiter) → IsActive (tcb_size p) rows (thread_of a) → IsActive (tcb_size p) rows' (thread_of a)
      still a h = still_active (tcb_size p) rows rows' t (thread_of a) row active mapped h

      kept : (x : ℕ) (list : List Waiter) (b : Bool) → All (λ (a : Waiter). IsActive (tcb_size p) rows' (thread_of a)) list → All (λ (a : Waiter). IsActive (tcb_size p) rows' (thread_of a)) (w.queue e) → All (λ (a : Waiter). IsActive (tcb_size p) rows' (thread_of a)) (cond b (drop 1 (w.queue e)) list)
      kept x list true h k = All-drop (λ (a : Waiter). IsActive (tcb_size p) rows' (thread_of a)) 1 (w.queue e) k
      kept x list false h k = h

      role_none : (b : Bool) (r : Option Role) → r ≡ None → cond b None r ≡ None
      role_none true r h = refl
      role_none false r h = h

  -- an active thread waits on a live endpoint
  pub queued_kernel : (e t : ℕ) (role : Role) (waiter : Waiter) → thread_of waiter ≡ t → IsActive (tcb_size p) rows t → list_any (λ k. e == k) (endpoints_of f) ≡ true →
      IsKernel p memory store waiters f rows (queued e t role waiter w)
  queued_kernel e t role waiter is active live = record {
    store_memory_is = kernel.store_memory_is;
    waiters_memory_is = kernel.waiters_memory_is;
    memory_least = kernel.memory_least;
    memory_most = kernel.memory_most;
    rows_fill = kernel.rows_fill;
    slots_distinct = kernel.slots_distinct;
    slots_placed = kernel.slots_placed;
    lawful = kernel.lawful;
    disjoint = kernel.disjoint;
    regions = kernel.regions;
    housed = kernel.housed;
    live_rows = kernel.live_rows;
    waiting_active = λ x. kept (w.queue x) (x == e) (kernel.waiting_active x);
    dead_queue = λ x dead. elim (eqb_tells x e) [
      | inl u ↦ absurd (false≢true (sym dead ∙ (ap (λ (n : ℕ). list_any (λ k. n == k) (endpoints_of f)) u.1 ∙ live)))
      | inr u ↦ ap (λ (b : Bool). cond b (w.queue e ++ waiter ∷ []) (w.queue x)) u.0 ∙ kernel.dead_queue x dead
    ];
    rowless_role = λ q none. elim (eqb_tells q t) [
      | inl u ↦ absurd (subst (λ (o : Option ThreadRow). IsSomeAnd o (λ (r : ThreadRow). r.inactive ≡ false)) (ap (get (rows_map (tcb_size p) rows)) (sym u.1) ∙ none) active)
      | inr u ↦ ap (λ (b : Bool). cond b (Some role) (w.role q)) u.0 ∙ kernel.rowless_role q none
    ];
  }
    where
      kept : (list : List Waiter) (b : Bool) → All (λ (a : Waiter). IsActive (tcb_size p) rows (thread_of a)) list → All (λ (a : Waiter). IsActive (tcb_size p) rows (thread_of a)) (cond b (w.queue e ++ waiter ∷ []) list)
      kept list true h = All-push (λ (a : Waiter). IsActive (tcb_size p) rows (thread_of a)) (w.queue e) waiter (kernel.waiting_active e) (subst (IsActive (tcb_size p) rows) (sym is) active)
      kept list false h = h

  -- the waiting list that is shown is the queue, also of an endpoint that is not live
  pub waiting_is : (e : ℕ) → waiting_at (kernel_shown p f rows w) e ≡ w.queue e
  waiting_is e = ap (λ (o : Option (List Waiter)). unwrap_or o []) (get_table (endpoints_of f) w.queue e) ∙ either _ refl
    where
      either : (b : Bool) → list_any (λ k. e == k) (endpoints_of f) ≡ b → unwrap_or (cond b (Some (w.queue e)) None) [] ≡ w.queue e
      either true is = refl
      either false is = sym (kernel.dead_queue e is)

  -- the first that waits on an endpoint is active
  first_active : (e : ℕ) (x : Waiter) → w.queue e ≡ x ∷ drop 1 (w.queue e) → IsActive (tcb_size p) rows (thread_of x)
  first_active e x is = subst (All (λ (a : Waiter). IsActive (tcb_size p) rows (thread_of a))) is (kernel.waiting_active e) 0 x (omega arith)

  receiver_first : (list : List Waiter) (to : ℕ) → first_receiver list ≡ Some to → list ≡ Receiver to ∷ drop 1 list
  receiver_first [] to h = cc
  receiver_first (Sender from badge message ∷ list) to h = cc
  receiver_first (Receiver other ∷ list) to h = let e : other ≡ to = cc in ap (λ (t : ℕ). Receiver t ∷ list) e

  pub receiver_active : (e to : ℕ) → first_receiver (w.queue e) ≡ Some to → IsActive (tcb_size p) rows to
  receiver_active e to h = first_active e (Receiver to) (receiver_first (w.queue e) to h)

  sender_first : (list : List Waiter) (offer : Offer) → first_sender list ≡ Some offer → list ≡ Sender offer.thread offer.badge offer.message ∷ drop 1 list
  sender_first [] offer h = cc
  sender_first (Sender from badge message ∷ list) offer h =
      let e : record_of from badge message ≡ offer = cc in
      subst (λ (o : Offer). Sender from badge message ∷ list ≡ Sender o.thread o.badge o.message ∷ list) e refl
    where
      record_of : ℕ → Badge → Message → Offer
      record_of t b m = record { thread = t; badge = b; message = m }
  sender_first (Receiver other ∷ list) offer h = cc

  pub sender_active : (e : ℕ) (offer : Offer) → first_sender (w.queue e) ≡ Some offer → IsActive (tcb_size p) rows offer.thread
  sender_active e offer h = first_active e (Sender offer.thread offer.badge offer.message) (sender_first (w.queue e) offer h)

  -- nobody waits where no endpoint can stand
  pub nobody_there : (e : ℕ) → (IsEndpointAddress p memory e → ⊥) → waiting_at (kernel_shown p f rows w) e ≡ []
  nobody_there e away = waiting_is e ∙ kernel.dead_queue e (not_live _ refl)
    where
      not_live : (b : Bool) → list_any (λ k. e == k) (endpoints_of f) ≡ b → list_any (λ k. e == k) (endpoints_of f) ≡ false
      not_live true is = absurd (away (live_address p memory e (caps f) is kernel.lawful))
      not_live false is = is
