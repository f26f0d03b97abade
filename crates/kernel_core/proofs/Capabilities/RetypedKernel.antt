-- A kernel after a retype: what holds of its parts, and what it shows.
use Rattle.std.proofs.Common.{◌≡◌, ℕ, ◌*◌, ◌%◌, ◌^◌, ◌<◌, Bool, true, false, cond, ◌||◌, ◌==◌, List, [], ◌∷◌, map, length, get_or, Option, None, Some, is_some, option_map, IsSomeAnd, ◌⊎◌, inl, inr, refl, sym, ap, subst, ◌∙◌}
use Rattle.std.proofs.lemmas.Bool.{false≢true}
use Rattle.std.specs.List.{list_any, range_with_len, filter_map}
use Rattle.std.specs.Ordering.{nat_cmp}
use Rattle.std.specs.FinMap.{FinMap, get, insert}
use Rattle.cap_core.specs.declared.profile.ProfileName.{ProfileName}
use Rattle.cap_core.specs.declared.capability.Kind.{Kind}
use Rattle.cap_core.specs.declared.capability.Kind.TheVariants as Kinds
use Rattle.cap_core.specs.Numbers.{tcb_size}
use Rattle.cap_core.specs.Kinds.{new_cap, size_of}
use Rattle.cap_core.specs.declared.capability.Cap.{Cap}
use Rattle.mem_core.specs.declared.objects.Placed.{Placed}
use Rattle.mem_core.specs.Plans.{object_at}
use Rattle.kernel_forest.specs.Forest.{Forest}
use Rattle.kernel_forest.specs.Entries.{Entry, is_full}
use Rattle.cspace_core.specs.Resolution.{slot_of}
use Rattle.ipc_core.specs.declared.waiter.Role.{Role}
use Rattle.ipc_core.specs.Waits.{Waits, thread_of}
use Rattle.kernel_core.specs.declared.rows.ThreadRow.{ThreadRow}
use Rattle.kernel_abstract.specs.declared.invocation.NewObjects.{NewObjects}
use Rattle.kernel_abstract.specs.Shown.{Shown, ThreadView, endpoints_of, endpoint_base, tcb_base, table, waiting_at}
use Rattle.kernel_core.specs.Rows.{rows_map, view_of, threads_shown, kernel_shown, IsActive, IsKernel}
use Rattle.kernel_core.specs.Private.NewRows.{new_row, with_rows}
use Rattle.kernel_abstract.specs.Retyping.{with_objects, new_bases}
use Rattle.kernel_abstract.specs.Private.Effects.{objects_shown, new_thread, with_threads}
use Rattle.kernel_abstract.specs.Private.Invocations.{IsRetype}
use Rattle.kernel_abstract.proofs.Housed.Edits.{housed-with_objects}
use Rattle.kernel_abstract.proofs.Lists.Tables.{get_after, same_nat_map}
use Rattle.kernel_core.proofs.Threads.RowViews.{get_thread}
use Rattle.kernel_core.proofs.Messages.KernelParts.{waiting_is}
use Rattle.kernel_abstract.proofs.Lists.Searches.{table_agrees}
use Rattle.kernel_abstract.proofs.Retype.LiveRetyped.{live-objects, untyped_full, tcb_base-freed, endpoint_base-freed}
use Rattle.kernel_abstract.proofs.Retype.PutInOrder.{CanMake}
use Rattle.kernel_abstract.proofs.Retype.RetypedForest.{lies, untyped_lawful, made, made_lawful, made_placed}
use Rattle.kernel_abstract.proofs.Capabilities.PutObjects.{object_below, object_word}
use Rattle.kernel_abstract.proofs.Retype.NewlyLive.{threads_were_not}

-- a map to which values were added one after another
earlier_or : {X : Type 0} (b c : Bool) (x : X) (o : Option X) → cond c (Some x) (cond b (Some x) o) ≡ cond (b || c) (Some x) o
earlier_or true true x o = refl
earlier_or true false x o = refl
earlier_or false c x o = refl

get_rows : (bases : List ℕ) (rows : FinMap nat_cmp ThreadRow) (q : ℕ) → get (with_rows bases rows) q ≡ cond (list_any (λ k. q == k) bases) (Some new_row) (get rows q)
get_rows [] rows q = refl
get_rows (b ∷ bases) rows q =
    get_rows bases (insert rows b new_row) q
    ∙ ap (cond (list_any (λ k. q == k) bases) (Some new_row)) (get_after rows b new_row q)
    ∙ earlier_or (q == b) (list_any (λ k. q == k) bases) new_row (get rows q)

get_views : (bases : List ℕ) (threads : FinMap nat_cmp ThreadView) (q : ℕ) → get (with_threads bases threads) q ≡ cond (list_any (λ k. q == k) bases) (Some new_thread) (get threads q)
get_views [] threads q = refl
get_views (b ∷ bases) threads q =
    get_views bases (insert threads b new_thread) q
    ∙ ap (cond (list_any (λ k. q == k) bases) (Some new_thread)) (get_after threads b new_thread q)
    ∙ earlier_or (q == b) (list_any (λ k. q == k) bases) new_thread (get threads q)

no_row : {X : Type 0} (o : Option X) → is_some o ≡ false → o ≡ None
no_row None h = refl
no_row (Some x) h = absurd (false≢true (sym h))

some_or : {X : Type 0} (b : Bool) (x : X) (o : Option X) → is_some (cond b (Some x) o) ≡ (b || is_some o)
some_or true x o = refl
some_or false x o = refl

or_last : (b c : Bool) → (b || c) ≡ false → c ≡ false
or_last true c h = cc
or_last false c h = h

none_last : {X : Type 0} (b : Bool) (x : X) (o : Option X) → cond b (Some x) o ≡ None → o ≡ None
none_last true x o h = cc
none_last false x o h = h

-- the threads among the new objects

bases_tcb : (p : ProfileName) (placed : Placed) (first size_bits : ℕ) (l : List ℕ)
    → filter_map tcb_base (map (λ (put : ℕ × Cap). put.1) (map (λ i. (slot_of p first i, new_cap Kinds.Tcb (object_at placed i) size_bits)) l)) ≡ map (object_at placed) l
bases_tcb p placed first size_bits [] = refl
bases_tcb p placed first size_bits (i ∷ l) = ap (λ m. object_at placed i ∷ m) (bases_tcb p placed first size_bits l)

bases_untyped : (p : ProfileName) (placed : Placed) (first size_bits : ℕ) (l : List ℕ)
    → filter_map tcb_base (map (λ (put : ℕ × Cap). put.1) (map (λ i. (slot_of p first i, new_cap Kinds.Untyped (object_at placed i) size_bits)) l)) ≡ []
bases_untyped p placed first size_bits [] = refl
bases_untyped p placed first size_bits (i ∷ l) = bases_untyped p placed first size_bits l

bases_endpoint : (p : ProfileName) (placed : Placed) (first size_bits : ℕ) (l : List ℕ)
    → filter_map tcb_base (map (λ (put : ℕ × Cap). put.1) (map (λ i. (slot_of p first i, new_cap Kinds.Endpoint (object_at placed i) size_bits)) l)) ≡ []
bases_endpoint p placed first size_bits [] = refl
bases_endpoint p placed first size_bits (i ∷ l) = bases_endpoint p placed first size_bits l

bases_cnode : (p : ProfileName) (placed : Placed) (first size_bits : ℕ) (l : List ℕ)
    → filter_map tcb_base (map (λ (put : ℕ × Cap). put.1) (map (λ i. (slot_of p first i, new_cap Kinds.CNode (object_at placed i) size_bits)) l)) ≡ []
bases_cnode p placed first size_bits [] = refl
bases_cnode p placed first size_bits (i ∷ l) = bases_cnode p placed first size_bits l

pub new_tcbs : (p : ProfileName) (new : NewObjects) → new.shape.kind ≡ Kinds.Tcb → new_bases tcb_base p new ≡ map (object_at new.placed) (range_with_len 0 new.count)
new_tcbs p new is =
    ap (λ kind. filter_map tcb_base (map (λ (put : ℕ × Cap). put.1) (map (λ i. (slot_of p new.first_slot i, new_cap kind (object_at new.placed i) new.shape.size_bits)) (range_with_len 0 new.count)))) is
    ∙ bases_tcb p new.placed new.first_slot new.shape.size_bits (range_with_len 0 new.count)

no_tcbs : (p : ProfileName) (new : NewObjects) (kind : Kind) → new.shape.kind ≡ kind
    → filter_map tcb_base (map (λ (put : ℕ × Cap). put.1) (map (λ i. (slot_of p new.first_slot i, new_cap kind (object_at new.placed i) new.shape.size_bits)) (range_with_len 0 new.count))) ≡ [] → new_bases tcb_base p new ≡ []
no_tcbs p new kind is none =
    ap (λ kind. filter_map tcb_base (map (λ (put : ℕ × Cap). put.1) (map (λ i. (slot_of p new.first_slot i, new_cap kind (object_at new.placed i) new.shape.size_bits)) (range_with_len 0 new.count)))) is ∙ none

-- objects that are no threads get no rows
pub no_new_rows : (p : ProfileName) (new : NewObjects) → (new.shape.kind ≡ Kinds.Untyped) ⊎ ((new.shape.kind ≡ Kinds.Endpoint) ⊎ (new.shape.kind ≡ Kinds.CNode)) → (rows : FinMap nat_cmp ThreadRow)
    → rows ≡ with_rows (new_bases tcb_base p new) rows
no_new_rows p new (inl is) rows = ap (λ (l : List ℕ). with_rows l rows) (sym (no_tcbs p new Kinds.Untyped is (bases_untyped p new.placed new.first_slot new.shape.size_bits (range_with_len 0 new.count))))
no_new_rows p new (inr (inl is)) rows = ap (λ (l : List ℕ). with_rows l rows) (sym (no_tcbs p new Kinds.Endpoint is (bases_endpoint p new.placed new.first_slot new.shape.size_bits (range_with_len 0 new.count))))
no_new_rows p new (inr (inr is)) rows = ap (λ (l : List ℕ). with_rows l rows) (sym (no_tcbs p new Kinds.CNode is (bases_cnode p new.placed new.first_slot new.shape.size_bits (range_with_len 0 new.count))))

module _ (p : ProfileName) (memory store waiters : ℕ) (f : Forest Entry) (rows : List (Option ThreadRow)) (w : Waits) (kernel : IsKernel p memory store waiters f rows w) (v : Shown) (view : kernel_shown p f rows w ≡ v) (new : NewObjects)
    (asked : IsRetype p v.derivations new) where
  is : IsRetype p f new
  is = subst (λ (u : Shown). IsRetype p u.derivations new) (sym view) asked

  -- new threads have places for their rows

  pub thread_aligned : new.shape.kind ≡ Kinds.Tcb → (i : ℕ) → i < new.count → object_at new.placed i % tcb_size p ≡ 0
  thread_aligned kind i lt =
      ap (λ n. object_at new.placed i % 2 ^ n) (sym (is.shape.bits ∙ ap (λ k. size_of p k new.shape.size_bits) kind)) ∙ (lies p f new is).aligned (untyped_lawful p f new is memory kernel.lawful).placed.aligned i

  pub thread_within : (i : ℕ) → i < new.count → object_at new.placed i < length rows * tcb_size p
  thread_within i lt = subst (λ (n : ℕ). object_at new.placed i < n) (sym kernel.rows_fill) (object_below p memory f new is kernel.memory_most kernel.lawful i lt)

  pub thread_word : (i : ℕ) → i < new.count → object_at new.placed i < 2 ^ 64
  thread_word i lt = object_word p memory f new is kernel.memory_most kernel.lawful i lt

  -- a new thread had no row
  new_rowless : (t : ℕ) → list_any (λ k. t == k) (new_bases tcb_base p new) ≡ true → get (rows_map (tcb_size p) rows) t ≡ None
  new_rowless t h = no_row (get (rows_map (tcb_size p) rows) t) (kernel.live_rows t ∙ threads_were_not p f new is memory kernel.regions kernel.disjoint kernel.slots_distinct kernel.lawful t h)

  module _ (rows' : List (Option ThreadRow)) (mapped : rows_map (tcb_size p) rows' ≡ with_rows (new_bases tcb_base p new) (rows_map (tcb_size p) rows)) where
    row_after : (t : ℕ) → get (rows_map (tcb_size p) rows') t ≡ cond (list_any (λ k. t == k) (new_bases tcb_base p new)) (Some new_row) (get (rows_map (tcb_size p) rows) t)
    row_after t = ap (λ (m : FinMap nat_cmp ThreadRow). get m t) mapped ∙ get_rows (new_bases tcb_base p new) (rows_map (tcb_size p) rows) t

    still_active : (t : ℕ) → IsActive (tcb_size p) rows t → IsActive (tcb_size p) rows' t
    still_active t h =
        subst (λ (o : Option ThreadRow). IsSomeAnd o (λ (row : ThreadRow). row.inactive ≡ false)) (sym (row_after t))
        ((elim (list_any (λ k. t == k) (new_bases tcb_base p new)) as (λ b. list_any (λ k. t == k) (new_bases tcb_base p new) ≡ b → IsSomeAnd (cond b (Some new_row) (get (rows_map (tcb_size p) rows) t)) (λ (row : ThreadRow). row.inactive ≡ false)) [
          | true ↦ λ e. absurd (subst (λ (o : Option ThreadRow). IsSomeAnd o (λ (row : ThreadRow). row.inactive ≡ false)) (new_rowless t e) h)
          | false ↦ λ e. h
        ]) refl)

    after : CanMake p memory new.untyped [] (with_objects p new f)
    after = made p f new is memory kernel.regions kernel.disjoint kernel.slots_distinct kernel.lawful

    full : is_full new.untyped f ≡ true
    full = untyped_full new.untyped f is.untyped

    pub retyped_kernel : (store' : ℕ) (f' : Forest Entry) → store' ≡ store → f' ≡ with_objects p new f → length rows' ≡ length rows → IsKernel p memory store' waiters f' rows' w
    retyped_kernel store' f' same is_f long = rw (same, is_f)
        (record {
          store_memory_is = kernel.store_memory_is;
          waiters_memory_is = kernel.waiters_memory_is;
          memory_least = kernel.memory_least;
          memory_most = kernel.memory_most;
          rows_fill = ap (λ (n : ℕ). n * tcb_size p) long ∙ kernel.rows_fill;
          slots_distinct = after.distinct;
          slots_placed = made_placed p f new is memory kernel.regions kernel.disjoint kernel.slots_distinct kernel.lawful kernel.slots_placed;
          lawful = made_lawful p f new is memory kernel.regions kernel.disjoint kernel.slots_distinct kernel.lawful;
          disjoint = after.disjoint;
          regions = after.regions;
          housed = housed-with_objects p f new is kernel.housed;
          live_rows = λ t.
              ap (λ (o : Option ThreadRow). is_some o) (row_after t)
              ∙ some_or (list_any (λ k. t == k) (new_bases tcb_base p new)) new_row (get (rows_map (tcb_size p) rows) t)
              ∙ ap (λ (b : Bool). list_any (λ k. t == k) (new_bases tcb_base p new) || b) (kernel.live_rows t)
              ∙ sym (live-objects tcb_base tcb_base-freed p new f full t);
          waiting_active = λ e i d lt. still_active (thread_of (get_or (w.queue e) i d)) (kernel.waiting_active e i d lt);
          dead_queue = λ e dead. kernel.dead_queue e (or_last (list_any (λ k. e == k) (new_bases endpoint_base p new)) (list_any (λ k. e == k) (endpoints_of f)) (sym (live-objects endpoint_base endpoint_base-freed p new f full e) ∙ dead));
          rowless_role = λ t none. kernel.rowless_role t (none_last (list_any (λ k. t == k) (new_bases tcb_base p new)) new_row (get (rows_map (tcb_size p) rows) t) (sym (row_after t) ∙ none));
        })

    threads_after : threads_shown (tcb_size p) rows' w ≡ with_threads (new_bases tcb_base p new) (threads_shown (tcb_size p) rows w)
    threads_after = same_nat_map _ _ (λ q.
        get_thread (tcb_size p) rows' w q
        ∙ ap (option_map (view_of (w.role q))) (row_after q)
        ∙ here q
        ∙ ap (cond (list_any (λ k. q == k) (new_bases tcb_base p new)) (Some new_thread)) (sym (get_thread (tcb_size p) rows w q))
        ∙ sym (get_views (new_bases tcb_base p new) (threads_shown (tcb_size p) rows w) q))
      where
        here : (q : ℕ) → option_map (view_of (w.role q)) (cond (list_any (λ k. q == k) (new_bases tcb_base p new)) (Some new_row) (get (rows_map (tcb_size p) rows) q))
            ≡ cond (list_any (λ k. q == k) (new_bases tcb_base p new)) (Some new_thread) (option_map (view_of (w.role q)) (get (rows_map (tcb_size p) rows) q))
        here q =
            (elim (list_any (λ k. q == k) (new_bases tcb_base p new)) as (λ b. list_any (λ k. q == k) (new_bases tcb_base p new) ≡ b → option_map (view_of (w.role q)) (cond b (Some new_row) (get (rows_map (tcb_size p) rows) q)) ≡ cond b (Some new_thread) (option_map (view_of (w.role q)) (get (rows_map (tcb_size p) rows) q))) [
              | true ↦ λ e. ap (λ (r : Option Role). Some (view_of r new_row)) (kernel.rowless_role q (new_rowless q e))
              | false ↦ λ e. refl
            ]) refl

    -- what is shown after
    pub retyped_shown : (f' : Forest Entry) → f' ≡ with_objects p new f → kernel_shown p f' rows' w ≡ objects_shown p v new
    retyped_shown f' is_f = subst (λ (u : Shown). kernel_shown p f' rows' w ≡ objects_shown p u new) view (rw (is_f, threads_after, lists) refl)
      where
        lists : table (endpoints_of (with_objects p new f)) w.queue ≡ table (endpoints_of (with_objects p new f)) (waiting_at (kernel_shown p f rows w))
        lists = table_agrees (endpoints_of (with_objects p new f)) (endpoints_of (with_objects p new f)) (waiting_at (kernel_shown p f rows w)) w.queue (λ q. refl) (λ q h. sym (waiting_is p memory store waiters f rows w kernel q))
