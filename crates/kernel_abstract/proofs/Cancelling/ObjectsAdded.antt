-- Where objects are made, the ending of objects shows the new ones, and all others as they were.
use Rattle.std.proofs.Common.{◌≡◌, ℕ, Bool, true, false, cond, ◌==◌, ◌||◌, List, [], ◌++◌, map, find, Option, None, Some, refl, sym, ap, ◌∙◌, unwrap_or}
use Rattle.std.specs.List.{list_any}
use Rattle.std.specs.FinMap.{get}
use Rattle.cap_core.specs.declared.profile.ProfileName.{ProfileName}
use Rattle.kernel_forest.specs.Forest.{Forest}
use Rattle.kernel_forest.specs.Entries.{Entry, is_full}
use Rattle.ipc_core.specs.Records.{SendRecord, ReceiveRecord, sender, receiver}
use Rattle.ipc_core.specs.declared.waiter.Waiter.{Waiter}
use Rattle.ipc_core.specs.Waits.{thread_of}
use Rattle.kernel_abstract.specs.declared.call.ThreadState.TheVariants.{Ready, Inactive, Sending, Receiving}
use Rattle.kernel_abstract.specs.declared.invocation.NewObjects.{NewObjects}
use Rattle.kernel_abstract.specs.Shown.{ThreadView, threads_of, endpoints_of, endpoint_base, tcb_base, table, waiting_at}
use Rattle.kernel_abstract.specs.State.{State, endpoint_at, thread_at, waiting_sends, waiting_receives, waiters, is_sending, is_receiving, first_of, thread_view, shown}
use Rattle.kernel_abstract.specs.Retyping.{with_objects, new_bases}
use Rattle.kernel_abstract.specs.Private.Effects.{objects_shown, new_thread, with_threads}
use Rattle.kernel_abstract.specs.Private.Endings.{after_ending, state_among, view_among, waiting_among}
use Rattle.kernel_abstract.proofs.Lists.Rising.{all_weaker, all_of, filter_all, or_true}
use Rattle.kernel_abstract.proofs.Lists.Tables.{get_table, same_nat_map}
use Rattle.kernel_abstract.proofs.Lists.Searches.{find_found, table_agrees}
use Rattle.kernel_abstract.proofs.Reached.Invariant.{Invariant, SendIsOpen, ReceiveIsOpen, list_shown}
use Rattle.kernel_abstract.proofs.Retype.LiveRetyped.{live-objects, endpoint_base-freed, tcb_base-freed}
use Rattle.kernel_abstract.proofs.Retype.ObjectsMade.{get_threads}
use Rattle.kernel_abstract.proofs.Cancelling.Ended.{list_less, row_shown}

-- what was found is still there
state_stays : (keys : List ℕ) (s r : Option ℕ) (inactive : Bool) → ((e : ℕ) → s ≡ Some e → list_any (λ k. e == k) keys ≡ true) → ((e : ℕ) → r ≡ Some e → list_any (λ k. e == k) keys ≡ true) →
    state_among keys (first_of s r (cond inactive Inactive Ready)) ≡ first_of s r (cond inactive Inactive Ready)
state_stays keys None None true sends receives = refl
state_stays keys None None false sends receives = refl
state_stays keys None (Some e) inactive sends receives = ap (λ (b : Bool). cond b (Receiving e) Ready) (receives e refl)
state_stays keys (Some e) r inactive sends receives = ap (λ (b : Bool). cond b (Sending e) Ready) (sends e refl)

module _ (p : ProfileName) (A : State) (new : NewObjects) (inv : Invariant A) (full : is_full new.untyped A.derivations ≡ true)
    (endpoints_new : (b : ℕ) → list_any (λ k. b == k) (new_bases endpoint_base p new) ≡ true → list_any (λ k. b == k) (endpoints_of A.derivations) ≡ false)
    (threads_new : (b : ℕ) → list_any (λ k. b == k) (new_bases tcb_base p new) ≡ true → list_any (λ k. b == k) (threads_of A.derivations) ≡ false) where
  abbrev g : Forest Entry
  g = with_objects p new A.derivations

  endpoints_live : (q : ℕ) → list_any (λ k. q == k) (endpoints_of g) ≡ (list_any (λ k. q == k) (new_bases endpoint_base p new) || list_any (λ k. q == k) (endpoints_of A.derivations))
  endpoints_live q = live-objects endpoint_base endpoint_base-freed p new A.derivations full q

  threads_live : (q : ℕ) → list_any (λ k. q == k) (threads_of g) ≡ (list_any (λ k. q == k) (new_bases tcb_base p new) || list_any (λ k. q == k) (threads_of A.derivations))
  threads_live q = live-objects tcb_base tcb_base-freed p new A.derivations full q

  endpoint_stays : (q : ℕ) → list_any (λ k. q == k) (endpoints_of A.derivations) ≡ true → list_any (λ k. q == k) (endpoints_of g) ≡ true
  endpoint_stays q live = endpoints_live q ∙ ap (λ (b : Bool). list_any (λ k. q == k) (new_bases endpoint_base p new) || b) live ∙ or_true (list_any (λ k. q == k) (new_bases endpoint_base p new))

  thread_stays : (q : ℕ) → list_any (λ k. q == k) (threads_of A.derivations) ≡ true → list_any (λ k. q == k) (threads_of g) ≡ true
  thread_stays q live = threads_live q ∙ ap (λ (b : Bool). list_any (λ k. q == k) (new_bases tcb_base p new) || b) live ∙ or_true (list_any (λ k. q == k) (new_bases tcb_base p new))

  -- the threads
  view_stays : (q : ℕ) → list_any (λ k. q == k) (threads_of A.derivations) ≡ true → view_among (endpoints_of g) (get (shown A).threads q) ≡ thread_view A q
  view_stays q live =
      let m = thread_at A q in
      let f = endpoints_of A.derivations in
      let state = state_stays (endpoints_of g) (find (is_sending A m) f) (find (is_receiving A m) f) (A.is_inactive m)
      (λ e found. endpoint_stays e (find_found (is_sending A m) f e found).0) (λ e found. endpoint_stays e (find_found (is_receiving A m) f e found).0) in
      ap (view_among (endpoints_of g)) (row_shown A q live) ∙ (λ i. record { state = state i; inbox = (thread_view A q).inbox })

  view_new : (q : ℕ) → list_any (λ k. q == k) (threads_of A.derivations) ≡ false → view_among (endpoints_of g) (get (shown A).threads q) ≡ new_thread
  unfolding shown
  view_new q none = ap (view_among (endpoints_of g)) (get_table (threads_of A.derivations) (thread_view A) q ∙ ap (λ (b : Bool). cond b (Some (thread_view A q)) None) none)

  by_row : (q : ℕ) (made live : Bool) → list_any (λ k. q == k) (new_bases tcb_base p new) ≡ made → list_any (λ k. q == k) (threads_of A.derivations) ≡ live →
      cond (made || live) (Some (view_among (endpoints_of g) (get (shown A).threads q))) None ≡ cond made (Some new_thread) (cond live (Some (thread_view A q)) None)
  by_row q true live is lives = ap Some (view_new q (threads_new q is))
  by_row q false true is lives = ap Some (view_stays q lives)
  by_row q false false is lives = refl

  rows : table (threads_of g) (λ t. view_among (endpoints_of g) (get (shown A).threads t)) ≡ with_threads (new_bases tcb_base p new) (shown A).threads
  unfolding shown
  rows = same_nat_map _ _ (λ q.
      get_table (threads_of g) (λ t. view_among (endpoints_of g) (get (shown A).threads t)) q
      ∙ ap (λ (b : Bool). cond b (Some (view_among (endpoints_of g) (get (shown A).threads q))) None) (threads_live q)
      ∙ by_row q (list_any (λ k. q == k) (new_bases tcb_base p new)) (list_any (λ k. q == k) (threads_of A.derivations)) refl refl
      ∙ ap (λ (o : Option ThreadView). cond (list_any (λ k. q == k) (new_bases tcb_base p new)) (Some new_thread) o) (sym (get_table (threads_of A.derivations) (thread_view A) q))
      ∙ sym (get_threads (new_bases tcb_base p new) (shown A).threads q))

  -- the waiting lists
  list_stays : (e : ℕ) → list_any (λ k. e == k) (endpoints_of A.derivations) ≡ true → waiting_among (threads_of g) (waiting_at (shown A) e) ≡ waiting_at (shown A) e
  list_stays e live =
      let m = endpoint_at A e in
      ap (waiting_among (threads_of g)) (list_shown A e live)
      ∙ sym (list_less (waiting_sends A m) (waiting_receives A m) (λ _. false) (λ _. false) (λ (w : Waiter). list_any (λ k. thread_of w == k) (threads_of g))
      (all_weaker (SendIsOpen A) (λ (s : SendRecord). true ≡ list_any (λ k. s.thread.base == k) (threads_of g)) (λ s o. sym (thread_stays s.thread.base o.thread_live)) (waiting_sends A m) (inv.sends_open m))
      (all_weaker (ReceiveIsOpen A) (λ (a : ReceiveRecord). true ≡ list_any (λ k. a.thread.base == k) (threads_of g)) (λ a o. sym (thread_stays a.thread.base o.thread_live)) (waiting_receives A m) (inv.receives_open m)))
      ∙ (λ i. map sender (filter_all (λ (s : SendRecord). true) (waiting_sends A m) (all_of (λ (s : SendRecord). true ≡ true) (λ s. refl) (waiting_sends A m)) i)
      ++ map receiver (filter_all (λ (a : ReceiveRecord). true) (waiting_receives A m) (all_of (λ (a : ReceiveRecord). true ≡ true) (λ a. refl) (waiting_receives A m)) i))
      ∙ sym (list_shown A e live)

  list_new : (e : ℕ) → list_any (λ k. e == k) (endpoints_of A.derivations) ≡ false → waiting_among (threads_of g) (waiting_at (shown A) e) ≡ waiting_at (shown A) e
  unfolding shown
  list_new e none =
      let empty : waiting_at (shown A) e ≡ [] = ap (λ (o : Option (List Waiter)). unwrap_or o []) (get_table (endpoints_of A.derivations) (λ b. waiters A (endpoint_at A b)) e ∙ ap (λ (b : Bool). cond b (Some (waiters A (endpoint_at A e))) None) none) in
      ap (waiting_among (threads_of g)) empty ∙ sym empty

  by_list : (e : ℕ) (live : Bool) → list_any (λ k. e == k) (endpoints_of A.derivations) ≡ live → waiting_among (threads_of g) (waiting_at (shown A) e) ≡ waiting_at (shown A) e
  by_list e true is = list_stays e is
  by_list e false is = list_new e is

  pub after_ending_made : after_ending (shown A) (with_objects p new A.derivations) ≡ objects_shown p (shown A) new
  unfolding shown
  after_ending_made =
      let lists = table_agrees (endpoints_of g) (endpoints_of g) (waiting_at (shown A)) (λ e. waiting_among (threads_of g) (waiting_at (shown A) e)) (λ q. refl) (λ q live. by_list q (list_any (λ k. q == k) (endpoints_of A.derivations)) refl) in
      λ i. record { derivations = g; threads = rows i; endpoints = lists i }
