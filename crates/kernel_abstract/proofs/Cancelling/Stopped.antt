-- What is shown after a thread was stopped: suspended, or resumed.
use Rattle.std.proofs.Common.{◌≡◌, ◌≢◌, ℕ, Bool, true, false, not, cond, ◌==◌, ◌++◌, map, find, refl, sym, ap, ◌∙◌, inl, inr}
use Rattle.std.specs.List.{list_any}
use Rattle.std.specs.FinMap.{insert}
use Rattle.std.proofs.lemmas.Bool.Decides.{eqb_tells}
use Rattle.ipc_core.specs.Records.{Instance, same_instance, SendRecord, ReceiveRecord, sender, receiver}
use Rattle.ipc_core.specs.declared.waiter.Waiter.{Waiter}
use Rattle.ipc_core.specs.Cancelled.{is_thread, others}
use Rattle.kernel_abstract.specs.declared.call.ThreadState.TheVariants.{Ready, Inactive}
use Rattle.kernel_abstract.specs.Shown.{threads_of, endpoints_of, table, waiting_at, inbox_at}
use Rattle.kernel_abstract.specs.State.{State, endpoint_at, thread_at, waiting_sends, waiting_receives, waiters, is_sending, is_receiving, state_of, first_of, inbox_of, thread_view, shown}
use Rattle.kernel_abstract.specs.Cancelling.{is_sent_by, is_received_by, stopping}
use Rattle.kernel_abstract.specs.Private.Endings.{after_stop}
use Rattle.kernel_abstract.proofs.Lists.Tables.{table_changed}
use Rattle.kernel_abstract.proofs.Lists.Numbered.{find_nothing}
use Rattle.kernel_abstract.proofs.Lists.Searches.{table_agrees}
use Rattle.kernel_abstract.proofs.Messages.WaitingSend.{in_table, not_same, same_itself}
use Rattle.kernel_abstract.proofs.Reached.Invariant.{list_shown, inbox_shown}
use Rattle.kernel_abstract.proofs.Lists.Rising.{all_weaker, all_of, any_left}
use Rattle.kernel_abstract.proofs.Cancelling.Records.{inbox_same}
use Rattle.kernel_abstract.proofs.Reached.Invariant.{Invariant, SendIsOpen, ReceiveIsOpen}
use Rattle.kernel_abstract.proofs.Cancelling.InvariantKept.{sends_waiting, receives_waiting}
use Rattle.kernel_abstract.proofs.Cancelling.Waiting.{same_is}
use Rattle.kernel_abstract.proofs.Cancelling.Ended.{list_less}

-- threads that were last made at their addresses are the same where their addresses are
pub same_thread_at : (A : State) (x q : ℕ) → same_instance (thread_at A x) (thread_at A q) ≡ (x == q)
same_thread_at A x q = elim (eqb_tells x q) [
  | inl w ↦ ap (λ (n : ℕ). same_instance (thread_at A x) (thread_at A n)) (sym w.1) ∙ same_itself (thread_at A x) ∙ sym w.0
  | inr w ↦ not_same (thread_at A x) (thread_at A q) w.1 ∙ sym w.0
]

module _ (A : State) (t : ℕ) (inactive : Bool) (inv : Invariant A) (live : list_any (λ k. t == k) (threads_of A.derivations) ≡ true) where
  abbrev left : State
  left = stopping A (thread_at A t) inactive

  -- whether a thread is the one
  module _ (m : Instance) (c : Bool) (is : same_instance m (thread_at A t) ≡ c) where
    sending_left : (b : ℕ) → is_sending left m b ≡ cond c false (is_sending A m b)
    sending_left b =
        ap (list_any (λ (s : SendRecord). same_instance s.thread m)) (sends_waiting A (is_sent_by (thread_at A t)) (is_received_by (thread_at A t)) inv (endpoint_at A b))
        ∙ any_left (λ (s : SendRecord). same_instance s.thread m) (is_sent_by (thread_at A t)) c (waiting_sends A (endpoint_at A b))
        (all_of (λ (s : SendRecord). same_instance s.thread m ≡ true → is_sent_by (thread_at A t) s ≡ c) (λ s there. ap (λ (x : Instance). same_instance x (thread_at A t)) (same_is s.thread m there) ∙ is) (waiting_sends A (endpoint_at A b)))

    receiving_left : (b : ℕ) → is_receiving left m b ≡ cond c false (is_receiving A m b)
    receiving_left b =
        ap (list_any (λ (a : ReceiveRecord). same_instance a.thread m)) (receives_waiting A (is_sent_by (thread_at A t)) (is_received_by (thread_at A t)) inv (endpoint_at A b))
        ∙ any_left (λ (a : ReceiveRecord). same_instance a.thread m) (is_received_by (thread_at A t)) c (waiting_receives A (endpoint_at A b))
        (all_of (λ (a : ReceiveRecord). same_instance a.thread m ≡ true → is_received_by (thread_at A t) a ≡ c) (λ a there. ap (λ (x : Instance). same_instance x (thread_at A t)) (same_is a.thread m there) ∙ is) (waiting_receives A (endpoint_at A b)))

  inbox_left : (m : Instance) → inbox_of left m ≡ inbox_of A m
  inbox_left m = inbox_same A (is_sent_by (thread_at A t)) (is_received_by (thread_at A t)) inv.sends_rising inv.rising inv.unshared m

  -- the thread itself
  state_here : state_of left (thread_at A t) ≡ cond inactive Inactive Ready
  state_here =
      let m = thread_at A t in
      let itself = same_itself m in
      let sends = find_nothing (is_sending left m) (endpoints_of A.derivations) (λ k there. sending_left m true itself k) in
      let receives = find_nothing (is_receiving left m) (endpoints_of A.derivations) (λ k there. receiving_left m true itself k) in
      λ i. first_of (sends i) (receives i) (cond (cond (itself i) inactive (A.is_inactive m)) Inactive Ready)

  -- every other
  view_else : (q : ℕ) → q ≢ t → thread_view left q ≡ thread_view A q
  view_else q ne =
      let m = thread_at A q in
      let other = not_same m (thread_at A t) ne in
      λ i. record {
        state = first_of (find (λ b. sending_left m false other b i) (endpoints_of A.derivations)) (find (λ b. receiving_left m false other b i) (endpoints_of A.derivations)) (cond (cond (other i) inactive (A.is_inactive m)) Inactive Ready);
        inbox = inbox_left m i;
      }

  list_left : (b : ℕ) → list_any (λ k. b == k) (endpoints_of A.derivations) ≡ true → waiters left (endpoint_at A b) ≡ others (is_thread t) (waiting_at (shown A) b)
  list_left b there =
      let e = endpoint_at A b in
      let sends = sends_waiting A (is_sent_by (thread_at A t)) (is_received_by (thread_at A t)) inv e in
      let receives = receives_waiting A (is_sent_by (thread_at A t)) (is_received_by (thread_at A t)) inv e in
      (λ i. map sender (sends i) ++ map receiver (receives i))
      ∙ list_less (waiting_sends A e) (waiting_receives A e) (is_sent_by (thread_at A t)) (is_received_by (thread_at A t)) (λ (w : Waiter). not (is_thread t w))
      (all_weaker (SendIsOpen A) (λ (s : SendRecord). not (is_sent_by (thread_at A t) s) ≡ not (s.thread.base == t)) (λ s o. ap not (by_address s.thread o.thread_is)) (waiting_sends A e) (inv.sends_open e))
      (all_weaker (ReceiveIsOpen A) (λ (a : ReceiveRecord). not (is_received_by (thread_at A t) a) ≡ not (a.thread.base == t)) (λ a o. ap not (by_address a.thread o.thread_is)) (waiting_receives A e) (inv.receives_open e))
      ∙ ap (others (is_thread t)) (sym (list_shown A b there))
    where
      by_address : (m : Instance) → m ≡ thread_at A m.base → same_instance m (thread_at A t) ≡ (m.base == t)
      by_address m is = ap (λ (x : Instance). same_instance x (thread_at A t)) is ∙ same_thread_at A m.base t

  pub stopping_shown : shown (stopping A (thread_at A t) inactive) ≡ after_stop (shown A) t (cond inactive Inactive Ready)
  unfolding shown
  stopping_shown =
      let inbox : inbox_of left (thread_at A t) ≡ inbox_at (shown A) t = inbox_left (thread_at A t) ∙ sym (inbox_shown A t live) in
      let rows = table_changed (threads_of A.derivations) (thread_view A) (thread_view left) t (in_table _ _ _ live) view_else
      ∙ (λ i. insert (table (threads_of A.derivations) (thread_view A)) t (record { state = state_here i; inbox = inbox i })) in
      let lists = table_agrees (endpoints_of A.derivations) (endpoints_of A.derivations) (λ b. others (is_thread t) (waiting_at (shown A) b)) (λ b. waiters left (endpoint_at A b)) (λ q. refl) list_left in
      λ i. record { derivations = A.derivations; threads = rows i; endpoints = lists i }
