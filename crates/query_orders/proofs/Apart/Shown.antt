-- Who waits on an endpoint is shown to wait there.
use Rattle.std.proofs.Common.{◌≡◌, ◌==◌, ℕ, Bool, true, false, cond, List, [], map, Option, None, Some, option_map, unwrap_or, refl, ap, sym, subst, ◌∙◌}
use Rattle.std.specs.List.{list_any, AllByRecursion as Each}
use Rattle.cap_core.specs.declared.profile.ProfileName.{ProfileName}
use Rattle.ipc_core.specs.Records.{SendRecord, ReceiveRecord, Instance, sender, receiver}
use Rattle.ipc_core.specs.declared.waiter.Waiter.{Waiter}
use Rattle.ipc_core.specs.Waits.{thread_of}
use Rattle.kernel_abstract.specs.declared.call.ThreadState.{ThreadState}
use Rattle.kernel_abstract.specs.declared.call.ThreadState.TheVariants.{Sending, Receiving}
use Rattle.kernel_abstract.specs.Shown.{ThreadView, state_at, waiting_at, endpoints_of, threads_of}
use Rattle.kernel_abstract.specs.State.{State, shown, endpoint_at, thread_at, thread_view, waiters, state_of, waiting_sends, waiting_receives}
use Rattle.kernel_abstract.specs.Waiting.{state_in}
use Rattle.kernel_abstract.specs.Reached.{IsReached}
use Rattle.kernel_abstract.proofs.Cancelling.Waiting.{senders_told, receivers_told}
use Rattle.kernel_abstract.proofs.Lists.Tables.{get_table}
use Rattle.kernel_abstract.proofs.Reached.Invariant.{Invariant, SendIsOpen, ReceiveIsOpen, list_shown}
use Rattle.kernel_abstract.proofs.Reached.Simulation.{reached_inv}
use Rattle.query_orders.proofs.Contained.{each_append}
use Rattle.query_orders.proofs.Apart.Lists.{each_weaker, each_both, each_map}

module _ (A : State) (inv : Invariant A) (e : ℕ) where
  abbrev IsShownToWait : Waiter → Type 0
  IsShownToWait w = state_at (shown A) (thread_of w) ≡ Some (state_in e w)

  abbrev here : Instance
  here = endpoint_at A e

  live_shown : (thread : Instance) (state : ThreadState) → thread ≡ thread_at A thread.base → list_any (λ k. thread.base == k) (threads_of A.derivations) ≡ true → state_of A thread ≡ state →
      state_at (shown A) thread.base ≡ Some state
  unfolding shown
  live_shown thread state same live is =
      ap (λ (t : Option ThreadView). option_map (λ (row : ThreadView). row.state) t)
      (get_table (threads_of A.derivations) (thread_view A) thread.base ∙ ap (λ b. cond b (Some (thread_view A thread.base)) None) live)
      ∙ ap (λ (t : Instance). Some (state_of A t)) (sym same) ∙ ap (λ (s : ThreadState). Some s) is

  pub none_waiting : list_any (λ k. e == k) (endpoints_of A.derivations) ≡ false → waiting_at (shown A) e ≡ []
  unfolding shown
  none_waiting dead =
      ap (λ (o : Option (List Waiter)). unwrap_or o []) (get_table (endpoints_of A.derivations) (λ base. waiters A (endpoint_at A base)) e
      ∙ ap (λ b. cond b (Some (waiters A here)) None) dead)

  senders_shown : Each (λ (s : SendRecord). IsShownToWait (sender s)) (waiting_sends A here)
  senders_shown =
      each_weaker (λ (s : SendRecord). SendIsOpen A s × (state_of A s.thread ≡ Sending e)) (λ (s : SendRecord). IsShownToWait (sender s))
      (λ s w. live_shown s.thread (Sending e) w.0.thread_is w.0.thread_live w.1) (waiting_sends A here)
      (each_both (SendIsOpen A) (λ (s : SendRecord). state_of A s.thread ≡ Sending e) (waiting_sends A here) (inv.sends_open here) (senders_told A inv here))

  receivers_shown : Each (λ (a : ReceiveRecord). IsShownToWait (receiver a)) (waiting_receives A here)
  receivers_shown =
      each_weaker (λ (a : ReceiveRecord). ReceiveIsOpen A a × (state_of A a.thread ≡ Receiving e)) (λ (a : ReceiveRecord). IsShownToWait (receiver a))
      (λ a w. live_shown a.thread (Receiving e) w.0.thread_is w.0.thread_live w.1) (waiting_receives A here)
      (each_both (ReceiveIsOpen A) (λ (a : ReceiveRecord). state_of A a.thread ≡ Receiving e) (waiting_receives A here) (inv.receives_open here) (receivers_told A inv here))

  pub waiters_shown : Each IsShownToWait (waiting_at (shown A) e)
  waiters_shown = by (list_any (λ k. e == k) (endpoints_of A.derivations)) refl
    where
      by : (b : Bool) → list_any (λ k. e == k) (endpoints_of A.derivations) ≡ b → Each IsShownToWait (waiting_at (shown A) e)
      by true live =
          subst (Each IsShownToWait) (sym (list_shown A e live))
          (each_append IsShownToWait (map sender (waiting_sends A here)) (map receiver (waiting_receives A here))
          (each_map IsShownToWait sender (waiting_sends A here) senders_shown) (each_map IsShownToWait receiver (waiting_receives A here) receivers_shown))
      by false dead = subst (Each IsShownToWait) (sym (none_waiting dead)) tt

pub shown_to_wait : (p : ProfileName) (A : State) → IsReached p A → (e : ℕ) → Each (λ (w : Waiter). state_at (shown A) (thread_of w) ≡ Some (state_in e w)) (waiting_at (shown A) e)
shown_to_wait p A r e = waiters_shown A (reached_inv p A r) e
