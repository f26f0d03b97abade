-- Where the same objects are live, the ending of objects is a mere change of the capabilities.
use Rattle.std.proofs.Common.{◌≡◌, ℕ, Bool, true, not, cond, ◌==◌, ◌&&◌, ◌++◌, map, find, sym, ap, ◌∙◌, eq-eqb}
use Rattle.std.specs.List.{list_any}
use Rattle.kernel_forest.specs.Forest.{Forest}
use Rattle.kernel_forest.specs.Entries.{Entry}
use Rattle.ipc_core.specs.Records.{Instance, same_instance, SendRecord, ReceiveRecord, sender, receiver}
use Rattle.kernel_abstract.specs.declared.call.ThreadState.TheVariants.{Ready, Inactive}
use Rattle.kernel_abstract.specs.Shown.{threads_of, endpoints_of, table}
use Rattle.kernel_abstract.specs.State.{State, endpoint_at, thread_at, waiting_sends, waiting_receives, first_of, shown}
use Rattle.kernel_abstract.specs.Cancelling.{is_ended, is_send_ended, is_receive_ended, ending}
use Rattle.kernel_abstract.specs.Private.Effects.{rearranged}
use Rattle.kernel_abstract.specs.Private.Endings.{after_ending}
use Rattle.kernel_abstract.proofs.Lists.Rising.{all_weaker, filter_all}
use Rattle.kernel_abstract.proofs.Reached.Invariant.{Invariant, IsOpen, SendIsOpen, ReceiveIsOpen}
use Rattle.kernel_abstract.proofs.Capabilities.Rearranged.{rearranged_steps}
use Rattle.kernel_abstract.proofs.Cancelling.Records.{inbox_same}
use Rattle.kernel_abstract.proofs.Cancelling.InvariantKept.{sends_waiting, receives_waiting}
use Rattle.kernel_abstract.proofs.Cancelling.Ended.{ending_shown}

module _ (A : State) (g : Forest Entry) (inv : Invariant A)
    (threads : (q : ℕ) → list_any (λ k. q == k) (threads_of g) ≡ list_any (λ k. q == k) (threads_of A.derivations))
    (endpoints : (q : ℕ) → list_any (λ k. q == k) (endpoints_of g) ≡ list_any (λ k. q == k) (endpoints_of A.derivations)) where
  stays : (e m : Instance) → IsOpen A e m → not (is_ended A g e m) ≡ true
  stays e m o =
      ap (λ (b : Bool). not (not ((b && (A.endpoint_birth e.base == e.birth)) && (list_any (λ k. m.base == k) (threads_of g) && (A.thread_birth m.base == m.birth))))) (endpoints e.base ∙ o.endpoint_live)
      ∙ ap (λ (b : Bool). not (not (b && (list_any (λ k. m.base == k) (threads_of g) && (A.thread_birth m.base == m.birth))))) (eq-eqb (A.endpoint_birth e.base) e.birth (sym (ap (λ (x : Instance). x.birth) o.endpoint_is)))
      ∙ ap (λ (b : Bool). not (not (b && (A.thread_birth m.base == m.birth)))) (threads m.base ∙ o.thread_live)
      ∙ ap (λ (b : Bool). not (not b)) (eq-eqb (A.thread_birth m.base) m.birth (sym (ap (λ (x : Instance). x.birth) o.thread_is)))

  sends_stay : (e : Instance) → waiting_sends (ending A g) e ≡ waiting_sends A e
  sends_stay e =
      sends_waiting A (is_send_ended A g) (is_receive_ended A g) inv e
      ∙ filter_all (λ (s : SendRecord). not (is_send_ended A g s)) (waiting_sends A e)
      (all_weaker (SendIsOpen A) (λ (s : SendRecord). not (is_send_ended A g s) ≡ true) (λ s o. stays s.endpoint s.thread o) (waiting_sends A e) (inv.sends_open e))

  receives_stay : (e : Instance) → waiting_receives (ending A g) e ≡ waiting_receives A e
  receives_stay e =
      receives_waiting A (is_send_ended A g) (is_receive_ended A g) inv e
      ∙ filter_all (λ (a : ReceiveRecord). not (is_receive_ended A g a)) (waiting_receives A e)
      (all_weaker (ReceiveIsOpen A) (λ (a : ReceiveRecord). not (is_receive_ended A g a) ≡ true) (λ a o. stays a.endpoint a.thread o) (waiting_receives A e) (inv.receives_open e))

  nothing_ends : shown (ending A g) ≡ shown (record A { derivations = g })
  unfolding shown
  nothing_ends = λ i. record {
    derivations = g;
    threads = table (threads_of g) (λ t. record {
      state = first_of
          (find (λ q. list_any (λ (s : SendRecord). same_instance s.thread (thread_at A t)) (sends_stay (endpoint_at A q) i)) (endpoints_of g))
          (find (λ q. list_any (λ (a : ReceiveRecord). same_instance a.thread (thread_at A t)) (receives_stay (endpoint_at A q) i)) (endpoints_of g))
          (cond (A.is_inactive (thread_at A t)) Inactive Ready);
      inbox = inbox_same A (is_send_ended A g) (is_receive_ended A g) inv.sends_rising inv.rising inv.unshared (thread_at A t) i;
    });
    endpoints = table (endpoints_of g) (λ b. map sender (sends_stay (endpoint_at A b) i) ++ map receiver (receives_stay (endpoint_at A b) i));
  }

  pub after_ending_rearranged : after_ending (shown A) g ≡ rearranged (shown A) g
  unfolding shown
  after_ending_rearranged =
      sym (ending_shown A g inv (λ q live. sym (endpoints q) ∙ live) (λ q live. sym (threads q) ∙ live))
      ∙ nothing_ends
      ∙ sym (rearranged_steps A g inv threads endpoints).1
