-- The proof of `waiting_threads_are_told`: the goals that a search leaves open.
use Rattle.std.proofs.Common.{◌≡◌, ◌&&◌, Bool, true, false, eq-eqb, sym, ap}
use Rattle.ipc_core.specs.Records.{SendRecord, ReceiveRecord, Instance}
use Rattle.kernel_abstract.specs.State.{State}
use Rattle.kernel_abstract.specs.Cancelling.{is_thread_live}
use Rattle.kernel_abstract.proofs.Lists.Rising.{all_weaker}
use Rattle.kernel_abstract.proofs.Reached.Invariant.{IsOpen}
use Rattle.std.proofs.lemmas.List.Elements.{All-from_recursion}
use Rattle.kernel_abstract.proofs.Cancelling.Records.{open_sends, open_receives}
use Rattle.kernel_abstract.proofs.Cancelling.Waiting.{senders_told, receivers_told}
use Rattle.kernel_abstract.proofs.Reached.Simulation.{reached_inv}
use Rattle.kernel_abstract.proofs.laws.waiting_threads_are_told.Goals as goal

both_true : (b c : Bool) → b ≡ true → c ≡ true → (b && c) ≡ true
both_true true c e h = h
both_true false c e h = e

live : (A : State) (endpoint thread : Instance) → IsOpen A endpoint thread → is_thread_live A A.derivations thread ≡ true
live A endpoint thread o = both_true _ _ o.thread_live (eq-eqb (A.thread_birth thread.base) thread.birth (sym (ap (λ (t : Instance). t.birth) o.thread_is)))

pub returns : goal.returns
returns c = record {
  waiting =
      λ p A e reached. (
        sym (open_sends A (reached_inv p A reached).sends_rising e),
        sym
            (open_receives A (reached_inv p A reached).rising e),
      );
  senders = λ p A e reached. All-from_recursion _ _ (senders_told A (reached_inv p A reached) e);
  receivers = λ p A e reached. All-from_recursion _ _ (receivers_told A (reached_inv p A reached) e);
  live_senders = λ p A e reached. All-from_recursion _ _ (all_weaker _ _ (λ (s : SendRecord) o. live A s.endpoint s.thread o) _ ((reached_inv p A reached).sends_open e));
  live_receivers = λ p A e reached. All-from_recursion _ _ (all_weaker _ _ (λ (a : ReceiveRecord) o. live A a.endpoint a.thread o) _ ((reached_inv p A reached).receives_open e));
}
