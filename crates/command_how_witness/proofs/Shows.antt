-- The calls of a hold and of a loss show what they are for.
use Rattle.std.proofs.Common.{◌≡◌, ℕ, true, ◌==◌, List, [], ◌∷◌, ◌++◌, Some, subst}
use Rattle.std.specs.List.{list_all}
use Rattle.std.proofs.lemmas.Bool.{eqb-true}
use Rattle.cap_core.specs.declared.profile.ProfileName.{ProfileName}
use Rattle.kernel_delete.proofs.Members.{both_true}
use Rattle.kernel_abstract.specs.declared.call.Call.{Call}
use Rattle.kernel_abstract.specs.Shown.{Shown}
use Rattle.kernel_abstract.specs.State.{State, shown}
use Rattle.kernel_abstract.specs.Step.{step, state_after}
use Rattle.kernel_abstract.specs.Reached.{IsReached}
use Rattle.kernel_abstract.proofs.Reached.Runs.{reached_after}
use Rattle.command_how_witness.specs.Witness.{Asking, is_caller, StayLive, held_word, Holds, Takes, ShowsHold, ShowsLoss}
use Rattle.command_how_witness.specs.Private.{is_hold_called, is_loss_called}

module _ (p : ProfileName) (q : Asking) (A : State) (calls front : List Call) (call again : Call) where
  pub hold_shown : (word : ℕ) (v : Shown) → calls ≡ front ++ call ∷ again ∷ [] → is_hold_called q front call again ≡ true → StayLive p q A front →
      held_word call.op ≡ Some word → v ≡ shown (state_after p A front) → Holds p q v.derivations word → ShowsHold p q A calls
  unfolding shown
  hold_shown word v is called live word_is shows holds =
      let first = both_true (list_all (is_caller q) front) _ called in
      let second = both_true (is_caller q call) _ first.1 in
      let third = both_true (call.thread == q.from) (again.thread == q.to) second.1 in
      record {
        front = front;
        call = call;
        again = again;
        is = is;
        callers = first.0;
        caller = second.0;
        thread = eqb-true call.thread q.from third.0;
        other = eqb-true again.thread q.to third.1;
        live = live;
        word = word;
        word_is = word_is;
        holds = subst (λ (s : Shown). Holds p q s.derivations word) shows holds;
      }

  pub loss_shown : (shows : Call) (most : List Call) (v : Shown) → calls ≡ most ++ call ∷ again ∷ [] → most ≡ front ++ shows ∷ [] →
      is_loss_called q front shows call again ≡ true → StayLive p q A most → IsReached p A → v ≡ shown (state_after p A most) →
      ((B : State) → IsReached p B → v ≡ shown B → Takes p q B.derivations (step p B call).state.derivations) → ShowsLoss p q A calls
  loss_shown shows most v is most_is called live reached seen takes =
      let zeroth = both_true (shows.thread == q.to) (is_hold_called q front call again) called in
      let first = both_true (list_all (is_caller q) front) _ zeroth.1 in
      let second = both_true (is_caller q call) _ first.1 in
      let third = both_true (call.thread == q.from) (again.thread == q.to) second.1 in
      record {
        front = front;
        shows = shows;
        call = call;
        again = again;
        is = subst (λ (l : List Call). calls ≡ l ++ call ∷ again ∷ []) most_is is;
        callers = first.0;
        shower = eqb-true shows.thread q.to zeroth.0;
        caller = second.0;
        thread = eqb-true call.thread q.from third.0;
        other = eqb-true again.thread q.to third.1;
        live = subst (λ (l : List Call). StayLive p q A l) most_is live;
        takes =
            subst (λ (l : List Call). Takes p q (state_after p A l).derivations (step p (state_after p A l) call).state.derivations) most_is
            (takes (state_after p A most) (reached_after p A most reached) seen);
      }

-- a step of a kernel that shows a state takes what the state's step takes
pub step_takes : (p : ProfileName) (q : Asking) (A : State) (call : Call) (v w : Shown) → v ≡ shown A → w ≡ shown (step p A call).state →
    Takes p q v.derivations w.derivations → Takes p q A.derivations (step p A call).state.derivations
unfolding shown
step_takes p q A call v w before after takes =
    subst (λ (s : Shown). Takes p q A.derivations s.derivations) after (subst (λ (s : Shown). Takes p q s.derivations w.derivations) before takes)
