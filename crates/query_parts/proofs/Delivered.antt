-- What the replies to the calls of closed parts' threads tell of deliveries.
use Rattle.std.proofs.Common.{◌≡◌, ℕ, ◌⊎◌, inl, inr, Some, None, List, Result, Ok, sym, subst, ◌∙◌}
use Rattle.std.specs.List.{AllByRecursion as Each}
use Rattle.cap_core.specs.declared.profile.ProfileName.{ProfileName}
use Rattle.cap_core.specs.declared.capability.Badge.{Badge}
use Rattle.cap_core.specs.Rights.{write_bit, read_bit}
use Rattle.kernel_forest.proofs.Trees.Forests.{each-weaker}
use Rattle.kernel_abstract.specs.declared.call.Call.{Call}
use Rattle.kernel_abstract.specs.declared.call.Reply.{Reply}
use Rattle.kernel_abstract.specs.declared.call.Reply.TheVariants.{Done, Delivered, Waiting, Dropped, Empty, Refused}
use Rattle.kernel_abstract.specs.declared.invocation.Invocation.{Invocation}
use Rattle.kernel_abstract.specs.declared.invocation.Invocation.TheVariants.{Send, Receive, Retype, Derive, Move, Delete, Revoke, CancelBadged, SetSpace, Suspend, Resume}
use Rattle.kernel_abstract.specs.Decode.{decoded_call}
use Rattle.kernel_abstract.specs.State.{State, shown}
use Rattle.kernel_abstract.specs.Step.{step, replies_of}
use Rattle.kernel_abstract.specs.Reached.{IsReached}
use Rattle.kernel_abstract.proofs.Checks.PassedInvocations.{call_passed}
use Rattle.kernel_abstract.proofs.Reached.Invariant.{Invariant}
use Rattle.kernel_abstract.proofs.Reached.Simulation.{reached_inv}
use Rattle.query_parts.specs.Parts.{Parts}
use Rattle.query_parts.specs.Laws.{AreClosed, IsAllowed, MayUse}
use Rattle.query_parts.specs.Delivered.{TellsOnlyWithin, DeliverWithin, TellsOnlyOfThose, TellWithin}
use Rattle.query_parts.proofs.Passed.{IsServed, StaysIn, op_stays}
use Rattle.query_parts.proofs.Messages.{IsMessage, MayBeMessage, call_passes}
use Rattle.query_parts.proofs.Runs.{some_is, step_allowed}
use Rattle.query_parts.proofs.Going.{Wait, wait_before, Tells, Fits, run_told, TellsShown, those}

module _ (p : ProfileName) (parts : Parts) (A : State) where
  -- what the part of a thread, if it lies in one, may send and receive
  abbrev MaySend : ℕ → ℕ → Badge → Type 0
  MaySend endpoint thread badge = (i : ℕ) → parts.part_of thread ≡ Some i → MayUse p parts write_bit i endpoint badge

  abbrev MayReceive : ℕ → ℕ → Type 0
  MayReceive endpoint thread = (i : ℕ) → parts.part_of thread ≡ Some i → (badge : Badge) × MayUse p parts read_bit i endpoint badge

  module _ (B : State) (inv : Invariant B) (wait : Wait p A MaySend MayReceive B) where
    fits_within : (i t : ℕ) → parts.part_of t ≡ Some i → (done : Invocation) → StaysIn p parts i done → Fits p A MaySend MayReceive B inv wait t done
    fits_within i t own (Send service message block) is =
        λ k at. subst (λ n. MayUse p parts write_bit n service.endpoint service.badge) (some_is i k (sym own ∙ at)) (is.rights, (is.within, is.has))
    fits_within i t own (Receive service block) is =
        λ k at. (service.badge, subst (λ n. MayUse p parts read_bit n service.endpoint service.badge) (some_is i k (sym own ∙ at)) (is.rights, (is.within, is.has)))
    fits_within i t own (Retype new) is = tt
    fits_within i t own (Derive placement) is = tt
    fits_within i t own (Move placement) is = tt
    fits_within i t own (Delete slot) is = tt
    fits_within i t own (Revoke slot) is = tt
    fits_within i t own (CancelBadged service) is = tt
    fits_within i t own (SetSpace new) is = tt
    fits_within i t own (Suspend tcb) is = tt
    fits_within i t own (Resume tcb) is = tt

    module _ (t : ℕ) (outside : parts.part_of t ≡ None) where
      in_none : (k : ℕ) → parts.part_of t ≡ Some k → ⊥
      in_none k at = let e : None ≡ Some k = sym outside ∙ at in cc

      fits_outside : (done : Invocation) → IsMessage done → Fits p A MaySend MayReceive B inv wait t done
      fits_outside (Send service message block) is = λ k at. absurd (in_none k at)
      fits_outside (Receive service block) is = λ k at. absurd (in_none k at)
      fits_outside (Retype new) is = absurd is
      fits_outside (Derive placement) is = absurd is
      fits_outside (Move placement) is = absurd is
      fits_outside (Delete slot) is = absurd is
      fits_outside (Revoke slot) is = absurd is
      fits_outside (CancelBadged service) is = absurd is
      fits_outside (SetSpace new) is = absurd is
      fits_outside (Suspend tcb) is = absurd is
      fits_outside (Resume tcb) is = absurd is

    fits : (call : Call) (done : Invocation) → AreClosed p parts B → IsAllowed parts call → decoded_call p (shown B) call ≡ Ok done →
        Fits p A MaySend MayReceive B inv wait call.thread done
    unfolding shown
    fits call done closed (inl (i, own)) h =
        fits_within i call.thread own done (op_stays p parts i B.derivations (closed i) call.thread own call.op done (call_passed p (shown B) call done h))
    fits call done closed (inr (outside, passes)) h =
        fits_outside call.thread outside done (subst MayBeMessage h (call_passes p (shown B) call passes))

  all_told : (calls : List Call) → IsReached p A → AreClosed p parts A → Each (IsAllowed parts) calls → Each (Tells p A MaySend MayReceive) (replies_of p A calls)
  all_told calls reached closed of =
      run_told p A MaySend MayReceive (AreClosed p parts) (IsAllowed parts) (λ B call reached closed of. step_allowed p parts B call reached closed of)
      (λ B call done reached inv wait closed of h. fits B inv wait call done closed of h) A calls reached closed of (wait_before p A MaySend MayReceive)

  within : (reply : Reply) → Tells p A MaySend MayReceive reply → TellsOnlyWithin p parts A reply
  within Done told = tt
  within Waiting told = tt
  within Dropped told = tt
  within Empty told = tt
  within (Refused refusal) told = tt
  within (Delivered endpoint from to badge message) told = record {
    send = told.send;
    receive = told.receive;
    told = told.told;
    same_endpoint = told.same_endpoint;
    sent = told.sent;
    received = told.received;
  }

  of_those : (reply : Reply) → TellsShown p A MaySend MayReceive reply → TellsOnlyOfThose p parts (shown A) reply
  of_those Done told = tt
  of_those Waiting told = tt
  of_those Dropped told = tt
  of_those Empty told = tt
  of_those (Refused refusal) told = tt
  of_those (Delivered endpoint from to badge message) told = told

pub deliver_within : (p : ProfileName) (parts : Parts) (A : State) (calls : List Call) → DeliverWithin p parts A calls
deliver_within p parts A calls reached closed of =
    each-weaker (Tells p A (MaySend p parts A) (MayReceive p parts A)) (TellsOnlyWithin p parts A) (within p parts A) (replies_of p A calls)
    (all_told p parts A calls reached closed of)

pub tell_within : (p : ProfileName) (parts : Parts) (A : State) (calls : List Call) → TellWithin p parts A calls
tell_within p parts A calls reached closed of =
    each-weaker (Tells p A (MaySend p parts A) (MayReceive p parts A)) (TellsOnlyOfThose p parts (shown A))
    (λ reply told. of_those p parts A reply (those p A (MaySend p parts A) (MayReceive p parts A) (reached_inv p A reached) reply told)) (replies_of p A calls)
    (all_told p parts A calls reached closed of)
