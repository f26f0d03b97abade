-- What the replies to the calls of a flow's threads tell of deliveries.
use Rattle.std.proofs.Common.{◌≡◌, ℕ, ◌⊎◌, inl, inr, Bool, true, false, List, Ok, refl, sym, subst, ◌∙◌}
use Rattle.std.specs.List.{AllByRecursion as Each}
use Rattle.std.proofs.lemmas.Bool.{false≢true}
use Rattle.cap_core.specs.declared.profile.ProfileName.{ProfileName}
use Rattle.cap_core.specs.declared.capability.Badge.{Badge}
use Rattle.cap_core.specs.Rights.{write_bit, read_bit}
use Rattle.kernel_forest.proofs.Trees.Forests.{each-weaker}
use Rattle.kernel_abstract.specs.declared.call.Call.{Call}
use Rattle.kernel_abstract.specs.declared.call.Reply.{Reply}
use Rattle.kernel_abstract.specs.declared.call.Reply.TheVariants.{Done, Delivered, Waiting, Dropped, Empty, Refused}
use Rattle.kernel_abstract.specs.declared.invocation.Invocation.{Invocation}
use Rattle.kernel_abstract.specs.declared.invocation.Invocation.TheVariants.{Send, Receive, Retype, Derive, Move, Delete, Revoke, CancelBadged, SetSpace, Suspend, Resume}
use Rattle.kernel_abstract.specs.Decode.{decoded_call}
use Rattle.kernel_abstract.specs.State.{State, shown}
use Rattle.kernel_abstract.specs.Step.{replies_of}
use Rattle.kernel_abstract.specs.Reached.{IsReached}
use Rattle.kernel_abstract.proofs.Reached.Invariant.{Invariant}
use Rattle.kernel_abstract.proofs.Reached.Simulation.{reached_inv}
use Rattle.query_parts.proofs.Messages.{IsMessage, MayBeMessage, call_passes}
use Rattle.query_parts.proofs.Going.{Wait, wait_before, Tells, Fits, run_told, TellsShown, those}
use Rattle.query_flow.specs.Flow.{Flow, HoldsWhatMayStand, IsSettled}
use Rattle.query_flow.specs.Laws.{IsExpected, MayUseByFlow, TellsOfFlow, TellFlow}
use Rattle.query_flow.proofs.Passed.{StaysIn}
use Rattle.query_flow.proofs.Runs.{free_stays}
use Rattle.query_flow.proofs.Idle.{NoneWakes, IsKept, IsAllowed, no_call, kept_step}

module _ (p : ProfileName) (flow : Flow) (settled : IsSettled p flow) (idle : ℕ → Bool) (none : NoneWakes flow idle) (A : State) where
  abbrev pub MaySend : ℕ → ℕ → Badge → Type 0
  MaySend endpoint thread badge = (idle thread ≡ false) × (flow.trusted thread ≡ false → MayUseByFlow flow write_bit (flow.set_of thread) endpoint badge)

  abbrev pub MayReceive : ℕ → ℕ → Type 0
  MayReceive endpoint thread = (idle thread ≡ false) × (flow.trusted thread ≡ false → (badge : Badge) × MayUseByFlow flow read_bit (flow.set_of thread) endpoint badge)

  module _ (B : State) (inv : Invariant B) (wait : Wait p A MaySend MayReceive B) (t : ℕ) (awake : idle t ≡ false) where
    fits_flow : (done : Invocation) → StaysIn p flow (flow.set_of t) done → Fits p A MaySend MayReceive B inv wait t done
    fits_flow (Send service message block) is = (awake, λ free. is)
    fits_flow (Receive service block) is = (awake, λ free. (service.badge, is))
    fits_flow (Retype new) is = tt
    fits_flow (Derive placement) is = tt
    fits_flow (Move placement) is = tt
    fits_flow (Delete slot) is = tt
    fits_flow (Revoke slot) is = tt
    fits_flow (CancelBadged service) is = tt
    fits_flow (SetSpace new) is = tt
    fits_flow (Suspend tcb) is = tt
    fits_flow (Resume tcb) is = tt

    -- a message of a trusted thread
    fits_message : flow.trusted t ≡ true → (done : Invocation) → IsMessage done → Fits p A MaySend MayReceive B inv wait t done
    fits_message trusted (Send service message block) is = (awake, λ free. absurd (false≢true (sym free ∙ trusted)))
    fits_message trusted (Receive service block) is = (awake, λ free. absurd (false≢true (sym free ∙ trusted)))
    fits_message trusted (Retype new) is = absurd is
    fits_message trusted (Derive placement) is = absurd is
    fits_message trusted (Move placement) is = absurd is
    fits_message trusted (Delete slot) is = absurd is
    fits_message trusted (Revoke slot) is = absurd is
    fits_message trusted (CancelBadged service) is = absurd is
    fits_message trusted (SetSpace new) is = absurd is
    fits_message trusted (Suspend tcb) is = absurd is
    fits_message trusted (Resume tcb) is = absurd is

  fits_awake : (B : State) (call : Call) (done : Invocation) (t : Bool) → flow.trusted call.thread ≡ t → IsReached p B → (inv : Invariant B) →
      (wait : Wait p A MaySend MayReceive B) → HoldsWhatMayStand flow B.derivations → idle call.thread ≡ false → IsExpected flow call →
      decoded_call p (shown B) call ≡ Ok done → Fits p A MaySend MayReceive B inv wait call.thread done
  fits_awake B call done false free reached inv wait held awake of h =
      fits_flow B inv wait call.thread awake done (free_stays p flow settled B call done reached held free h).1
  fits_awake B call done true trusted reached inv wait held awake (inl free) h = absurd (false≢true (sym free ∙ trusted))
  fits_awake B call done true trusted reached inv wait held awake (inr passes) h =
      fits_message B inv wait call.thread awake trusted done (subst MayBeMessage h (call_passes p (shown B) call passes))

  fits : (B : State) (call : Call) (done : Invocation) (t : Bool) → idle call.thread ≡ t → IsReached p B → (inv : Invariant B) →
      (wait : Wait p A MaySend MayReceive B) → IsKept p flow settled idle none B → IsAllowed p flow settled idle none call →
      decoded_call p (shown B) call ≡ Ok done → Fits p A MaySend MayReceive B inv wait call.thread done
  fits B call done true own reached inv wait kept of h = absurd (no_call p B call done (kept.inactive call.thread own) h)
  fits B call done false awake reached inv wait kept (inl own) h = absurd (false≢true (sym awake ∙ own))
  fits B call done false awake reached inv wait kept (inr of) h =
      fits_awake B call done (flow.trusted call.thread) refl reached inv wait kept.held awake of h

  pub all_told : (calls : List Call) → IsReached p A → IsKept p flow settled idle none A → Each (IsAllowed p flow settled idle none) calls →
      Each (Tells p A MaySend MayReceive) (replies_of p A calls)
  all_told calls reached kept of =
      run_told p A MaySend MayReceive (IsKept p flow settled idle none) (IsAllowed p flow settled idle none)
      (λ B call reached kept of. kept_step p flow settled idle none B call reached kept of)
      (λ B call done reached inv wait kept of h. fits B call done (idle call.thread) refl reached inv wait kept of h) A calls reached kept of
      (wait_before p A MaySend MayReceive)

-- ---- where no thread is idle

abbrev nobody : ℕ → Bool
nobody thread = false

nobody_wakes : (flow : Flow) → NoneWakes flow nobody
nobody_wakes flow c set thread named may is = false≢true is

module _ (p : ProfileName) (flow : Flow) (settled : IsSettled p flow) (A : State) where
  abbrev Sends : ℕ → ℕ → Badge → Type 0
  Sends = MaySend p flow settled nobody (nobody_wakes flow) A

  abbrev Receives : ℕ → ℕ → Type 0
  Receives = MayReceive p flow settled nobody (nobody_wakes flow) A

  waits_or : {X Y Z : Type 0} → X ⊎ (Y × Z) → X ⊎ Z
  waits_or (inl waits) = inl waits
  waits_or (inr may) = inr may.1

  of_those : (reply : Reply) → TellsShown p A Sends Receives reply → TellsOfFlow flow (shown A) reply
  of_those Done told = tt
  of_those Waiting told = tt
  of_those Dropped told = tt
  of_those Empty told = tt
  of_those (Refused refusal) told = tt
  of_those (Delivered endpoint from to badge message) told = (waits_or told.0, waits_or told.1)

  tell : (calls : List Call) → IsReached p A → HoldsWhatMayStand flow A.derivations → Each (IsExpected flow) calls → Each (TellsOfFlow flow (shown A)) (replies_of p A calls)
  tell calls reached held of =
      each-weaker (Tells p A Sends Receives) (TellsOfFlow flow (shown A)) (λ reply told. of_those reply (those p A Sends Receives (reached_inv p A reached) reply told))
      (replies_of p A calls)
      (all_told p flow settled nobody (nobody_wakes flow) A calls reached
      (record { held = held; inactive = λ thread is. absurd (false≢true is) })
      (each-weaker (IsExpected flow) (IsAllowed p flow settled nobody (nobody_wakes flow)) (λ call is. inr is) calls of))

pub tell_flow : (p : ProfileName) (flow : Flow) (A : State) (calls : List Call) → TellFlow p flow A calls
tell_flow p flow A calls reached settled held of = tell p flow settled A calls reached held of
