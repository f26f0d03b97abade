-- Threads that are inactive stay so, where no word of a thread that makes calls leads to their control blocks.
use Rattle.std.proofs.Common.{◌≡◌, ◌≢◌, ℕ, ◌+◌, ◌⊎◌, inl, inr, Bool, true, false, cond, ◌==◌, ◌&&◌, ◌||◌, List, [], ◌∷◌, Option, Some, None, option_map, Result, Ok, Err, refl, sym, subst, eq-eqb}
use Rattle.std.specs.Bool.{⊤}
use Rattle.std.specs.List.{list_any, AllByRecursion as Each}
use Rattle.std.proofs.lemmas.Bool.{false≢true, eqb-true}
use Rattle.cap_core.specs.declared.profile.ProfileName.{ProfileName}
use Rattle.cap_core.specs.declared.capability.Cap.TheVariants.{Tcb}
use Rattle.cap_core.specs.declared.refusal.Refusal.{Refusal}
use Rattle.ipc_core.specs.Records.{same_instance}
use Rattle.kernel_abstract.specs.declared.call.Call.{Call}
use Rattle.kernel_abstract.specs.declared.call.Reply.{Reply}
use Rattle.kernel_abstract.specs.declared.call.ThreadState.TheVariants.{Ready, Inactive}
use Rattle.kernel_abstract.specs.declared.invocation.Invocation.{Invocation}
use Rattle.kernel_abstract.specs.declared.invocation.Invocation.TheVariants.{Send, Receive, Retype, Derive, Move, Delete, Revoke, CancelBadged, SetSpace, Suspend, Resume}
use Rattle.kernel_abstract.specs.declared.invocation.NewObjects.{NewObjects}
use Rattle.kernel_abstract.specs.declared.reason.Reason.{Reason}
use Rattle.kernel_abstract.specs.Decode.{checked_op, checked_call, decoded_call, ensure_ready, ensure_live}
use Rattle.kernel_abstract.specs.Retyping.{new_bases}
use Rattle.kernel_abstract.specs.Shown.{ThreadView, tcb_base, threads_of, state_at}
use Rattle.kernel_abstract.specs.State.{State, shown, thread_at, thread_view, endpoint_at, first_of}
use Rattle.kernel_abstract.specs.Step.{Outcome, outcome, performed, objects_made, where_awaited, is_send_awaited, is_receive_awaited, send_accepted, receive_accepted, step, state_after}
use Rattle.kernel_abstract.specs.Reached.{IsReached}
use Rattle.kernel_abstract.proofs.Checks.Walked.{unrefused}
use Rattle.kernel_abstract.proofs.Lists.Tables.{get_table}
use Rattle.kernel_abstract.proofs.Reached.Runs.{reached_after}
use Rattle.query_parts.proofs.Messages.{IsMessage, MayBeMessage, call_passes}
use Rattle.query_flow.specs.Flow.{Flow, HoldsWhatMayStand, IsSettled}
use Rattle.query_flow.specs.Laws.{IsExpected}
use Rattle.query_flow.specs.Apart.{is_inactive}
use Rattle.query_flow.proofs.Passed.{StaysIn}
use Rattle.query_flow.proofs.Runs.{free_stays, step_held}

-- the thread at an address is inactive
abbrev pub IsIdle : State → ℕ → Type 0
IsIdle A thread = A.is_inactive (thread_at A thread) ≡ true

-- no word of a thread that makes calls leads to the control block of one that is idle
abbrev pub NoneWakes : Flow → (ℕ → Bool) → Type 0
NoneWakes flow idle = (c set thread : ℕ) → flow.names c set ≡ true → flow.may set (Tcb thread) ≡ true → idle thread ≡ true → ⊥

-- ---- a thread that is inactive makes no call

not_ready : (sends receives : Option ℕ) (inactive : Bool) (found : Result Invocation Reason) (done : Invocation) → inactive ≡ true →
    ensure_ready (first_of sends receives (cond inactive Inactive Ready)) found ≡ Ok done → ⊥
not_ready (Some e) receives inactive found done idle h = cc
not_ready None (Some e) inactive found done idle h = cc
not_ready None None true found done idle h = cc
not_ready None None false found done idle h = cc

not_live : (live : Bool) (view : ThreadView) (found : Result Invocation Reason) (done : Invocation) → (ensure_ready view.state found ≡ Ok done → ⊥) →
    ensure_live (cond live (Some view) None) found ≡ Ok done → ⊥
not_live true view found done none h = none h
not_live false view found done none h = cc

pub no_call : (p : ProfileName) (A : State) (call : Call) (done : Invocation) → IsIdle A call.thread → decoded_call p (shown A) call ≡ Ok done → ⊥
unfolding shown
no_call p A call done idle h =
    let found = checked_op p (shown A).derivations call.thread call.op in
    let passed = unrefused (checked_call p (shown A) call) done h in
    not_live (list_any (λ k. call.thread == k) (threads_of A.derivations)) (thread_view A call.thread) found done
    (not_ready _ _ (A.is_inactive (thread_at A call.thread)) found done idle)
    (subst (λ (o : Option ThreadView). ensure_live o found ≡ Ok done) (get_table (threads_of A.derivations) (thread_view A) call.thread) passed)

refused_same : (p : ProfileName) (A : State) (thread : ℕ) (r : Result Invocation Refusal) → ((done : Invocation) → r ≡ Ok done → ⊥) →
    (outcome p A thread r).state.derivations ≡ A.derivations
refused_same p A thread (Err refusal) never = refl
refused_same p A thread (Ok done) never = absurd (never done refl)

-- so its call changes no slot
pub no_change : (p : ProfileName) (A : State) (call : Call) → IsIdle A call.thread → (step p A call).state.derivations ≡ A.derivations
unfolding step
no_change p A call idle = refused_same p A call.thread (decoded_call p (shown A) call) (λ done h. no_call p A call done idle h)

-- ---- it is inactive where it is shown so

told_state : (sends receives : Option ℕ) (inactive : Bool) → is_inactive (Some (first_of sends receives (cond inactive Inactive Ready))) ≡ true → inactive ≡ true
told_state (Some e) receives inactive h = absurd (false≢true h)
told_state None (Some e) inactive h = absurd (false≢true h)
told_state None None true h = refl
told_state None None false h = absurd (false≢true h)

told_view : (live : Bool) (view : ThreadView) → is_inactive (option_map (λ (x : ThreadView). x.state) (cond live (Some view) None)) ≡ true → is_inactive (Some view.state) ≡ true
told_view true view h = h
told_view false view h = absurd (false≢true h)

pub idle_shown : (A : State) (thread : ℕ) → is_inactive (state_at (shown A) thread) ≡ true → IsIdle A thread
unfolding shown
idle_shown A thread h =
    told_state _ _ (A.is_inactive (thread_at A thread))
    (told_view (list_any (λ k. thread == k) (threads_of A.derivations)) (thread_view A thread)
    (subst (λ (o : Option ThreadView). is_inactive (option_map (λ (x : ThreadView). x.state) o) ≡ true) (get_table (threads_of A.derivations) (thread_view A) thread) h))

-- ---- what a call leaves

module _ (p : ProfileName) (A : State) (thread : ℕ) (idle : IsIdle A thread) where
  -- it resumes another thread, or none
  abbrev pub IsOther : Invocation → Type 0
  IsOther (Resume tcb) = thread ≢ tcb
  IsOther done = ⊤

  awaited_idle : (awaited : Bool) (accepted : Outcome) (reply : Reply) → IsIdle accepted.state thread → IsIdle (where_awaited A awaited accepted reply).state thread
  awaited_idle true accepted reply h = h
  awaited_idle false accepted reply h = idle

  or_so : (a b : Bool) → a ≡ true → a || b ≡ true
  or_so true b h = refl
  or_so false b h = absurd (false≢true h)

  or_new : (a b : Bool) → b ≡ true → a || b ≡ true
  or_new true b h = refl
  or_new false b h = h

  -- a thread that is made anew is inactive
  made_idle : (new : NewObjects) (b : Bool) → list_any (λ k. thread == k) (new_bases tcb_base p new) ≡ b →
      A.is_inactive (record { base = thread; birth = cond b (A.count + 1) (A.thread_birth thread) })
      || (b && (cond b (A.count + 1) (A.thread_birth thread) == A.count + 1)) ≡ true
  made_idle new true is = or_new (A.is_inactive (record { base = thread; birth = A.count + 1 })) (A.count + 1 == A.count + 1) (eq-eqb (A.count + 1) (A.count + 1) refl)
  made_idle new false is = or_so (A.is_inactive (thread_at A thread)) false idle

  retyped_idle : (new : NewObjects) → IsIdle (objects_made p A new).state thread
  retyped_idle new = made_idle new (list_any (λ k. thread == k) (new_bases tcb_base p new)) refl

  stopped_idle : (b : Bool) → cond b true (A.is_inactive (thread_at A thread)) ≡ true
  stopped_idle true = refl
  stopped_idle false = idle

  other_idle : (tcb : ℕ) (b : Bool) → (thread == tcb) ≡ b → thread ≢ tcb →
      cond (b && (A.thread_birth thread == A.thread_birth tcb)) false (A.is_inactive (thread_at A thread)) ≡ true
  other_idle tcb true is other = absurd (other (eqb-true thread tcb is))
  other_idle tcb false is other = idle

  performed_idle : (t : ℕ) (done : Invocation) → IsOther done → IsIdle (performed p A t done).state thread
  performed_idle t (Send service message true) other = idle
  performed_idle t (Send service message false) other =
      awaited_idle (is_send_awaited A (endpoint_at A service.endpoint)) (send_accepted A t service message) _ idle
  performed_idle t (Receive service true) other = idle
  performed_idle t (Receive service false) other =
      awaited_idle (is_receive_awaited A (endpoint_at A service.endpoint)) (receive_accepted A t service) _ idle
  performed_idle t (Retype new) other = retyped_idle new
  performed_idle t (Derive placement) other = idle
  performed_idle t (Move placement) other = idle
  performed_idle t (Delete slot) other = idle
  performed_idle t (Revoke slot) other = idle
  performed_idle t (CancelBadged service) other = idle
  performed_idle t (SetSpace new) other = idle
  performed_idle t (Suspend tcb) other = stopped_idle (same_instance (thread_at A thread) (thread_at A tcb))
  performed_idle t (Resume tcb) other = other_idle tcb (thread == tcb) refl other

  pub outcome_idle : (t : ℕ) (r : Result Invocation Refusal) → ((done : Invocation) → r ≡ Ok done → IsOther done) → IsIdle (outcome p A t r).state thread
  outcome_idle t (Err refusal) others = idle
  outcome_idle t (Ok done) others = performed_idle t done (others done refl)

  -- a send or a receive
  message_other : (done : Invocation) → IsMessage done → IsOther done
  message_other (Send service message block) is = tt
  message_other (Receive service block) is = tt
  message_other (Retype new) is = tt
  message_other (Derive placement) is = tt
  message_other (Move placement) is = tt
  message_other (Delete slot) is = tt
  message_other (Revoke slot) is = tt
  message_other (CancelBadged service) is = tt
  message_other (SetSpace new) is = tt
  message_other (Suspend tcb) is = tt
  message_other (Resume tcb) is = absurd is

-- ---- calls and runs

module _ (p : ProfileName) (flow : Flow) (settled : IsSettled p flow) (idle : ℕ → Bool) (none : NoneWakes flow idle) where
  -- each slot holds what may stand there, and who is idle is inactive
  pub record IsKept (A : State) : Type 0 where
    pub held : HoldsWhatMayStand flow A.derivations
    pub inactive : (thread : ℕ) → idle thread ≡ true → IsIdle A thread

  -- a call of a thread that is idle, or an expected one
  abbrev pub IsAllowed : Call → Type 0
  IsAllowed call = (idle call.thread ≡ true) ⊎ IsExpected flow call

  module _ (A : State) (kept : IsKept A) (thread : ℕ) (is : idle thread ≡ true) where
    free_other : (c : ℕ) (done : Invocation) → StaysIn p flow c done → IsOther p A thread (kept.inactive thread is) done
    free_other c (Send service message block) stays = tt
    free_other c (Receive service block) stays = tt
    free_other c (Retype new) stays = tt
    free_other c (Derive placement) stays = tt
    free_other c (Move placement) stays = tt
    free_other c (Delete slot) stays = tt
    free_other c (Revoke slot) stays = tt
    free_other c (CancelBadged service) stays = tt
    free_other c (SetSpace new) stays = tt
    free_other c (Suspend tcb) stays = tt
    free_other c (Resume tcb) (set, (named, may)) =
        λ same. none c set tcb named may (subst (λ t. idle t ≡ true) same is)

    call_other : (call : Call) (done : Invocation) → IsReached p A → IsAllowed call → decoded_call p (shown A) call ≡ Ok done → IsOther p A thread (kept.inactive thread is) done
    call_other call done reached (inl own) h = absurd (no_call p A call done (kept.inactive call.thread own) h)
    call_other call done reached (inr (inl free)) h =
        free_other (flow.set_of call.thread) done (free_stays p flow settled A call done reached kept.held free h).1
    call_other call done reached (inr (inr passes)) h =
        message_other p A thread (kept.inactive thread is) done (subst MayBeMessage h (call_passes p (shown A) call passes))

    idle_step : (call : Call) → IsReached p A → IsAllowed call → IsIdle (step p A call).state thread
    unfolding step
    idle_step call reached may =
        outcome_idle p A thread (kept.inactive thread is) call.thread (decoded_call p (shown A) call) (λ done h. call_other call done reached may h)

  held_step : (A : State) (call : Call) → IsReached p A → IsKept A → IsAllowed call → HoldsWhatMayStand flow (step p A call).state.derivations
  held_step A call reached kept (inl own) = subst (HoldsWhatMayStand flow) (sym (no_change p A call (kept.inactive call.thread own))) kept.held
  held_step A call reached kept (inr expected) = step_held p flow settled A call reached kept.held expected

  pub kept_step : (A : State) (call : Call) → IsReached p A → IsKept A → IsAllowed call → IsKept (step p A call).state
  kept_step A call reached kept may = record {
    held = held_step A call reached kept may;
    inactive = λ thread is. idle_step A kept thread is call reached may;
  }

  pub kept_after : (A : State) (calls : List Call) → IsReached p A → IsKept A → Each IsAllowed calls → IsKept (state_after p A calls)
  unfolding state_after
  kept_after A [] reached kept may = kept
  kept_after A (call ∷ calls) reached kept may =
      kept_after (step p A call).state calls (reached_after p A (call ∷ []) reached) (kept_step A call reached kept may.0) may.1
