-- What a call of a part takes: its own slots, and what stands below them.
use Rattle.std.proofs.Common.{◌≡◌, ℕ, zero, suc, inl, inr, Bool, true, false, List, length, Some, Result, Ok, Err, refl, sym, subst, ◌∙◌}
use Rattle.cap_core.specs.declared.profile.ProfileName.{ProfileName}
use Rattle.cap_core.specs.declared.refusal.Refusal.{Refusal}
use Rattle.kernel_forest.specs.Forest.{Forest, preorder, below_those, descendants}
use Rattle.kernel_forest.specs.Entries.{Entry, is_at, cap_at, first_child}
use Rattle.kernel_forest.proofs.Trees.Forests.{each-contained, each-from_contained}
use Rattle.kernel_forest.proofs.Slots.Edits.{cap-derived_other}
use Rattle.kernel_delete.specs.Clear.{clear}
use Rattle.kernel_delete.specs.Revoke.{revoke, revoked}
use Rattle.kernel_delete.proofs.Clearable.{in_contains}
use Rattle.kernel_delete.proofs.Revoking.{revoked_none, revoked_some, child_or_none}
use Rattle.kernel_abstract.specs.declared.call.Call.{Call}
use Rattle.kernel_abstract.specs.declared.call.Reply.{Reply}
use Rattle.kernel_abstract.specs.declared.invocation.Invocation.{Invocation}
use Rattle.kernel_abstract.specs.declared.invocation.Invocation.TheVariants.{Send, Receive, Retype, Derive, Move, Delete, Revoke, CancelBadged, SetSpace, Suspend, Resume}
use Rattle.kernel_abstract.specs.declared.invocation.NewSpace.{NewSpace}
use Rattle.kernel_abstract.specs.Threads.{with_space}
use Rattle.kernel_abstract.specs.Decode.{decoded_call}
use Rattle.kernel_abstract.specs.State.{State, shown, endpoint_at}
use Rattle.kernel_abstract.specs.Step.{Outcome, outcome, performed, where_awaited, is_send_awaited, is_receive_awaited, send_accepted, receive_accepted, step, state_after}
use Rattle.kernel_abstract.specs.Private.Invocations.{IsSpace}
use Rattle.kernel_abstract.specs.Private.Stores.{IsKernelStore}
use Rattle.kernel_abstract.specs.Reached.{IsReached}
use Rattle.kernel_abstract.proofs.Capabilities.StoresCleared.{store-clear}
use Rattle.kernel_abstract.proofs.Capabilities.SpacesSet.{space_kept}
use Rattle.kernel_abstract.proofs.Checks.PassedInvocations.{IsEdit, call_passed}
use Rattle.kernel_abstract.proofs.Reached.Stores.{checked_edit}
use Rattle.kernel_abstract.proofs.Reached.Simulation.{reached_is}
use Rattle.query_parts.specs.Parts.{Parts, IsClosed}
use Rattle.query_parts.specs.Below.{TakesNothing, TakesNothingOutside, StayNoneBelow, StayOwnBelow}
use Rattle.query_parts.proofs.Changes.{IsChange, change_closed, unchanged, change-clear}
use Rattle.query_parts.proofs.Passed.{IsSpaceIn, StaysIn, op_stays}
use Rattle.query_parts.proofs.Spared.{within_near, kept-clear, child_below, child_near, same-derived, same-moved, same-objects}
use Rattle.query_parts.proofs.Runs.{some_is}
use Rattle.query_parts.proofs.Below.{FitBelow, fits-clear, run_fits}

module _ (p : ProfileName) (parts : Parts) (i : ℕ) (P : ℕ → Type 0)
    (own : (s : ℕ) → parts.part_of s ≡ Some i → P s)
    (beside : (k s t : ℕ) → parts.part_of s ≡ Some k → parts.part_of t ≡ Some k → P t → P s) where
  -- each slot that may not stand below those of the part holds what it held
  abbrev AreKept : Forest Entry → Forest Entry → Type 0
  AreKept before after = (n : ℕ) → (P n → ⊥) → cap_at after n ≡ cap_at before n

  module _ (memory : ℕ) (f : Forest Entry) (store : IsKernelStore p memory f) (closed : IsClosed p parts i f)
      (fits : FitBelow p parts i P own beside f) where
    outside : (n : ℕ) → (P n → ⊥) → parts.part_of n ≡ Some i → ⊥
    outside n other mine = other (own n mine)

    differs : (n c : ℕ) → (P n → ⊥) → P c → n ≡ c → ⊥
    differs n c other may same = other (subst P (sym same) may)

    takes-clear : (c : ℕ) → parts.part_of c ≡ Some i → AreKept f (clear p c f)
    takes-clear c mine n other =
        kept-clear p parts i f store.slots_distinct closed c (within_near p parts i (cap_at f c) (closed c mine)) n
        (differs n c other (own c mine)) (outside n other)

    takes-space : (new : NewSpace) → IsSpace p f new → IsSpaceIn p parts i new → AreKept f (with_space p new f)
    takes-space new edit is =
        let left = takes-clear new.tcb is.tcb in
        space_kept p f store.slots_distinct new edit (AreKept f) left
        (λ d n other. cap-derived_other n new.source new.tcb new.cap (clear p new.tcb f) (differs n new.tcb other (own new.tcb is.tcb)) ∙ left n other)

    -- a revocation clears the first slot below, again and again
    takes-revoked : (s : ℕ) → parts.part_of s ≡ Some i → (k : ℕ) (g : Forest Entry) → IsKernelStore p memory g → IsChange p parts i f g →
        FitBelow p parts i P own beside g → AreKept f g → AreKept f (revoked p k s g)
    takes-revoked s mine zero g kept change fits_g same = same
    takes-revoked s mine (suc k) g kept change fits_g same = elim (child_or_none (first_child s g)) [
      | inl e ↦ subst (AreKept f) (sym (revoked_none p (suc k) s g e)) same
      | inr w ↦
          subst (AreKept f) (sym (revoked_some p k s w.0 g w.1))
          (takes-revoked s mine k (clear p w.0 g) (store-clear p memory w.0 g kept)
          (change-clear p parts i f closed store.slots_distinct w.0 g change)
          (fits-clear p parts i P own beside w.0 g kept.slots_distinct fits_g)
          (then_cleared w.0 w.1))
    ]
      where
        then_cleared : (c : ℕ) → first_child s g ≡ Some c → AreKept f (clear p c g)
        then_cleared c e n other =
            let within = change_closed p parts i f closed g change in
            let d = child_below (below_those (is_at s) g) c e in
            let may : P c = subst P d.1.1 (each-contained (λ (x : Entry). P x.slot) (descendants (is_at s) g) d.0 (fits_g s mine)
            (in_contains (descendants (is_at s) g) d.0 d.1.0)) in
            kept-clear p parts i g kept.slots_distinct within c (child_near p parts i memory g kept within s c mine e) n
            (differs n c other may) (outside n other)
            ∙ same n other

    takes-revoke : (s : ℕ) → parts.part_of s ≡ Some i → AreKept f (revoke p s f)
    unfolding revoke
    takes-revoke s mine =
        takes-revoked s mine (length (preorder f)) f store (unchanged p parts i f closed store.slots_distinct) fits (λ n other. refl)

  kept_where : (A : State) (awaited : Bool) (accepted : Outcome) (reply : Reply) → AreKept A.derivations accepted.state.derivations →
      AreKept A.derivations (where_awaited A awaited accepted reply).state.derivations
  kept_where A true accepted reply done = done
  kept_where A false accepted reply done = λ n other. refl

  performed_takes : (memory : ℕ) (A : State) → IsKernelStore p memory A.derivations → IsClosed p parts i A.derivations →
      FitBelow p parts i P own beside A.derivations → (thread : ℕ) (done : Invocation) → IsEdit p A.derivations done → StaysIn p parts i done →
      AreKept A.derivations (performed p A thread done).state.derivations
  performed_takes memory A store closed fits thread (Send service message true) edit is = λ n other. refl
  performed_takes memory A store closed fits thread (Send service message false) edit is =
      kept_where A (is_send_awaited A (endpoint_at A service.endpoint)) (send_accepted A thread service message) _ (λ n other. refl)
  performed_takes memory A store closed fits thread (Receive service true) edit is = λ n other. refl
  performed_takes memory A store closed fits thread (Receive service false) edit is =
      kept_where A (is_receive_awaited A (endpoint_at A service.endpoint)) (receive_accepted A thread service) _ (λ n other. refl)
  performed_takes memory A store closed fits thread (Retype new) edit is =
      λ n other. same-objects p parts i memory A.derivations store closed new is n (outside memory A.derivations store closed fits n other)
  performed_takes memory A store closed fits thread (Derive placement) edit is =
      λ n other. same-derived p parts i memory A.derivations store closed placement is n (outside memory A.derivations store closed fits n other)
  performed_takes memory A store closed fits thread (Move placement) edit is =
      λ n other. same-moved p parts i memory A.derivations store closed placement is n (outside memory A.derivations store closed fits n other)
  performed_takes memory A store closed fits thread (Delete slot) edit is = takes-clear memory A.derivations store closed fits slot is
  performed_takes memory A store closed fits thread (Revoke slot) edit is = takes-revoke memory A.derivations store closed fits slot is
  performed_takes memory A store closed fits thread (CancelBadged service) edit is = λ n other. refl
  performed_takes memory A store closed fits thread (SetSpace new) edit is = takes-space memory A.derivations store closed fits new edit is
  performed_takes memory A store closed fits thread (Suspend tcb) edit is = λ n other. refl
  performed_takes memory A store closed fits thread (Resume tcb) edit is = λ n other. refl

  outcome_takes : (memory : ℕ) (A : State) (call : Call) (r : Result Invocation Refusal) → IsKernelStore p memory A.derivations →
      IsClosed p parts i A.derivations → FitBelow p parts i P own beside A.derivations → parts.part_of call.thread ≡ Some i →
      decoded_call p (shown A) call ≡ r → AreKept A.derivations (outcome p A call.thread r).state.derivations
  unfolding shown
  outcome_takes memory A call (Err refusal) store closed fits mine h = λ n other. refl
  outcome_takes memory A call (Ok done) store closed fits mine h =
      performed_takes memory A store closed fits call.thread done (checked_edit p memory A call done store h)
      (op_stays p parts i A.derivations closed call.thread mine call.op done
      (call_passed p (shown A) call done h))

  step_takes : (A : State) (call : Call) → IsReached p A → IsClosed p parts i A.derivations → parts.part_of call.thread ≡ Some i →
      FitBelow p parts i P own beside A.derivations → AreKept A.derivations (step p A call).state.derivations
  unfolding step
  step_takes A call reached closed mine fits =
      outcome_takes reached.plan.memory_bits A call (decoded_call p (shown A) call) (reached_is p A reached).store closed fits mine refl

-- slots of another part may not stand below
module _ (p : ProfileName) (parts : Parts) (i j : ℕ) (two : i ≡ j → ⊥) where
  abbrev Not : ℕ → Type 0
  Not s = parts.part_of s ≡ Some j → ⊥

  not_own : (s : ℕ) → parts.part_of s ≡ Some i → Not s
  not_own s mine other = two (some_is i j (sym mine ∙ other))

  not_beside : (k s t : ℕ) → parts.part_of s ≡ Some k → parts.part_of t ≡ Some k → Not t → Not s
  not_beside k s t here there other at = other (there ∙ sym here ∙ at)

pub takes_nothing : (p : ProfileName) (parts : Parts) (i j : ℕ) (A : State) (call : Call) → TakesNothing p parts i j A call
takes_nothing p parts i j A call reached closed mine two none slot at =
    step_takes p parts i (Not p parts i j two) (not_own p parts i j two) (not_beside p parts i j two) A call reached closed mine
    (λ s here. each-from_contained (λ (e : Entry). Not p parts i j two e.slot) (descendants (is_at s) A.derivations) (λ e m. none s e here m)) slot (λ other. other at)

pub stay_none : (p : ProfileName) (parts : Parts) (i j : ℕ) (A : State) (calls : List Call) → StayNoneBelow p parts i j A calls
stay_none p parts i j A calls reached closed of two none s e here m =
    each-contained (λ (e : Entry). Not p parts i j two e.slot) (descendants (is_at s) (state_after p A calls).derivations) e
    (run_fits p parts i (Not p parts i j two) (not_own p parts i j two) (not_beside p parts i j two) A calls reached closed of
    (λ s here. each-from_contained (λ (e : Entry). Not p parts i j two e.slot) (descendants (is_at s) A.derivations) (λ e m. none s e here m)) s here) m

-- slots of the part alone may stand below
module _ (parts : Parts) (i : ℕ) where
  abbrev Own : ℕ → Type 0
  Own s = parts.part_of s ≡ Some i

  own_beside : (k s t : ℕ) → parts.part_of s ≡ Some k → parts.part_of t ≡ Some k → Own t → Own s
  own_beside k s t here there mine = here ∙ sym there ∙ mine

pub takes_nothing_outside : (p : ProfileName) (parts : Parts) (i : ℕ) (A : State) (call : Call) → TakesNothingOutside p parts i A call
takes_nothing_outside p parts i A call reached closed mine below slot other =
    step_takes p parts i (Own parts i) (λ s h. h) (own_beside parts i) A call reached closed mine
    (λ s here. each-from_contained (λ (e : Entry). Own parts i e.slot) (descendants (is_at s) A.derivations) (λ e m. below s e here m)) slot other

pub stay_own : (p : ProfileName) (parts : Parts) (i : ℕ) (A : State) (calls : List Call) → StayOwnBelow p parts i A calls
stay_own p parts i A calls reached closed of below s e here m =
    each-contained (λ (e : Entry). Own parts i e.slot) (descendants (is_at s) (state_after p A calls).derivations) e
    (run_fits p parts i (Own parts i) (λ s h. h) (own_beside parts i) A calls reached closed of
    (λ s here. each-from_contained (λ (e : Entry). Own parts i e.slot) (descendants (is_at s) A.derivations) (λ e m. below s e here m)) s here) m
