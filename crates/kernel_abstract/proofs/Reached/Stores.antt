-- What holds of the capabilities of each state that runs reach.
use Rattle.std.proofs.Common.{◌≡◌, ℕ, Bool, true, false, Result, Ok, Err}
use Rattle.cap_core.specs.declared.profile.ProfileName.{ProfileName}
use Rattle.cap_core.specs.declared.refusal.Refusal.{Refusal}
use Rattle.kernel_forest.specs.Forest.{Forest}
use Rattle.kernel_forest.specs.Entries.{Entry}
use Rattle.kernel_abstract.specs.declared.call.Call.{Call}
use Rattle.kernel_abstract.specs.declared.call.Reply.{Reply}
use Rattle.kernel_abstract.specs.declared.invocation.Invocation.{Invocation}
use Rattle.kernel_abstract.specs.declared.invocation.Invocation.TheVariants.{Send, Receive, Retype, Derive, Move, Delete, Revoke, CancelBadged, SetSpace, Suspend, Resume}
use Rattle.kernel_abstract.specs.declared.invocation.NewObjects.{NewObjects}
use Rattle.kernel_abstract.specs.Decode.{decoded_call}
use Rattle.kernel_abstract.specs.Retyping.{with_objects}
use Rattle.kernel_abstract.specs.Private.Stores.{IsKernelStore}
use Rattle.kernel_abstract.specs.State.{State, shown, endpoint_at}
use Rattle.kernel_abstract.specs.Step.{Outcome, outcome, performed, where_awaited, is_send_awaited, is_receive_awaited, send_accepted, receive_accepted}
use Rattle.kernel_abstract.specs.Private.Invocations.{IsRetype}
use Rattle.kernel_abstract.proofs.Capabilities.StoresKept.{store-derived, store-moved}
use Rattle.kernel_abstract.proofs.Capabilities.StoresCleared.{store-clear, store-revoke}
use Rattle.kernel_abstract.proofs.Capabilities.SpacesSet.{store-space}
use Rattle.kernel_abstract.proofs.Retype.RetypedForest.{made, made_lawful, made_placed}
use Rattle.kernel_abstract.proofs.Checks.PassedInvocations.{IsEdit, invoked_edit, call_passed}
use Rattle.kernel_delete.specs.Housed.{IsHoused}
use Rattle.kernel_delete.proofs.Kept.{housed-clear, housed-revoke}
use Rattle.kernel_abstract.proofs.Housed.Edits.{housed-with_objects, housed-with_derived, housed-with_moved, housed-with_space}

pub store-made : (p : ProfileName) (memory : ℕ) (f : Forest Entry) (new : NewObjects) → IsRetype p f new → IsKernelStore p memory f → IsKernelStore p memory (with_objects p new f)
store-made p memory f new is store =
    let can = made p f new is memory store.regions store.disjoint store.slots_distinct store.lawful in
    record {
      memory_most = store.memory_most;
      slots_distinct = can.distinct;
      slots_placed = made_placed p f new is memory store.regions store.disjoint store.slots_distinct store.lawful store.slots_placed;
      lawful = made_lawful p f new is memory store.regions store.disjoint store.slots_distinct store.lawful;
      disjoint = can.disjoint;
      regions = can.regions;
    }

-- where an operation is accepted or not, the capabilities stay
awaited_store : (p : ProfileName) (memory : ℕ) (A : State) (awaited : Bool) (accepted : Outcome) (reply : Reply) → IsKernelStore p memory A.derivations → IsKernelStore p memory accepted.state.derivations
    → IsKernelStore p memory (where_awaited A awaited accepted reply).state.derivations
awaited_store p memory A true accepted reply store kept = kept
awaited_store p memory A false accepted reply store kept = store

awaited_housed : (p : ProfileName) (A : State) (awaited : Bool) (accepted : Outcome) (reply : Reply) →
    IsHoused p A.derivations → IsHoused p accepted.state.derivations →
    IsHoused p (where_awaited A awaited accepted reply).state.derivations
awaited_housed p A true accepted reply h kept = kept
awaited_housed p A false accepted reply h kept = h

performed_store : (p : ProfileName) (memory : ℕ) (A : State) (t : ℕ) (invocation : Invocation) → IsEdit p A.derivations invocation → IsKernelStore p memory A.derivations → IsKernelStore p memory (performed p A t invocation).state.derivations
performed_store p memory A t (Send service message true) edit store = store
performed_store p memory A t (Send service message false) edit store = awaited_store p memory A (is_send_awaited A (endpoint_at A service.endpoint)) (send_accepted A t service message) _ store store
performed_store p memory A t (Receive service true) edit store = store
performed_store p memory A t (Receive service false) edit store = awaited_store p memory A (is_receive_awaited A (endpoint_at A service.endpoint)) (receive_accepted A t service) _ store store
performed_store p memory A t (Retype new) edit store = store-made p memory A.derivations new edit store
performed_store p memory A t (Derive placement) edit store = store-derived p memory A.derivations store placement edit
performed_store p memory A t (Move placement) edit store = store-moved p memory A.derivations store placement edit
performed_store p memory A t (Delete slot) edit store = store-clear p memory slot A.derivations store
performed_store p memory A t (Revoke slot) edit store = store-revoke p memory slot A.derivations store
performed_store p memory A t (CancelBadged service) edit store = store
performed_store p memory A t (SetSpace new) edit store = store-space p memory A.derivations new edit store
performed_store p memory A t (Suspend tcb) edit store = store
performed_store p memory A t (Resume tcb) edit store = store

-- full slots lie in live objects
performed_housed : (p : ProfileName) (memory : ℕ) (A : State) (t : ℕ) (invocation : Invocation) →
    IsEdit p A.derivations invocation →
    IsKernelStore p memory A.derivations → IsHoused p A.derivations →
    IsHoused p (performed p A t invocation).state.derivations
performed_housed p memory A t (Send service message true) edit store h = h
performed_housed p memory A t (Send service message false) edit store h =
    awaited_housed p A (is_send_awaited A (endpoint_at A service.endpoint)) (send_accepted A t service message) _ h h
performed_housed p memory A t (Receive service true) edit store h = h
performed_housed p memory A t (Receive service false) edit store h =
    awaited_housed p A (is_receive_awaited A (endpoint_at A service.endpoint)) (receive_accepted A t service) _ h h
performed_housed p memory A t (Retype new) edit store h = housed-with_objects p A.derivations new edit h
performed_housed p memory A t (Derive placement) edit store h =
    housed-with_derived p A.derivations placement edit.ends h
performed_housed p memory A t (Move placement) edit store h =
    housed-with_moved p A.derivations placement store.slots_distinct edit.ends h
performed_housed p memory A t (Delete slot) edit store h = housed-clear p slot A.derivations h
performed_housed p memory A t (Revoke slot) edit store h = housed-revoke p slot A.derivations h
performed_housed p memory A t (CancelBadged service) edit store h = h
performed_housed p memory A t (SetSpace new) edit store h =
    housed-with_space p A.derivations new store.slots_distinct edit h
performed_housed p memory A t (Suspend tcb) edit store h = h
performed_housed p memory A t (Resume tcb) edit store h = h

pub checked_edit : (p : ProfileName) (memory : ℕ) (A : State) (call : Call) (invocation : Invocation) → IsKernelStore p memory A.derivations → decoded_call p (shown A) call ≡ Ok invocation → IsEdit p A.derivations invocation
unfolding shown
checked_edit p memory A call invocation store h =
    invoked_edit p memory A.derivations store.lawful call.thread call.op invocation (call_passed p (shown A) call invocation h)

-- by each call
pub outcome_store : (p : ProfileName) (memory : ℕ) (A : State) (call : Call) (r : Result Invocation Refusal) → decoded_call p (shown A) call ≡ r → IsKernelStore p memory A.derivations → IsKernelStore p memory (outcome p A call.thread r).state.derivations
outcome_store p memory A call (Err refusal) h store = store
outcome_store p memory A call (Ok invocation) h store = performed_store p memory A call.thread invocation (checked_edit p memory A call invocation store h) store

pub outcome_housed : (p : ProfileName) (memory : ℕ) (A : State) (call : Call) (r : Result Invocation Refusal) →
    decoded_call p (shown A) call ≡ r → IsKernelStore p memory A.derivations → IsHoused p A.derivations →
    IsHoused p (outcome p A call.thread r).state.derivations
outcome_housed p memory A call (Err refusal) passed store h = h
outcome_housed p memory A call (Ok invocation) passed store h =
    performed_housed p memory A call.thread invocation (checked_edit p memory A call invocation store passed) store h
