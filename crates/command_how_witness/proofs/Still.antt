-- Calls of threads of still parts send or receive, or are refused.
use Rattle.std.proofs.Common.{◌≡◌, ℕ, Bool, true, false, cond, not, ◌==◌, ◌&&◌, List, [], ◌∷◌, length, Option, Some, None, Result, Ok, Err, refl, sym, ap, subst, ◌∙◌}
use Rattle.std.specs.List.{AllByRecursion as Each}
use Rattle.std.proofs.lemmas.Bool.{false≢true}
use Rattle.std.specs.FinMap.{get}
use Rattle.cap_core.specs.declared.profile.ProfileName.{ProfileName}
use Rattle.cap_core.specs.declared.capability.Cap.{Cap}
use Rattle.cap_core.specs.declared.capability.Cap.TheVariants.{Null, Untyped, Endpoint, CNode, Tcb}
use Rattle.cap_core.specs.declared.capability.Kind.TheVariants as kind
use Rattle.cap_core.specs.declared.message.Message.{Message}
use Rattle.cap_core.specs.declared.refusal.Refusal.{Refusal}
use Rattle.cap_core.specs.declared.refusal.LookupFault.{LookupFault}
use Rattle.cap_core.specs.Checks.{◌>>=◌}
use Rattle.cap_core.specs.Numbers.{word_bits}
use Rattle.kernel_forest.specs.Forest.{Forest}
use Rattle.kernel_forest.specs.Entries.{Entry, cap_at}
use Rattle.kernel_forest.proofs.Trees.Forests.{each-weaker}
use Rattle.cspace_core.specs.Bits.{low_bits}
use Rattle.cspace_core.specs.Resolution.{Choice, Found, is_cnode, choice, found_or, resolution_within, resolution}
use Rattle.cspace_core.specs.Inside.{IsSlotOf}
use Rattle.cspace_core.proofs.Inside.{low_bits-below}
use Rattle.kernel_abstract.specs.declared.call.Call.{Call}
use Rattle.kernel_abstract.specs.declared.call.Op.{Op}
use Rattle.kernel_abstract.specs.declared.call.Op.TheVariants as op
use Rattle.kernel_abstract.specs.declared.call.ThreadState.{ThreadState}
use Rattle.kernel_abstract.specs.declared.call.ThreadState.TheVariants.{Ready, Inactive, Sending, Receiving}
use Rattle.kernel_abstract.specs.declared.invocation.Change.{Change}
use Rattle.kernel_abstract.specs.declared.invocation.SlotArguments.{SlotArguments}
use Rattle.kernel_abstract.specs.declared.invocation.RetypeArguments.{RetypeArguments}
use Rattle.kernel_abstract.specs.declared.invocation.Change.TheVariants.{Copy, Mint, Move, Mutate}
use Rattle.kernel_abstract.specs.declared.invocation.Service.{Service}
use Rattle.kernel_abstract.specs.declared.invocation.Invocation.{Invocation}
use Rattle.kernel_abstract.specs.declared.invocation.Invocation.TheVariants as invocation
use Rattle.kernel_abstract.specs.declared.reason.Word.TheVariants.{Invoked}
use Rattle.kernel_abstract.specs.declared.reason.Right.TheVariants.{Write, Read}
use Rattle.kernel_abstract.specs.declared.reason.Reason.{Reason}
use Rattle.kernel_abstract.specs.Reasons.{with_refusal, held_at}
use Rattle.kernel_abstract.specs.Lookups.{is_of_kind, of_kind, slot_named, slot_by_word}
use Rattle.kernel_abstract.specs.Retyping.{checked_retype}
use Rattle.kernel_abstract.specs.CNodes.{checked_placement}
use Rattle.kernel_abstract.specs.Deletion.{checked_slot, checked_badge}
use Rattle.kernel_abstract.specs.Threads.{checked_tcb, checked_space}
use Rattle.kernel_abstract.specs.Decode.{objects_asked, slots_named, invoking, service_word, service_in, checked_invocation, checked_op, checked_call, decoded_call, ensure_ready, ensure_live}
use Rattle.kernel_abstract.specs.Shown.{ThreadView}
use Rattle.kernel_abstract.specs.State.{State, shown, endpoint_at}
use Rattle.kernel_abstract.specs.Step.{Outcome, outcome, performed, where_awaited, is_send_awaited, is_receive_awaited, send_accepted, receive_accepted, step, state_after}
use Rattle.kernel_abstract.proofs.Checks.FoundSlots.{passed, kind_passed}
use Rattle.kernel_abstract.proofs.Checks.PassedSpaceChecks.{tcb_named}
use Rattle.kernel_abstract.proofs.Checks.Walked.{word_passed}
use Rattle.query_parts.specs.Parts.{Parts}
use Rattle.query_parts.specs.Passing.{IsForMessages, PassesAlone}
use Rattle.query_parts.proofs.Found.{chosen_slot, named_found}
use Rattle.query_parts.proofs.Messages.{IsMessage, MayBeMessage}
use Rattle.command_how_witness.specs.Still.{IsOfStillPart, ChangesNoSlot}

-- ---- an endpoint's capability serves no other operation

no_region : (cap : Cap) → IsForMessages cap → is_of_kind kind.Untyped cap ≡ true → ⊥
no_region Null is h = false≢true h
no_region (Endpoint base badge rights) is h = false≢true h
no_region (Untyped base bits free) is h = is
no_region (CNode base radix guard) is h = is
no_region (Tcb base) is h = is

no_node : (cap : Cap) → IsForMessages cap → is_of_kind kind.CNode cap ≡ true → ⊥
no_node Null is h = false≢true h
no_node (Endpoint base badge rights) is h = false≢true h
no_node (Untyped base bits free) is h = is
no_node (CNode base radix guard) is h = is
no_node (Tcb base) is h = is

plain_slot : (cap : Cap) → IsForMessages cap → is_cnode cap ≡ false
plain_slot Null is = refl
plain_slot (Endpoint base badge rights) is = refl
plain_slot (Untyped base bits free) is = absurd is
plain_slot (CNode base radix guard) is = absurd is
plain_slot (Tcb base) is = absurd is

fails : {X : Type 0} (make : X → Invocation) (r : Result X Reason) → ((x : X) → r ≡ Ok x → ⊥) → MayBeMessage (invoking make r)
fails make (Ok x) none = absurd (none x refl)
fails make (Err reason) none = tt

sends : (r : Result Service Reason) (message : Message) (block : Bool) → MayBeMessage (r >>= λ service. Ok (invocation.Send service message block))
sends (Ok service) message block = tt
sends (Err reason) message block = tt

receives : (r : Result Service Reason) (block : Bool) → MayBeMessage (r >>= λ service. Ok (invocation.Receive service block))
receives (Ok service) block = tt
receives (Err reason) block = tt

module _ (p : ProfileName) (f : Forest Entry) (thread slot : ℕ) (is : IsForMessages (cap_at f slot)) where
  no_retype : (asked : RetypeArguments) → MayBeMessage (invoking invocation.Retype (checked_retype p f thread slot asked))
  no_retype asked = fails invocation.Retype (checked_retype p f thread slot asked) (λ new h.
      let first = passed (of_kind kind.Untyped (held_at (cap_at f) slot)) _ new h in
      no_region (cap_at f slot) is (kind_passed kind.Untyped (held_at (cap_at f) slot) first.0 first.1.0).0)

  no_placement : (asked : SlotArguments) (change : Change) → (new : _) → checked_placement p f thread slot asked change ≡ Ok new → ⊥
  no_placement asked change new h =
      let first = passed (of_kind kind.CNode (held_at (cap_at f) slot)) _ new h in
      no_node (cap_at f slot) is (kind_passed kind.CNode (held_at (cap_at f) slot) first.0 first.1.0).0

  no_slot : (index depth target : ℕ) → checked_slot p f slot index depth ≡ Ok target → ⊥
  no_slot index depth target h =
      let first = passed (of_kind kind.CNode (held_at (cap_at f) slot)) _ target h in
      no_node (cap_at f slot) is (kind_passed kind.CNode (held_at (cap_at f) slot) first.0 first.1.0).0

  no_thread : (t : ℕ) → checked_tcb slot (cap_at f slot) ≡ Ok t → ⊥
  no_thread t h = subst IsForMessages (tcb_named slot (cap_at f slot) t h) is

  serves_messages : (o : Op) → MayBeMessage (checked_invocation p f thread o slot)
  serves_messages (op.Retype cap kind size_bits root index depth offset count) = no_retype (objects_asked kind size_bits root index depth offset count)
  serves_messages (op.CapCopy cap index depth src_root src_index src_depth rights) =
      fails invocation.Derive _ (no_placement (slots_named index depth src_root src_index src_depth) (Copy rights))
  serves_messages (op.CapMint cap index depth src_root src_index src_depth rights word) =
      fails invocation.Derive _ (no_placement (slots_named index depth src_root src_index src_depth) (Mint rights word))
  serves_messages (op.CapMove cap index depth src_root src_index src_depth) =
      fails invocation.Move _ (no_placement (slots_named index depth src_root src_index src_depth) Move)
  serves_messages (op.CapMutate cap index depth src_root src_index src_depth word) =
      fails invocation.Move _ (no_placement (slots_named index depth src_root src_index src_depth) (Mutate word))
  serves_messages (op.CapDelete cap index depth) = fails invocation.Delete (checked_slot p f slot index depth) (no_slot index depth)
  serves_messages (op.CapRevoke cap index depth) = fails invocation.Revoke (checked_slot p f slot index depth) (no_slot index depth)
  serves_messages (op.CancelBadged cap index depth) = fails invocation.CancelBadged (checked_badge p f slot index depth) (λ service h.
      let first = passed (checked_slot p f slot index depth) _ service h in no_slot index depth first.0 first.1.0)
  serves_messages (op.Send cap message) = sends (service_in Write slot (cap_at f slot)) message true
  serves_messages (op.NbSend cap message) = sends (service_in Write slot (cap_at f slot)) message false
  serves_messages (op.Recv cap) = receives (service_in Read slot (cap_at f slot)) true
  serves_messages (op.NbRecv cap) = receives (service_in Read slot (cap_at f slot)) false
  serves_messages (op.SetSpace cap root word) = fails invocation.SetSpace (checked_space p f thread slot root word) (λ new h.
      let first = passed (checked_tcb slot (cap_at f slot)) _ new h in no_thread first.0 first.1.0)
  serves_messages (op.Suspend cap) = fails invocation.Suspend (checked_tcb slot (cap_at f slot)) no_thread
  serves_messages (op.Resume cap) = fails invocation.Resume (checked_tcb slot (cap_at f slot)) no_thread

-- ---- a word of such a thread leads to a slot of its own CNode

module _ (p : ProfileName) (f : Forest Entry) (thread : ℕ) (holds : (slot : ℕ) → IsSlotOf p (cap_at f thread) slot → IsForMessages (cap_at f slot)) where
  one_node : (most : ℕ) (bits : List ℕ) (r : Result Choice LookupFault) (found : Found) → ((c : Choice) → r ≡ Ok c → IsSlotOf p (cap_at f thread) c.slot) →
      found_or (cap_at f) (resolution_within p (cap_at f) most) r ≡ Ok found → IsForMessages (cap_at f found.slot)
  one_node most bits (Err fault) found there h = cc
  one_node most bits (Ok c) found there h =
      let is : IsForMessages (cap_at f c.slot) = holds c.slot (there c refl) in
      let plain : is_cnode (cap_at f c.slot) ≡ false = plain_slot (cap_at f c.slot) is in
      let made : Found = record { slot = c.slot; left = length c.left } in
      let ends : ◌≡◌ {A = Result Found LookupFault} (Ok made) (Ok found) =
      sym (ap (λ b. cond (b && not (length c.left == 0)) (resolution_within p (cap_at f) most (cap_at f c.slot) c.left) (Ok made)) plain) ∙ h in
      let same : made ≡ found = cc in
      subst (λ (x : Found). IsForMessages (cap_at f x.slot)) same is

  word_leads : (n slot : ℕ) → slot_named p f (cap_at f thread) n ≡ Ok slot → IsForMessages (cap_at f slot)
  unfolding resolution resolution_within
  word_leads n slot h =
      let bits : List ℕ = low_bits (word_bits p) n in
      let found = named_found (resolution p (cap_at f) (cap_at f thread) bits) slot h in
      subst (λ s. IsForMessages (cap_at f s)) found.1.1
      (one_node (length bits) bits (choice p (cap_at f thread) bits) found.0
      (λ c e. (chosen_slot p (cap_at f thread) bits c (low_bits-below (word_bits p) n) e).0) found.1.0)

  found_serves : (o : Op) (r : Result ℕ Reason) → ((slot : ℕ) → r ≡ Ok slot → IsForMessages (cap_at f slot)) → MayBeMessage (r >>= checked_invocation p f thread o)
  found_serves o (Ok slot) there = serves_messages p f thread slot (there slot refl) o
  found_serves o (Err reason) there = tt

  op_serves : (o : Op) → MayBeMessage (checked_op p f thread o)
  op_serves o =
      found_serves o (slot_by_word p f Invoked thread (service_word o))
      (λ slot h. word_leads (service_word o) slot (word_passed p f Invoked thread (service_word o) slot h))

ready_serves : (state : ThreadState) (found : Result Invocation Reason) → MayBeMessage found → MayBeMessage (ensure_ready state found)
ready_serves Ready found is = is
ready_serves Inactive found is = tt
ready_serves (Sending base) found is = tt
ready_serves (Receiving base) found is = tt

live_serves : (o : Option ThreadView) (found : Result Invocation Reason) → MayBeMessage found → MayBeMessage (ensure_live o found)
live_serves None found is = tt
live_serves (Some thread) found is = ready_serves thread.state found is

refused_serves : (r : Result Invocation Reason) → MayBeMessage r → MayBeMessage (with_refusal r)
refused_serves (Ok done) is = is
refused_serves (Err reason) is = tt

-- ---- a send and a receive change no slot

module _ (p : ProfileName) (A : State) (thread : ℕ) where
  same_where : (awaited : Bool) (accepted : Outcome) (reply : _) → accepted.state.derivations ≡ A.derivations →
      (where_awaited A awaited accepted reply).state.derivations ≡ A.derivations
  same_where true accepted reply same = same
  same_where false accepted reply same = refl

  performed_same : (done : Invocation) → IsMessage done → (performed p A thread done).state.derivations ≡ A.derivations
  performed_same (invocation.Send service message true) is = refl
  performed_same (invocation.Send service message false) is =
      same_where (is_send_awaited A (endpoint_at A service.endpoint)) (send_accepted A thread service message) _ refl
  performed_same (invocation.Receive service true) is = refl
  performed_same (invocation.Receive service false) is =
      same_where (is_receive_awaited A (endpoint_at A service.endpoint)) (receive_accepted A thread service) _ refl
  performed_same (invocation.Retype new) is = absurd is
  performed_same (invocation.Derive placement) is = absurd is
  performed_same (invocation.Move placement) is = absurd is
  performed_same (invocation.Delete slot) is = absurd is
  performed_same (invocation.Revoke slot) is = absurd is
  performed_same (invocation.CancelBadged service) is = absurd is
  performed_same (invocation.SetSpace new) is = absurd is
  performed_same (invocation.Suspend tcb) is = absurd is
  performed_same (invocation.Resume tcb) is = absurd is

  outcome_same : (r : Result Invocation Refusal) → MayBeMessage r → (outcome p A thread r).state.derivations ≡ A.derivations
  outcome_same (Err refusal) is = refl
  outcome_same (Ok done) is = performed_same done is

module _ (p : ProfileName) (parts : Parts) where
  step_same : (A : State) (call : Call) (i : ℕ) → parts.part_of call.thread ≡ Some i → PassesAlone p parts i A.derivations →
      (step p A call).state.derivations ≡ A.derivations
  unfolding step shown
  step_same A call i own passes =
      outcome_same p A call.thread (decoded_call p (shown A) call)
      (refused_serves (checked_call p (shown A) call)
      (live_serves (get (shown A).threads call.thread) (checked_op p A.derivations call.thread call.op)
      (op_serves p A.derivations call.thread (λ slot there. passes call.thread slot own there) call.op)))

  abbrev IsOfPassing : Forest Entry → Call → Type 0
  IsOfPassing f call = (i : ℕ) × ((parts.part_of call.thread ≡ Some i) × PassesAlone p parts i f)

  run_same : (A : State) (calls : List Call) → Each (IsOfPassing A.derivations) calls → (state_after p A calls).derivations ≡ A.derivations
  unfolding state_after
  run_same A [] of = refl
  run_same A (call ∷ calls) of =
      let same = step_same A call of.0.0 of.0.1.0 of.0.1.1 in
      run_same (step p A call).state calls (subst (λ f. Each (IsOfPassing f) calls) (sym same) of.1) ∙ same

  pub no_slot_changes : (A : State) (calls : List Call) → ChangesNoSlot p parts A calls
  unfolding shown
  no_slot_changes A calls of =
      run_same A calls (each-weaker (IsOfStillPart p parts (shown A)) (IsOfPassing A.derivations) (λ call is. (is.0, (is.1.0, is.1.1.passes))) calls of)
