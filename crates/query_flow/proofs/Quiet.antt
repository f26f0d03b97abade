-- A thread whose words lead to no CNode changes no slot by its calls.
use Rattle.std.proofs.Common.{◌≡◌, ℕ, Bool, true, false, cond, ◌==◌, Result, Ok, Err, refl, sym, subst}
use Rattle.std.specs.Bool.{⊤}
use Rattle.cap_core.specs.declared.profile.ProfileName.{ProfileName}
use Rattle.cap_core.specs.declared.capability.Cap.{Cap}
use Rattle.cap_core.specs.declared.capability.Cap.TheVariants.{Null, Untyped, Endpoint, CNode, Tcb}
use Rattle.cap_core.specs.declared.capability.Kind.TheVariants as kind
use Rattle.cap_core.specs.declared.refusal.Refusal.{Refusal}
use Rattle.kernel_forest.specs.Forest.{Forest}
use Rattle.kernel_forest.specs.Entries.{Entry, cap_at}
use Rattle.cspace_core.specs.Resolution.{is_cnode}
use Rattle.kernel_abstract.specs.declared.call.Call.{Call}
use Rattle.kernel_abstract.specs.declared.call.Op.{Op}
use Rattle.kernel_abstract.specs.declared.call.Op.TheVariants as op
use Rattle.kernel_abstract.specs.declared.call.Reply.{Reply}
use Rattle.kernel_abstract.specs.declared.invocation.Change.{Change}
use Rattle.kernel_abstract.specs.declared.invocation.Change.TheVariants.{Copy, Mint, Move, Mutate}
use Rattle.kernel_abstract.specs.declared.invocation.SlotArguments.{SlotArguments}
use Rattle.kernel_abstract.specs.declared.invocation.RetypeArguments.{RetypeArguments}
use Rattle.kernel_abstract.specs.declared.invocation.CapPlacement.{CapPlacement}
use Rattle.kernel_abstract.specs.declared.invocation.NewObjects.{NewObjects}
use Rattle.kernel_abstract.specs.declared.invocation.NewSpace.{NewSpace}
use Rattle.kernel_abstract.specs.declared.invocation.Invocation.{Invocation}
use Rattle.kernel_abstract.specs.declared.invocation.Invocation.TheVariants as invocation
use Rattle.kernel_abstract.specs.declared.reason.Word.{Word}
use Rattle.kernel_abstract.specs.declared.reason.Word.TheVariants.{Invoked, Root, Index}
use Rattle.kernel_abstract.specs.Reasons.{held_at}
use Rattle.kernel_abstract.specs.Lookups.{of_kind, slot_by_word, slot_by_index}
use Rattle.kernel_abstract.specs.CNodes.{checked_placement}
use Rattle.kernel_abstract.specs.Deletion.{checked_slot}
use Rattle.kernel_abstract.specs.Threads.{checked_tcb, space_cap, checked_space}
use Rattle.kernel_abstract.specs.Retyping.{checked_shape, node_slot, node_word, first_slot, checked_retype}
use Rattle.kernel_abstract.specs.Decode.{objects_asked, slots_named, service_word, checked_invocation, checked_op, decoded_call}
use Rattle.kernel_abstract.specs.State.{State, shown, endpoint_at}
use Rattle.kernel_abstract.specs.Step.{Outcome, outcome, performed, where_awaited, is_send_awaited, is_receive_awaited, send_accepted, receive_accepted, step}
use Rattle.kernel_abstract.proofs.Checks.FoundSlots.{passed, made_passed, cond_passed, ok_same, kind_passed}
use Rattle.kernel_abstract.proofs.Checks.PassedInvocations.{call_passed}
use Rattle.query_flow.proofs.Made.{made_space}

-- it changes no slot
abbrev IsQuiet : Invocation → Type 0
IsQuiet (invocation.Send service message block) = ⊤
IsQuiet (invocation.Receive service block) = ⊤
IsQuiet (invocation.Suspend tcb) = ⊤
IsQuiet (invocation.Resume tcb) = ⊤
IsQuiet done = ⊥

-- what a retype fills is a CNode's
first_node : (p : ProfileName) (f : Forest Entry) (word : Word) (offset count slot first : ℕ) (node : Cap) → first_slot p f word offset count slot node ≡ Ok first → is_cnode node ≡ true
first_node p f word offset count slot first (CNode base radix guard) h = refl
first_node p f word offset count slot first Null h = cc
first_node p f word offset count slot first (Untyped base bits free) h = cc
first_node p f word offset count slot first (Endpoint base badge rights) h = cc
first_node p f word offset count slot first (Tcb base) h = cc

module _ (p : ProfileName) (f : Forest Entry) (thread : ℕ)
    (plain : (word : Word) (n slot : ℕ) → slot_by_word p f word thread n ≡ Ok slot → is_cnode (cap_at f slot) ≡ true → ⊥) where
  not_by_index : (word : Word) (n root index depth slot : ℕ) → slot_by_word p f word thread n ≡ Ok root → slot_by_index p (cap_at f) Index root index depth ≡ Ok slot → ⊥
  not_by_index word n root index depth slot at h = plain word n root at (cond_passed (is_cnode (cap_at f root)) _ _ slot h).0

  not_filled : (n root index depth node : ℕ) (t : Bool) → slot_by_word p f Root thread n ≡ Ok root →
      cond t (Ok root) (slot_by_index p (cap_at f) Index root index depth) ≡ Ok node → is_cnode (cap_at f node) ≡ true → ⊥
  not_filled n root index depth node true at h is = plain Root n root at (subst (λ m. is_cnode (cap_at f m) ≡ true) (sym (ok_same root node h)) is)
  not_filled n root index depth node false at h is = not_by_index Root n root index depth node at h

  no_retype : (slot : ℕ) (asked : RetypeArguments) (new : NewObjects) → checked_retype p f thread slot asked ≡ Ok new → ⊥
  no_retype slot asked new h =
      let untyped = passed (of_kind kind.Untyped (held_at (cap_at f) slot)) _ new h in
      let root = passed (slot_by_word p f Root thread asked.root) _ new untyped.1.1 in
      let shape = passed (checked_shape p asked.kind asked.size_bits) _ new root.1.1 in
      let node = passed (node_slot p f root.0 asked.index asked.depth) _ new shape.1.1 in
      let first = passed (first_slot p f (node_word asked.depth) asked.offset asked.count node.0 (cap_at f node.0)) _ new node.1.1 in
      not_filled asked.root root.0 asked.index asked.depth node.0 (asked.depth == 0) root.1.0 node.1.0
      (first_node p f (node_word asked.depth) asked.offset asked.count node.0 first.0 (cap_at f node.0) first.1.0)

  no_space : (slot root word : ℕ) (new : NewSpace) → checked_space p f thread slot root word ≡ Ok new → ⊥
  no_space slot root word new h =
      let tcb = passed (checked_tcb slot (cap_at f slot)) _ new h in
      let source = passed (slot_by_word p f Root thread root) _ new tcb.1.1 in
      let cap = passed (space_cap p word source.0 (cap_at f source.0)) _ new source.1.1 in
      plain Root root source.0 source.1.0 (made_space p word source.0 (cap_at f source.0) cap.0 cap.1.0).0

  module _ (n slot : ℕ) (at : slot_by_word p f Invoked thread n ≡ Ok slot) where
    not_node : (node : Cap) → of_kind kind.CNode (held_at (cap_at f) slot) ≡ Ok node → ⊥
    not_node node h = plain Invoked n slot at (kind_passed kind.CNode (held_at (cap_at f) slot) node h).0

    no_placement : (asked : SlotArguments) (change : Change) (new : CapPlacement) → checked_placement p f thread slot asked change ≡ Ok new → ⊥
    no_placement asked change new h = let first = passed (of_kind kind.CNode (held_at (cap_at f) slot)) _ new h in not_node first.0 first.1.0

    no_slot : (index depth target : ℕ) → checked_slot p f slot index depth ≡ Ok target → ⊥
    no_slot index depth target h = let first = passed (of_kind kind.CNode (held_at (cap_at f) slot)) _ target h in not_node first.0 first.1.0

    quiet_in : (o : Op) (done : Invocation) → checked_invocation p f thread o slot ≡ Ok done → IsQuiet done
    quiet_in (op.Retype cap kind size_bits root index depth offset count) done h =
        made_passed IsQuiet invocation.Retype _ done (λ new is. no_retype slot (objects_asked kind size_bits root index depth offset count) new is) h
    quiet_in (op.CapCopy cap index depth src_root src_index src_depth rights) done h =
        made_passed IsQuiet invocation.Derive _ done (λ new is. no_placement (slots_named index depth src_root src_index src_depth) (Copy rights) new is) h
    quiet_in (op.CapMint cap index depth src_root src_index src_depth rights word) done h =
        made_passed IsQuiet invocation.Derive _ done (λ new is. no_placement (slots_named index depth src_root src_index src_depth) (Mint rights word) new is) h
    quiet_in (op.CapMove cap index depth src_root src_index src_depth) done h =
        made_passed IsQuiet invocation.Move _ done (λ new is. no_placement (slots_named index depth src_root src_index src_depth) Move new is) h
    quiet_in (op.CapMutate cap index depth src_root src_index src_depth word) done h =
        made_passed IsQuiet invocation.Move _ done (λ new is. no_placement (slots_named index depth src_root src_index src_depth) (Mutate word) new is) h
    quiet_in (op.CapDelete cap index depth) done h = made_passed IsQuiet invocation.Delete _ done (λ target is. no_slot index depth target is) h
    quiet_in (op.CapRevoke cap index depth) done h = made_passed IsQuiet invocation.Revoke _ done (λ target is. no_slot index depth target is) h
    quiet_in (op.CancelBadged cap index depth) done h =
        made_passed IsQuiet invocation.CancelBadged _ done
        (λ service is. let first = passed (checked_slot p f slot index depth) _ service is in no_slot index depth first.0 first.1.0) h
    quiet_in (op.Send cap message) done h = made_passed IsQuiet (λ service. invocation.Send service message true) _ done (λ service is. tt) h
    quiet_in (op.NbSend cap message) done h = made_passed IsQuiet (λ service. invocation.Send service message false) _ done (λ service is. tt) h
    quiet_in (op.Recv cap) done h = made_passed IsQuiet (λ service. invocation.Receive service true) _ done (λ service is. tt) h
    quiet_in (op.NbRecv cap) done h = made_passed IsQuiet (λ service. invocation.Receive service false) _ done (λ service is. tt) h
    quiet_in (op.SetSpace cap root word) done h = made_passed IsQuiet invocation.SetSpace _ done (λ new is. no_space slot root word new is) h
    quiet_in (op.Suspend cap) done h = made_passed IsQuiet invocation.Suspend _ done (λ tcb is. tt) h
    quiet_in (op.Resume cap) done h = made_passed IsQuiet invocation.Resume _ done (λ tcb is. tt) h

  op_quiet : (o : Op) (done : Invocation) → checked_op p f thread o ≡ Ok done → IsQuiet done
  op_quiet o done h =
      let slot = passed (slot_by_word p f Invoked thread (service_word o)) (checked_invocation p f thread o) done h in
      quiet_in (service_word o) slot.0 slot.1.0 o done slot.1.1

module _ (p : ProfileName) (A : State) where
  same_where : (awaited : Bool) (accepted : Outcome) (reply : Reply) → accepted.state.derivations ≡ A.derivations →
      (where_awaited A awaited accepted reply).state.derivations ≡ A.derivations
  same_where true accepted reply same = same
  same_where false accepted reply same = refl

  performed_same : (thread : ℕ) (done : Invocation) → IsQuiet done → (performed p A thread done).state.derivations ≡ A.derivations
  performed_same thread (invocation.Send service message true) is = refl
  performed_same thread (invocation.Send service message false) is =
      same_where (is_send_awaited A (endpoint_at A service.endpoint)) (send_accepted A thread service message) _ refl
  performed_same thread (invocation.Receive service true) is = refl
  performed_same thread (invocation.Receive service false) is =
      same_where (is_receive_awaited A (endpoint_at A service.endpoint)) (receive_accepted A thread service) _ refl
  performed_same thread (invocation.Retype new) is = absurd is
  performed_same thread (invocation.Derive placement) is = absurd is
  performed_same thread (invocation.Move placement) is = absurd is
  performed_same thread (invocation.Delete slot) is = absurd is
  performed_same thread (invocation.Revoke slot) is = absurd is
  performed_same thread (invocation.CancelBadged service) is = absurd is
  performed_same thread (invocation.SetSpace new) is = absurd is
  performed_same thread (invocation.Suspend tcb) is = refl
  performed_same thread (invocation.Resume tcb) is = refl

  outcome_same : (thread : ℕ) (r : Result Invocation Refusal) → ((done : Invocation) → r ≡ Ok done → IsQuiet done) → (outcome p A thread r).state.derivations ≡ A.derivations
  outcome_same thread (Err refusal) is = refl
  outcome_same thread (Ok done) is = performed_same thread done (is done refl)

  pub quiet_step : (call : Call) → ((word : Word) (n slot : ℕ) → slot_by_word p A.derivations word call.thread n ≡ Ok slot → is_cnode (cap_at A.derivations slot) ≡ true → ⊥) →
      (step p A call).state.derivations ≡ A.derivations
  unfolding step shown
  quiet_step call plain =
      outcome_same call.thread (decoded_call p (shown A) call)
      (λ done h. op_quiet p A.derivations call.thread plain call.op done (call_passed p (shown A) call done h))
