-- Parts that only pass messages: their calls change no slot, and what they send they send by what their slots hold.
use Rattle.std.proofs.Common.{◌≡◌, ℕ, ◌⊎◌, inl, inr, Bool, true, false, cond, not, ◌==◌, ◌&&◌, List, [], ◌∷◌, length, Some, None, Result, Ok, Err, refl, sym, ap, subst, ◌∙◌, eq-eqb}
use Rattle.std.specs.Bool.{⊤}
use Rattle.std.specs.List.{AllByRecursion as Each}
use Rattle.std.proofs.lemmas.Bool.{eqb-true, false≢true}
use Rattle.cap_core.specs.declared.profile.ProfileName.{ProfileName}
use Rattle.cap_core.specs.declared.capability.Badge.{Badge}
use Rattle.cap_core.specs.declared.capability.Cap.{Cap}
use Rattle.cap_core.specs.declared.capability.Cap.TheVariants.{Null, Untyped, Endpoint, CNode, Tcb}
use Rattle.cap_core.specs.declared.capability.Kind.TheVariants as kind
use Rattle.cap_core.specs.declared.refusal.Refusal.{Refusal}
use Rattle.cap_core.specs.declared.refusal.LookupFault.{LookupFault}
use Rattle.cap_core.specs.declared.rights.Rights.{Rights}
use Rattle.cap_core.specs.Checks.{◌>>=◌}
use Rattle.cap_core.specs.Numbers.{word_bits}
use Rattle.cap_core.specs.Rights.{write_bit}
use Rattle.cspace_core.specs.Bits.{low_bits}
use Rattle.cspace_core.specs.Inside.{IsSlotOf}
use Rattle.cspace_core.specs.Resolution.{Choice, Found, is_cnode, choice, found_or, resolution_within, resolution}
use Rattle.cspace_core.proofs.Inside.{low_bits-below}
use Rattle.std.specs.Int.Digits.{AllBelowBase}
use Rattle.ipc_core.specs.Records.{SendRecord}
use Rattle.kernel_forest.specs.Forest.{Forest}
use Rattle.kernel_forest.specs.Entries.{Entry, cap_at}
use Rattle.kernel_abstract.specs.declared.call.Call.{Call}
use Rattle.kernel_abstract.specs.declared.call.Op.{Op}
use Rattle.kernel_abstract.specs.declared.call.Op.TheVariants as op
use Rattle.kernel_abstract.specs.declared.call.Reply.{Reply}
use Rattle.kernel_abstract.specs.declared.invocation.Service.{Service}
use Rattle.kernel_abstract.specs.declared.invocation.Invocation.{Invocation}
use Rattle.kernel_abstract.specs.declared.invocation.Invocation.TheVariants as invocation
use Rattle.kernel_abstract.specs.declared.reason.Word.TheVariants.{Invoked}
use Rattle.kernel_abstract.specs.declared.reason.Right.TheVariants.{Write}
use Rattle.kernel_abstract.specs.declared.reason.Reason.{Reason}
use Rattle.kernel_abstract.specs.Lookups.{slot_by_word, of_kind}
use Rattle.kernel_abstract.specs.Deletion.{checked_slot}
use Rattle.kernel_abstract.specs.Threads.{checked_tcb}
use Rattle.kernel_abstract.specs.Decode.{service_word, has_right, service_in, checked_invocation, checked_op, decoded_call}
use Rattle.kernel_abstract.specs.State.{State, shown, endpoint_at}
use Rattle.kernel_abstract.specs.Step.{Outcome, outcome, performed, where_awaited, is_send_awaited, is_receive_awaited, send_accepted, receive_accepted, send_record, step, state_after}
use Rattle.kernel_abstract.specs.Reached.{IsReached}
use Rattle.kernel_abstract.proofs.Checks.Walked.{word_passed}
use Rattle.kernel_abstract.proofs.Checks.PassedInvocations.{call_passed}
use Rattle.kernel_abstract.proofs.Checks.FoundSlots.{passed, made_passed, cond_passed, ok_same}
use Rattle.kernel_abstract.proofs.Reached.Runs.{reached_after}
use Rattle.query_parts.specs.Parts.{Parts, IsClosed}
use Rattle.query_parts.specs.Laws.{AreClosed, IsAllowed}
use Rattle.query_parts.specs.Passing.{IsForMessages, PassesAlone, AtMostLoses, GetsNothing, IsSentByHeld, SendsByHeld}
use Rattle.query_parts.proofs.Within.{slot_owned}
use Rattle.query_parts.proofs.Found.{chosen_slot, named_found, invoked_owned}
use Rattle.query_parts.proofs.Messages.{IsMessage, MayBeMessage, call_passes}
use Rattle.query_parts.proofs.Runs.{More, no_more, one_more, then_more, some_is, leaves_others, step_allowed}

-- ---- what an endpoint's capability serves

no_untyped : (slot : ℕ) (cap found : Cap) → IsForMessages cap → of_kind kind.Untyped (record { slot = slot; cap = cap }) ≡ Ok found → ⊥
no_untyped slot Null found is h = cc
no_untyped slot (Untyped base bits free) found is h = is
no_untyped slot (Endpoint base badge rights) found is h = cc
no_untyped slot (CNode base radix guard) found is h = is
no_untyped slot (Tcb base) found is h = is

no_node : (slot : ℕ) (cap found : Cap) → IsForMessages cap → of_kind kind.CNode (record { slot = slot; cap = cap }) ≡ Ok found → ⊥
no_node slot Null found is h = cc
no_node slot (Untyped base bits free) found is h = is
no_node slot (Endpoint base badge rights) found is h = cc
no_node slot (CNode base radix guard) found is h = is
no_node slot (Tcb base) found is h = is

no_tcb : (slot : ℕ) (cap : Cap) (base : ℕ) → IsForMessages cap → checked_tcb slot cap ≡ Ok base → ⊥
no_tcb slot Null found is h = cc
no_tcb slot (Untyped base bits free) found is h = is
no_tcb slot (Endpoint base badge rights) found is h = cc
no_tcb slot (CNode base radix guard) found is h = is
no_tcb slot (Tcb base) found is h = is

no_cnode : (cap : Cap) → IsForMessages cap → is_cnode cap ≡ false
no_cnode Null is = refl
no_cnode (Untyped base bits free) is = absurd is
no_cnode (Endpoint base badge rights) is = refl
no_cnode (CNode base radix guard) is = absurd is
no_cnode (Tcb base) is = absurd is

-- a slot of a part holds a capability to an endpoint with this badge and Write
abbrev HeldIn : Parts → ℕ → Forest Entry → ℕ → Badge → Type 0
HeldIn parts i f endpoint badge =
    (slot : ℕ) × ((rights : Rights) × ((parts.part_of slot ≡ Some i) × ((cap_at f slot ≡ Endpoint endpoint badge rights) × (has_right write_bit rights ≡ true))))

served : (slot : ℕ) (cap : Cap) (service : Service) → service_in Write slot cap ≡ Ok service →
    (rights : Rights) × ((cap ≡ Endpoint service.endpoint service.badge rights) × (has_right write_bit rights ≡ true))
served slot Null service h = cc
served slot (Untyped base bits free) service h = cc
served slot (Endpoint base badge rights) service h =
    let may = cond_passed (has_right write_bit rights) _ _ service h in
    subst (λ (s : Service). (r : Rights) × ((Endpoint base badge rights ≡ Endpoint s.endpoint s.badge r) × (has_right write_bit r ≡ true))) (ok_same _ service may.1)
    (rights, (refl, may.0))
served slot (CNode base radix guard) service h = cc
served slot (Tcb base) service h = cc

module _ (p : ProfileName) (parts : Parts) (i : ℕ) (f : Forest Entry) (closed : IsClosed p parts i f) (alone : PassesAlone p parts i f) where
  -- a send by what a slot of the part holds, or a receive
  abbrev Serves : Invocation → Type 0
  Serves (invocation.Send service message block) = HeldIn parts i f service.endpoint service.badge
  Serves (invocation.Receive service block) = ⊤
  Serves done = ⊥

  module _ (thread : ℕ) (own : parts.part_of thread ≡ Some i) where
    -- what a word leads to is one of the slots of the thread's CNode: none of these holds another CNode
    one_node : (there : Cap → List ℕ → Result Found LookupFault) (bits : List ℕ) (found : Found) (r : Result Choice LookupFault) → AllBelowBase 2 bits →
        choice p (cap_at f thread) bits ≡ r → found_or (cap_at f) there r ≡ Ok found → IsSlotOf p (cap_at f thread) found.slot
    one_node there bits found (Err fault) h is e = cc
    one_node there bits found (Ok c) h is e =
        let here = (chosen_slot p (cap_at f thread) bits c h is).0 in
        let none = no_cnode (cap_at f c.slot) (alone thread c.slot own here) in
        let same : Ok (record { slot = c.slot; left = length c.left }) ≡ Ok found =
        sym (ap (λ b. cond (b && not (length c.left == 0)) (there (cap_at f c.slot) c.left) (Ok (record { slot = c.slot; left = length c.left }))) none) ∙ e in
        subst (λ (x : Found). IsSlotOf p (cap_at f thread) x.slot) (ok_same _ found same) here

    of_node : (bits : List ℕ) (found : Found) → AllBelowBase 2 bits → resolution p (cap_at f) (cap_at f thread) bits ≡ Ok found → IsSlotOf p (cap_at f thread) found.slot
    unfolding resolution resolution_within
    of_node bits found h e = one_node (resolution_within p (cap_at f) (length bits)) bits found (choice p (cap_at f thread) bits) h refl e

    led : (word slot : ℕ) → slot_by_word p f Invoked thread word ≡ Ok slot → (parts.part_of slot ≡ Some i) × IsForMessages (cap_at f slot)
    led word slot h =
        let named = word_passed p f Invoked thread word slot h in
        let found = named_found (resolution p (cap_at f) (cap_at f thread) (low_bits (word_bits p) word)) slot named in
        let there = subst (λ n. IsSlotOf p (cap_at f thread) n) found.1.1 (of_node (low_bits (word_bits p) word) found.0 (low_bits-below (word_bits p) word) found.1.0) in
        (invoked_owned p parts i f closed thread word slot own named, alone thread slot own there)

    node_none : {Y : Type 0} (slot : ℕ) (next : Cap → Result Y Reason) (y : Y) → IsForMessages (cap_at f slot) →
        (of_kind kind.CNode (record { slot = slot; cap = cap_at f slot }) >>= next) ≡ Ok y → ⊥
    node_none slot next y is h = let node = passed (of_kind kind.CNode (record { slot = slot; cap = cap_at f slot })) next y h in no_node slot (cap_at f slot) node.0 is node.1.0

    send_held : (slot : ℕ) (service : Service) → parts.part_of slot ≡ Some i → service_in Write slot (cap_at f slot) ≡ Ok service → HeldIn parts i f service.endpoint service.badge
    send_held slot service here h = let s = served slot (cap_at f slot) service h in (slot, (s.0, (here, (s.1.0, s.1.1))))

    serves : (o : Op) (slot : ℕ) (done : Invocation) → parts.part_of slot ≡ Some i → IsForMessages (cap_at f slot) → checked_invocation p f thread o slot ≡ Ok done → Serves done
    serves (op.Retype cap k size_bits root index depth offset count) slot done here is h =
        made_passed Serves invocation.Retype _ done
        (λ new e. let untyped = passed (of_kind kind.Untyped (record { slot = slot; cap = cap_at f slot })) _ new e in no_untyped slot (cap_at f slot) untyped.0 is untyped.1.0) h
    serves (op.CapCopy cap index depth src_root src_index src_depth rights) slot done here is h =
        made_passed Serves invocation.Derive _ done (λ placement e. node_none slot _ placement is e) h
    serves (op.CapMint cap index depth src_root src_index src_depth rights word) slot done here is h =
        made_passed Serves invocation.Derive _ done (λ placement e. node_none slot _ placement is e) h
    serves (op.CapMove cap index depth src_root src_index src_depth) slot done here is h =
        made_passed Serves invocation.Move _ done (λ placement e. node_none slot _ placement is e) h
    serves (op.CapMutate cap index depth src_root src_index src_depth word) slot done here is h =
        made_passed Serves invocation.Move _ done (λ placement e. node_none slot _ placement is e) h
    serves (op.CapDelete cap index depth) slot done here is h =
        made_passed Serves invocation.Delete _ done (λ target e. node_none slot _ target is e) h
    serves (op.CapRevoke cap index depth) slot done here is h =
        made_passed Serves invocation.Revoke _ done (λ target e. node_none slot _ target is e) h
    serves (op.CancelBadged cap index depth) slot done here is h =
        made_passed Serves invocation.CancelBadged _ done
        (λ service e. let target = passed (checked_slot p f slot index depth) _ service e in node_none slot _ target.0 is target.1.0) h
    serves (op.Send cap message) slot done here is h =
        made_passed Serves (λ service. invocation.Send service message true) _ done (λ service e. send_held slot service here e) h
    serves (op.NbSend cap message) slot done here is h =
        made_passed Serves (λ service. invocation.Send service message false) _ done (λ service e. send_held slot service here e) h
    serves (op.Recv cap) slot done here is h = made_passed Serves (λ service. invocation.Receive service true) _ done (λ service e. tt) h
    serves (op.NbRecv cap) slot done here is h = made_passed Serves (λ service. invocation.Receive service false) _ done (λ service e. tt) h
    serves (op.SetSpace cap root word) slot done here is h =
        made_passed Serves invocation.SetSpace _ done
        (λ new e. let tcb = passed (checked_tcb slot (cap_at f slot)) _ new e in no_tcb slot (cap_at f slot) tcb.0 is tcb.1.0) h
    serves (op.Suspend cap) slot done here is h = made_passed Serves invocation.Suspend _ done (λ tcb e. no_tcb slot (cap_at f slot) tcb is e) h
    serves (op.Resume cap) slot done here is h = made_passed Serves invocation.Resume _ done (λ tcb e. no_tcb slot (cap_at f slot) tcb is e) h

    op_serves : (o : Op) (done : Invocation) → checked_op p f thread o ≡ Ok done → Serves done
    op_serves o done h =
        let slot = passed (slot_by_word p f Invoked thread (service_word o)) (checked_invocation p f thread o) done h in
        let there = led (service_word o) slot.0 slot.1.0 in
        serves o slot.0 done there.0 there.1 slot.1.1

-- ---- what a call adds to the sends, and that messages change no slot

module _ (p : ProfileName) (P : SendRecord → Type 0) (A : State) (thread : ℕ) where
  abbrev Sends : Invocation → Type 0
  Sends (invocation.Send service message block) = P (send_record A thread service message)
  Sends done = ⊤

  sends_where : (awaited : Bool) (accepted : Outcome) (reply : Reply) → More P A.sends accepted.state.sends →
      More P A.sends (where_awaited A awaited accepted reply).state.sends
  sends_where true accepted reply more = more
  sends_where false accepted reply more = no_more P A.sends

  performed_sends : (done : Invocation) → Sends done → More P A.sends (performed p A thread done).state.sends
  performed_sends (invocation.Send service message true) is = one_more P A.sends (send_record A thread service message) is
  performed_sends (invocation.Send service message false) is =
      sends_where (is_send_awaited A (endpoint_at A service.endpoint)) (send_accepted A thread service message) _
      (one_more P A.sends (send_record A thread service message) is)
  performed_sends (invocation.Receive service true) is = no_more P A.sends
  performed_sends (invocation.Receive service false) is =
      sends_where (is_receive_awaited A (endpoint_at A service.endpoint)) (receive_accepted A thread service) _ (no_more P A.sends)
  performed_sends (invocation.Retype new) is = no_more P A.sends
  performed_sends (invocation.Derive placement) is = no_more P A.sends
  performed_sends (invocation.Move placement) is = no_more P A.sends
  performed_sends (invocation.Delete slot) is = no_more P A.sends
  performed_sends (invocation.Revoke slot) is = no_more P A.sends
  performed_sends (invocation.CancelBadged service) is = no_more P A.sends
  performed_sends (invocation.SetSpace new) is = no_more P A.sends
  performed_sends (invocation.Suspend tcb) is = no_more P A.sends
  performed_sends (invocation.Resume tcb) is = no_more P A.sends

module _ (p : ProfileName) (A : State) (thread : ℕ) where
  same_where : (awaited : Bool) (accepted : Outcome) (reply : Reply) → accepted.state.derivations ≡ A.derivations →
      (where_awaited A awaited accepted reply).state.derivations ≡ A.derivations
  same_where true accepted reply same = same
  same_where false accepted reply same = refl

  pub performed_same : (done : Invocation) → IsMessage done → (performed p A thread done).state.derivations ≡ A.derivations
  performed_same (invocation.Send service message true) is = refl
  performed_same (invocation.Send service message false) is =
      same_where (is_send_awaited A (endpoint_at A service.endpoint)) (send_accepted A thread service message) _ refl
  performed_same (invocation.Receive service true) is = refl
  performed_same (invocation.Receive service false) is =
      same_where (is_receive_awaited A (endpoint_at A service.endpoint)) (receive_accepted A thread service) _ refl
  performed_same (invocation.Retype new) is = absurd is
  performed_same (invocation.Derive placement) is = absurd is
  performed_same (invocation.Move placement) is = absurd is
  performed_same (invocation.Delete slot) is = absurd is
  performed_same (invocation.Revoke slot) is = absurd is
  performed_same (invocation.CancelBadged service) is = absurd is
  performed_same (invocation.SetSpace new) is = absurd is
  performed_same (invocation.Suspend tcb) is = absurd is
  performed_same (invocation.Resume tcb) is = absurd is

  pub outcome_same : (r : Result Invocation Refusal) → MayBeMessage r → (outcome p A thread r).state.derivations ≡ A.derivations
  outcome_same (Err refusal) is = refl
  outcome_same (Ok done) is = performed_same done is

-- ---- runs

module _ (p : ProfileName) (parts : Parts) (i : ℕ) (A : State) where
  -- what holds after some calls
  record IsPassing (B : State) : Type 0 where
    closed : AreClosed p parts B
    alone : PassesAlone p parts i B.derivations
    loses : AtMostLoses parts i A.derivations B.derivations
    sends : More (IsSentByHeld parts i A) A.sends B.sends

  -- what one call comes to
  record IsStep (B C : State) : Type 0 where
    loses : AtMostLoses parts i B.derivations C.derivations
    sends : More (IsSentByHeld parts i A) B.sends C.sends

  module _ (B : State) (sofar : IsPassing B) where
    -- what a slot of the part holds now it held in the beginning
    held_first : (endpoint : ℕ) (badge : Badge) → HeldIn parts i B.derivations endpoint badge → HeldIn parts i A.derivations endpoint badge
    held_first endpoint badge (slot, (rights, (here, (holds, may)))) = (slot, (rights, (here, (by (sofar.loses slot here), may))))
      where
        by : (cap_at B.derivations slot ≡ cap_at A.derivations slot) ⊎ (cap_at B.derivations slot ≡ Null) → cap_at A.derivations slot ≡ Endpoint endpoint badge rights
        by (inl same) = sym same ∙ holds
        by (inr none) = let e : Null ≡ Endpoint endpoint badge rights = sym none ∙ holds in cc

    same_loses : (g : Forest Entry) → g ≡ B.derivations → AtMostLoses parts i B.derivations g
    same_loses g same slot here = inl (ap (λ (f : Forest Entry). cap_at f slot) same)

    as_it_is : IsStep B B
    as_it_is = record { loses = same_loses B.derivations refl; sends = no_more (IsSentByHeld parts i A) B.sends }

    message_of : (done : Invocation) → Serves p parts i B.derivations (sofar.closed i) sofar.alone done → IsMessage done
    message_of (invocation.Send service message block) is = tt
    message_of (invocation.Receive service block) is = tt
    message_of (invocation.Retype new) is = is
    message_of (invocation.Derive placement) is = is
    message_of (invocation.Move placement) is = is
    message_of (invocation.Delete slot) is = is
    message_of (invocation.Revoke slot) is = is
    message_of (invocation.CancelBadged service) is = is
    message_of (invocation.SetSpace new) is = is
    message_of (invocation.Suspend tcb) is = is
    message_of (invocation.Resume tcb) is = is

    sends_of : (thread : ℕ) (done : Invocation) → Serves p parts i B.derivations (sofar.closed i) sofar.alone done → Sends p (IsSentByHeld parts i A) B thread done
    sends_of thread (invocation.Send service message block) is = λ at. held_first service.endpoint service.badge is
    sends_of thread (invocation.Receive service block) is = tt
    sends_of thread (invocation.Retype new) is = tt
    sends_of thread (invocation.Derive placement) is = tt
    sends_of thread (invocation.Move placement) is = tt
    sends_of thread (invocation.Delete slot) is = tt
    sends_of thread (invocation.Revoke slot) is = tt
    sends_of thread (invocation.CancelBadged service) is = tt
    sends_of thread (invocation.SetSpace new) is = tt
    sends_of thread (invocation.Suspend tcb) is = tt
    sends_of thread (invocation.Resume tcb) is = tt

    -- a thread of another part, or of none, sends for another
    others_send : (thread : ℕ) → (parts.part_of thread ≡ Some i → ⊥) → (done : Invocation) → Sends p (IsSentByHeld parts i A) B thread done
    others_send thread other (invocation.Send service message block) = λ at. absurd (other at)
    others_send thread other (invocation.Receive service block) = tt
    others_send thread other (invocation.Retype new) = tt
    others_send thread other (invocation.Derive placement) = tt
    others_send thread other (invocation.Move placement) = tt
    others_send thread other (invocation.Delete slot) = tt
    others_send thread other (invocation.Revoke slot) = tt
    others_send thread other (invocation.CancelBadged service) = tt
    others_send thread other (invocation.SetSpace new) = tt
    others_send thread other (invocation.Suspend tcb) = tt
    others_send thread other (invocation.Resume tcb) = tt

    own_outcome : (call : Call) (r : Result Invocation Refusal) → parts.part_of call.thread ≡ Some i → decoded_call p (shown B) call ≡ r →
        IsStep B (outcome p B call.thread r).state
    unfolding shown
    own_outcome call (Err refusal) own h = record { loses = as_it_is.loses; sends = as_it_is.sends }
    own_outcome call (Ok done) own h =
        let is = op_serves p parts i B.derivations (sofar.closed i) sofar.alone call.thread own call.op done (call_passed p (shown B) call done h) in
        record {
          loses = same_loses (performed p B call.thread done).state.derivations (performed_same p B call.thread done (message_of done is));
          sends = performed_sends p (IsSentByHeld parts i A) B call.thread done (sends_of call.thread done is);
        }

    other_sends : (thread : ℕ) (r : Result Invocation Refusal) → (parts.part_of thread ≡ Some i → ⊥) → More (IsSentByHeld parts i A) B.sends (outcome p B thread r).state.sends
    other_sends thread (Err refusal) other = no_more (IsSentByHeld parts i A) B.sends
    other_sends thread (Ok done) other = performed_sends p (IsSentByHeld parts i A) B thread done (others_send thread other done)

    step_passing : (call : Call) → IsReached p B → IsAllowed parts call → IsStep B (step p B call).state
    unfolding step shown
    step_passing call reached (inr (outside, passes)) =
        let none : parts.part_of call.thread ≡ Some i → ⊥ = λ at. (let e : None ≡ Some i = sym outside ∙ at in cc) in
        record {
          loses = same_loses (step p B call).state.derivations (outcome_same p B call.thread (decoded_call p (shown B) call) (call_passes p (shown B) call passes));
          sends = other_sends call.thread (decoded_call p (shown B) call) none;
        }
    step_passing call reached (inl (k, own)) =
        (elim (k == i) as (λ b. (k == i) ≡ b → IsStep B (step p B call).state) [
          | true ↦ λ is. own_outcome call (decoded_call p (shown B) call) (own ∙ ap Some (eqb-true k i is)) refl
          | false ↦ λ is.
              let two : (n : ℕ) → parts.part_of n ≡ Some k → parts.part_of n ≡ Some i → ⊥ =
              λ n one other. false≢true (sym is ∙ eq-eqb k i (some_is k i (sym one ∙ other))) in
              record {
                loses = λ slot here. leaves_others p parts k B call reached (sofar.closed k) own slot (λ there. two slot there here);
                sends = other_sends call.thread (decoded_call p (shown B) call) (two call.thread own);
              }
        ]) refl

  -- a part that only passes messages and loses some capabilities still does
  still_alone : (f g : Forest Entry) → IsClosed p parts i f → PassesAlone p parts i f → AtMostLoses parts i f g → PassesAlone p parts i g
  still_alone f g closed alone loses holder slot here lies = by (loses holder here)
    where
      held : IsSlotOf p (cap_at f holder) slot → IsForMessages (cap_at g slot)
      held lies = at (loses slot (slot_owned p parts i (cap_at f holder) slot (closed holder here) lies))
        where
          at : (cap_at g slot ≡ cap_at f slot) ⊎ (cap_at g slot ≡ Null) → IsForMessages (cap_at g slot)
          at (inl same) = subst IsForMessages (sym same) (alone holder slot here lies)
          at (inr none) = subst IsForMessages (sym none) tt

      by : (cap_at g holder ≡ cap_at f holder) ⊎ (cap_at g holder ≡ Null) → IsForMessages (cap_at g slot)
      by (inl same) = held (subst (λ (c : Cap). IsSlotOf p c slot) same lies)
      by (inr none) = absurd (subst (λ (c : Cap). IsSlotOf p c slot) none lies)

  both_lose : (f g h : Forest Entry) → AtMostLoses parts i f g → AtMostLoses parts i g h → AtMostLoses parts i f h
  both_lose f g h one two slot here = by (two slot here) (one slot here)
    where
      by : (cap_at h slot ≡ cap_at g slot) ⊎ (cap_at h slot ≡ Null) → (cap_at g slot ≡ cap_at f slot) ⊎ (cap_at g slot ≡ Null) →
          (cap_at h slot ≡ cap_at f slot) ⊎ (cap_at h slot ≡ Null)
      by (inl same) (inl before) = inl (same ∙ before)
      by (inl same) (inr none) = inr (same ∙ none)
      by (inr none) before = inr none

  run_passing : (B : State) (calls : List Call) → IsReached p B → IsPassing B → Each (IsAllowed parts) calls → IsPassing (state_after p B calls)
  unfolding state_after
  run_passing B [] reached sofar of = sofar
  run_passing B (call ∷ calls) reached sofar of =
      let C : State = (step p B call).state in
      let made = step_passing B sofar call reached of.0 in
      run_passing C calls (reached_after p B (call ∷ []) reached)
      (record {
        closed = step_allowed p parts B call reached sofar.closed of.0;
        alone = still_alone B.derivations C.derivations (sofar.closed i) sofar.alone made.loses;
        loses = both_lose A.derivations B.derivations C.derivations sofar.loses made.loses;
        sends = then_more (IsSentByHeld parts i A) A.sends B.sends C.sends sofar.sends made.sends;
      }) of.1

  passing_first : AreClosed p parts A → PassesAlone p parts i A.derivations → IsPassing A
  passing_first closed alone = record {
    closed = closed;
    alone = alone;
    loses = λ slot here. inl refl;
    sends = no_more (IsSentByHeld parts i A) A.sends;
  }

pub gets_nothing : (p : ProfileName) (parts : Parts) (i : ℕ) (A : State) (calls : List Call) → GetsNothing p parts i A calls
gets_nothing p parts i A calls reached closed alone of = (run_passing p parts i A A calls reached (passing_first p parts i A closed alone) of).loses

pub sends_by_held : (p : ProfileName) (parts : Parts) (i : ℕ) (A : State) (calls : List Call) → SendsByHeld p parts i A calls
sends_by_held p parts i A calls reached closed alone of = (run_passing p parts i A A calls reached (passing_first p parts i A closed alone) of).sends
