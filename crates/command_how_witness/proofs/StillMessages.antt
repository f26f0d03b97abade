-- Where calls show a message between two still parts, the one thread holds a capability by which it is sent, and the other one by which
-- it is received. So it is found whether any calls show it.
use Rattle.std.proofs.Common.{◌≡◌, ◌⊎◌, inl, inr, ℕ, zero, suc, ◌+◌, ◌-◌, ◌^◌, ◌<◌, ◌≤◌, refl, sym, ap, subst, ◌∙◌, arith, Bool, true, false, not, ◌&&◌, ◌==◌, List, [], ◌∷◌, ◌++◌, length, Option, Some, Ok, slice_get, eq-eqb}
use Rattle.std.specs.Bool.{⊤}
use Rattle.std.specs.List.{list_any, list_all, Contains, AllByRecursion as Each}
use Rattle.std.proofs.lemmas.Bool.{false≢true, eqb-true}
use Rattle.std.proofs.lemmas.Nat.{pow_pos}
use Rattle.cap_core.specs.declared.profile.ProfileName.{ProfileName}
use Rattle.cap_core.specs.declared.capability.Badge.{Badge}
use Rattle.cap_core.specs.declared.capability.Cap.{Cap}
use Rattle.cap_core.specs.declared.capability.Cap.TheVariants.{Null, Untyped, Endpoint, CNode, Tcb}
use Rattle.cap_core.specs.declared.rights.Rights.{Rights}
use Rattle.cap_core.specs.Numbers.{endpoint_bits}
use Rattle.cap_core.specs.Objects.{is_null}
use Rattle.cap_core.specs.Rights.{write_bit, read_bit}
use Rattle.kernel_forest.specs.Forest.{Forest, preorder}
use Rattle.kernel_forest.specs.Entries.{Entry, cap_at}
use Rattle.kernel_forest.proofs.Slots.Edits.{entry_at}
use Rattle.kernel_forest.proofs.Slots.Holding.{cap-entry}
use Rattle.kernel_forest.proofs.Trees.Forests.{each-weaker}
use Rattle.kernel_delete.specs.Members.{In}
use Rattle.kernel_delete.proofs.Members.{both_true, any_in, any_of}
use Rattle.kernel_delete.proofs.Clearable.{in_contains, contains_in}
use Rattle.ipc_core.specs.Records.{Instance, SendRecord, ReceiveRecord}
use Rattle.kernel_abstract.specs.declared.call.Call.{Call}
use Rattle.kernel_abstract.specs.declared.call.Op.{Op}
use Rattle.kernel_abstract.specs.declared.call.Op.TheVariants as op
use Rattle.kernel_abstract.specs.declared.call.Reply.{Reply}
use Rattle.kernel_abstract.specs.declared.call.Reply.TheVariants.{Done, Delivered, Waiting, Dropped, Empty, Refused}
use Rattle.kernel_abstract.specs.declared.invocation.Service.{Service}
use Rattle.kernel_abstract.specs.declared.invocation.Invocation.{Invocation}
use Rattle.kernel_abstract.specs.declared.invocation.Invocation.TheVariants as invocation
use Rattle.kernel_abstract.specs.declared.reason.Word.TheVariants.{Invoked}
use Rattle.kernel_abstract.specs.declared.reason.Right.TheVariants.{Write}
use Rattle.kernel_abstract.specs.Lookups.{slot_by_word}
use Rattle.kernel_abstract.specs.Decode.{service_word, has_right, service_in, checked_invocation, checked_op, decoded_call}
use Rattle.kernel_abstract.specs.Deliveries.{delivery}
use Rattle.kernel_abstract.specs.State.{State, shown, waiting_sends, waiting_receives}
use Rattle.kernel_abstract.specs.Step.{step, replies_of, state_after}
use Rattle.kernel_abstract.specs.Reached.{IsReached}
use Rattle.kernel_abstract.proofs.Checks.FoundSlots.{full_at, passed, made_passed, cond_passed, ok_same}
use Rattle.kernel_abstract.proofs.Checks.PassedInvocations.{call_passed}
use Rattle.kernel_abstract.proofs.Checks.Walked.{word_passed}
use Rattle.kernel_abstract.proofs.Reached.Invariant.{Invariant}
use Rattle.kernel_abstract.proofs.Reached.Simulation.{reached_is}
use Rattle.kernel_abstract.proofs.Reached.Runs.{state_after-nil, state_after-snoc}
use Rattle.query_parts.specs.declared.listed.PartUse.{PartUse}
use Rattle.query_parts.specs.Parts.{Use, Parts, IsClosed, IsWithin}
use Rattle.query_parts.specs.Listed.{part_at, parts_listed}
use Rattle.query_parts.specs.Laws.{AreClosed, IsAllowed, IsOfSomePart, MayUse}
use Rattle.query_parts.specs.Passing.{AtMostLoses, PassesAlone}
use Rattle.query_parts.proofs.Within.{slot_owned}
use Rattle.query_parts.proofs.Found.{invoked_owned}
use Rattle.query_parts.proofs.Passed.{IsServed, StaysIn, op_stays}
use Rattle.query_parts.proofs.Passing.{gets_nothing}
use Rattle.query_parts.proofs.Going.{Tells, Wait, wait_before, Fits, run_told}
use Rattle.query_parts.proofs.Lists.{and_true}
use Rattle.setup_report.specs.State.{is_in}
use Rattle.command_parts.specs.Ever.{AreRightParts}
use Rattle.command_never.specs.Never.{is_waiting_sender, is_waiting_receiver}
use Rattle.command_never.specs.Waits.{waits}
use Rattle.command_never.proofs.Had.{read_kept}
use Rattle.command_never.proofs.Waiting.{sender_waits, receiver_waits}
use Rattle.command_never.specs.Still.{LieInTwoStill}
use Rattle.command_how_witness.specs.declared.asked.Happening.TheVariants as happening
use Rattle.command_how_witness.specs.Witness.{Asking, IsShown, is_caller, is_badge, is_message, is_message_last, ShowsMessage, ShowsIt}
use Rattle.command_how_witness.specs.Still.{HoldsEndpoint}
use Rattle.command_how_witness.specs.StillDecided.{IsShownAlone, IsDecidedWithBadge}
use Rattle.command_how_witness.proofs.Below.{part_is}
use Rattle.command_how_witness.proofs.Never.{caller_in}
use Rattle.command_how_witness.proofs.Groups.{is_number, number_is, is_number_of, Held, held_at, is_live, held_live, slot_in, part_in_group, not_live, use_had}
use Rattle.command_how_witness.proofs.StillParts.{standing, member, lie, closed, IsHeld, no_wait, holds, from_few, to_few, from_part, to_part, may_show}
use Rattle.command_how_witness.proofs.StillShown.{shown_alone}

-- ---- a send is by a capability in a slot of the part

-- a slot of a part holds a capability to an endpoint with this badge and this right
abbrev HoldsIn : ℕ → Parts → ℕ → Forest Entry → ℕ → Badge → Type 0
HoldsIn right parts i f endpoint badge =
    (slot : ℕ) × ((rights : Rights) × ((parts.part_of slot ≡ Some i) × ((cap_at f slot ≡ Endpoint endpoint badge rights) × (has_right right rights ≡ true))))

served : (slot : ℕ) (cap : Cap) (service : Service) → service_in Write slot cap ≡ Ok service →
    (rights : Rights) × ((cap ≡ Endpoint service.endpoint service.badge rights) × (has_right write_bit rights ≡ true))
served slot Null service h = cc
served slot (Untyped base bits free) service h = cc
served slot (Endpoint base badge rights) service h =
    let may = cond_passed (has_right write_bit rights) _ _ service h in
    subst (λ (s : Service). (r : Rights) × ((Endpoint base badge rights ≡ Endpoint s.endpoint s.badge r) × (has_right write_bit r ≡ true))) (ok_same _ service may.1)
    (rights, (refl, may.0))
served slot (CNode base radix guard) service h = cc
served slot (Tcb base) service h = cc

-- where it is a send
abbrev IsSentByHeld : Parts → ℕ → Forest Entry → Invocation → Type 0
IsSentByHeld parts i f (invocation.Send service message block) = HoldsIn write_bit parts i f service.endpoint service.badge
IsSentByHeld parts i f done = ⊤

module _ (p : ProfileName) (parts : Parts) (i : ℕ) (f : Forest Entry) (closed : IsClosed p parts i f) (thread : ℕ) (own : parts.part_of thread ≡ Some i) where
  held : (slot : ℕ) (service : Service) → parts.part_of slot ≡ Some i → service_in Write slot (cap_at f slot) ≡ Ok service → HoldsIn write_bit parts i f service.endpoint service.badge
  held slot service here h = let s = served slot (cap_at f slot) service h in (slot, (s.0, (here, (s.1.0, s.1.1))))

  sent_by : (o : Op) (slot : ℕ) (done : Invocation) → parts.part_of slot ≡ Some i → checked_invocation p f thread o slot ≡ Ok done → IsSentByHeld parts i f done
  sent_by (op.Retype cap k size_bits root index depth offset count) slot done here h = made_passed (IsSentByHeld parts i f) invocation.Retype _ done (λ new e. tt) h
  sent_by (op.CapCopy cap index depth src_root src_index src_depth rights) slot done here h = made_passed (IsSentByHeld parts i f) invocation.Derive _ done (λ placement e. tt) h
  sent_by (op.CapMint cap index depth src_root src_index src_depth rights word) slot done here h = made_passed (IsSentByHeld parts i f) invocation.Derive _ done (λ placement e. tt) h
  sent_by (op.CapMove cap index depth src_root src_index src_depth) slot done here h = made_passed (IsSentByHeld parts i f) invocation.Move _ done (λ placement e. tt) h
  sent_by (op.CapMutate cap index depth src_root src_index src_depth word) slot done here h = made_passed (IsSentByHeld parts i f) invocation.Move _ done (λ placement e. tt) h
  sent_by (op.CapDelete cap index depth) slot done here h = made_passed (IsSentByHeld parts i f) invocation.Delete _ done (λ target e. tt) h
  sent_by (op.CapRevoke cap index depth) slot done here h = made_passed (IsSentByHeld parts i f) invocation.Revoke _ done (λ target e. tt) h
  sent_by (op.CancelBadged cap index depth) slot done here h = made_passed (IsSentByHeld parts i f) invocation.CancelBadged _ done (λ service e. tt) h
  sent_by (op.Send cap message) slot done here h =
      made_passed (IsSentByHeld parts i f) (λ service. invocation.Send service message true) _ done (λ service e. held slot service here e) h
  sent_by (op.NbSend cap message) slot done here h =
      made_passed (IsSentByHeld parts i f) (λ service. invocation.Send service message false) _ done (λ service e. held slot service here e) h
  sent_by (op.Recv cap) slot done here h = made_passed (IsSentByHeld parts i f) (λ service. invocation.Receive service true) _ done (λ service e. tt) h
  sent_by (op.NbRecv cap) slot done here h = made_passed (IsSentByHeld parts i f) (λ service. invocation.Receive service false) _ done (λ service e. tt) h
  sent_by (op.SetSpace cap root word) slot done here h = made_passed (IsSentByHeld parts i f) invocation.SetSpace _ done (λ new e. tt) h
  sent_by (op.Suspend cap) slot done here h = made_passed (IsSentByHeld parts i f) invocation.Suspend _ done (λ tcb e. tt) h
  sent_by (op.Resume cap) slot done here h = made_passed (IsSentByHeld parts i f) invocation.Resume _ done (λ tcb e. tt) h

  op_sent : (o : Op) (done : Invocation) → checked_op p f thread o ≡ Ok done → IsSentByHeld parts i f done
  op_sent o done h =
      let slot = passed (slot_by_word p f Invoked thread (service_word o)) (checked_invocation p f thread o) done h in
      sent_by o slot.0 done (invoked_owned p parts i f closed thread (service_word o) slot.0 own (word_passed p f Invoked thread (service_word o) slot.0 slot.1.0)) slot.1.1

-- a slot that holds it later held it before
held_before : (parts : Parts) (i : ℕ) (f g : Forest Entry) (e : ℕ) (badge : Badge) → AtMostLoses parts i f g → HoldsIn write_bit parts i g e badge → HoldsIn write_bit parts i f e badge
held_before parts i f g e badge loses (slot, (rights, (here, (is, has)))) = by (loses slot here)
  where
    by : (cap_at g slot ≡ cap_at f slot) ⊎ (cap_at g slot ≡ Null) → HoldsIn write_bit parts i f e badge
    by (inl same) = (slot, (rights, (here, (sym same ∙ is, has))))
    by (inr none) = (let other : Null ≡ Endpoint e badge rights = sym none ∙ is in cc)

and_one : (Q : Call → Type 0) (calls : List Call) (call : Call) → Each Q calls → Q call → Each Q (calls ++ call ∷ [])
and_one Q [] call h k = (k, tt)
and_one Q (c ∷ calls) call h k = (h.0, and_one Q calls call h.1 k)

one_part : (o : Option ℕ) (a b : ℕ) → o ≡ Some a → o ≡ Some b → a ≡ b
one_part o a b h g = let two : Some a ≡ Some b = sym h ∙ g in cc

module _ (p : ProfileName) (q : Asking) (uses : List PartUse) (A : State) (reached : IsReached p A)
    (right : AreRightParts p (shown A) q.without q.memory uses) (two : LieInTwoStill p q.without q.memory uses (shown A) q.from q.to) where
  abbrev parts : Parts
  parts = parts_listed q.memory uses

  -- a state behind some calls of threads of parts
  record IsBehind (B : State) : Type 0 where
    calls : List Call
    of : Each (IsOfSomePart parts) calls
    is : B ≡ state_after p A calls

  allowed : (calls : List Call) → Each (IsOfSomePart parts) calls → Each (IsAllowed parts) calls
  allowed calls of = each-weaker (IsOfSomePart parts) (IsAllowed parts) (λ call is. inl is) calls of

  closed_behind : (B : State) → IsBehind B → AreClosed p parts B
  closed_behind B b = subst (AreClosed p parts) (sym b.is) (right.ever A reached refl b.calls (allowed b.calls b.of)).closed

  passes_alone : PassesAlone p parts two.i A.derivations
  unfolding shown
  passes_alone = two.from_still.passes

  loses_behind : (B : State) → IsBehind B → AtMostLoses parts two.i A.derivations B.derivations
  loses_behind B b =
      subst (λ (C : State). AtMostLoses parts two.i A.derivations C.derivations) (sym b.is)
      (gets_nothing p parts two.i A b.calls reached (closed p q uses A reached right two) passes_alone (allowed b.calls b.of))

  abbrev MaySend : ℕ → ℕ → Badge → Type 0
  MaySend e t badge = parts.part_of t ≡ Some two.i → HoldsIn write_bit parts two.i A.derivations e badge

  abbrev MayReceive : ℕ → ℕ → Type 0
  MayReceive e t = (k : ℕ) → parts.part_of t ≡ Some k → (badge : Badge) × MayUse p parts read_bit k e badge

  behind_more : (B : State) (call : Call) → IsReached p B → IsBehind B → IsOfSomePart parts call → IsBehind (step p B call).state
  behind_more B call now b is = record {
    calls = b.calls ++ call ∷ [];
    of = and_one (IsOfSomePart parts) b.calls call b.of is;
    is = ap (λ (C : State). (step p C call).state) b.is ∙ sym (state_after-snoc p A b.calls call);
  }

  module _ (B : State) (inv : Invariant B) (wait : Wait p A MaySend MayReceive B) (b : IsBehind B) (t k : ℕ) (own : parts.part_of t ≡ Some k) where
    may_receive : (service : Service) → IsServed p parts k read_bit service → MayReceive service.endpoint t
    may_receive service stays n at =
        (service.badge, subst (λ m. MayUse p parts read_bit m service.endpoint service.badge) (one_part (parts.part_of t) k n own at) (stays.rights, (stays.within, stays.has)))

    fits_done : (done : Invocation) → StaysIn p parts k done → (parts.part_of t ≡ Some two.i → IsSentByHeld parts two.i B.derivations done) →
        Fits p A MaySend MayReceive B inv wait t done
    fits_done (invocation.Send service message block) stays sent =
        λ at. held_before parts two.i A.derivations B.derivations service.endpoint service.badge (loses_behind B b) (sent at)
    fits_done (invocation.Receive service block) stays sent = may_receive service stays
    fits_done (invocation.Retype new) stays sent = tt
    fits_done (invocation.Derive placement) stays sent = tt
    fits_done (invocation.Move placement) stays sent = tt
    fits_done (invocation.Delete slot) stays sent = tt
    fits_done (invocation.Revoke slot) stays sent = tt
    fits_done (invocation.CancelBadged service) stays sent = tt
    fits_done (invocation.SetSpace new) stays sent = tt
    fits_done (invocation.Suspend tcb) stays sent = tt
    fits_done (invocation.Resume tcb) stays sent = tt

  fits : (B : State) (call : Call) (done : Invocation) → IsReached p B → (inv : Invariant B) → (wait : Wait p A MaySend MayReceive B) → IsBehind B → IsOfSomePart parts call →
      decoded_call p (shown B) call ≡ Ok done → Fits p A MaySend MayReceive B inv wait call.thread done
  unfolding shown
  fits B call done now inv wait b (k, own) h =
      let checked : checked_op p B.derivations call.thread call.op ≡ Ok done = call_passed p (shown B) call done h in
      fits_done B inv wait b call.thread k own done
      (op_stays p parts k B.derivations (closed_behind B b k) call.thread own call.op done checked)
      (λ at. op_sent p parts two.i B.derivations (closed_behind B b two.i) call.thread at call.op done checked)

  callers_of : (calls : List Call) → list_all (is_caller q) calls ≡ true → Each (IsOfSomePart parts) calls
  callers_of [] h = tt
  callers_of (call ∷ calls) h =
      let first = both_true (is_caller q call) (list_all (is_caller q) calls) h in
      (caller_in q call first.0, callers_of calls first.1)

  told : (calls : List Call) → list_all (is_caller q) calls ≡ true → Each (Tells p A MaySend MayReceive) (replies_of p A calls)
  told calls h =
      run_told p A MaySend MayReceive IsBehind (IsOfSomePart parts) behind_more fits A calls reached
      (record { calls = []; of = tt; is = sym (state_after-nil p A) }) (callers_of calls h) (wait_before p A MaySend MayReceive)

  -- ---- both hold what a reply tells of

  no_sender : (s : SendRecord) → s.thread.base ≡ q.from → Contains (waiting_sends A s.endpoint) s → ⊥
  no_sender s same there =
      let m = member p q uses A reached right two q.from (from_few p q uses A reached right two) in
      let e : ℕ = s.endpoint.base in
      let own : part_at q.memory s.thread.base ≡ Some m.part = ap (part_at q.memory) same ∙ m.own in
      let waiting = sender_waits p A reached (is_waiting_sender q.memory m.part e) s there
      (and_true _ _ (eq-eqb e e refl) (part_is (part_at q.memory s.thread.base) m.part own)) in
      let w = any_of (is_waiting_sender q.memory m.part e) (waits p (shown A)) waiting in
      no_wait p q uses A reached right two q.from (from_few p q uses A reached right two) w.0 w.1.0
      (both_true (w.0.endpoint == e) _ (both_true w.0.sends _ w.1.1).1).1

  no_receiver : (a : ReceiveRecord) → a.thread.base ≡ q.to → Contains (waiting_receives A a.endpoint) a → ⊥
  no_receiver a same there =
      let m = member p q uses A reached right two q.to (to_few p q uses A reached right two) in
      let e : ℕ = a.endpoint.base in
      let own : part_at q.memory a.thread.base ≡ Some m.part = ap (part_at q.memory) same ∙ m.own in
      let waiting = receiver_waits p A reached (is_waiting_receiver q.memory m.part e) a there
      (and_true _ _ (eq-eqb e e refl) (part_is (part_at q.memory a.thread.base) m.part own)) in
      let w = any_of (is_waiting_receiver q.memory m.part e) (waits p (shown A)) waiting in
      no_wait p q uses A reached right two q.to (to_few p q uses A reached right two) w.0 w.1.0
      (both_true (w.0.endpoint == e) _ (both_true (not w.0.sends) _ w.1.1).1).1

  from_holds : (e : ℕ) (badge : Badge) → HoldsIn write_bit parts two.i A.derivations e badge → HoldsEndpoint p A.derivations write_bit q.from e badge
  from_holds e badge (slot, (rights, (here, (is, has)))) = record {
    slot = slot;
    rights = rights;
    inside = slot_in p A.derivations parts (standing p q uses A reached right two) (lie p q uses A reached right two) q.from (from_few p q uses A reached right two)
        slot e badge rights (here ∙ ap (λ n. Some n) (sym (from_part p q uses A reached right two))) is;
    cap = is;
    allows = has;
  }

  held_now : (e : ℕ) (badge : Badge) → HoldsIn write_bit parts two.i A.derivations e badge → is_live A.derivations e ≡ true
  held_now e badge (slot, (rights, (here, (is, has)))) =
      held_live A.derivations e badge rights (subst (Held A.derivations) is (held_at A.derivations slot (ap is_null is)))

  abbrev part_to : ℕ
  part_to = (member p q uses A reached right two q.to (to_few p q uses A reached right two)).part

  to_holds : (e : ℕ) (badge : Badge) → is_live A.derivations e ≡ true → MayUse p parts read_bit two.j e badge →
      (other : Badge) × HoldsEndpoint p A.derivations read_bit q.to e other
  to_holds e badge live (rights, (within, has)) = by within
    where
      same : Some two.j ≡ Some part_to
      same = ap (λ n. Some n) (sym (to_part p q uses A reached right two))

      none : (x : ℕ) → e ≤ x → x < e + 2 ^ endpoint_bits p → parts.part_of x ≡ Some part_to → ⊥
      none x low high own =
          not_live p A.derivations parts (standing p q uses A reached right two) q.to (to_few p q uses A reached right two) e live
          (x, (low, (high, part_in_group p A.derivations parts (standing p q uses A reached right two) (lie p q uses A reached right two) q.to x (to_few p q uses A reached right two) own)))

      used : (u : Use) → Contains (parts.uses part_to) u → u.endpoint ≡ e → has_right read_bit u.rights ≡ true → (other : Badge) × HoldsEndpoint p A.derivations read_bit q.to e other
      used u there at may = elim (use_had p A.derivations parts (standing p q uses A reached right two) (lie p q uses A reached right two) q.to (to_few p q uses A reached right two) u there) [
        | inl held ↦ holds p q uses A reached right two read_bit q.to (to_few p q uses A reached right two) e read_kept u.rights
            (subst (λ n. IsHeld p q uses A reached right two q.to (to_few p q uses A reached right two) n u.rights) at held) may
        | inr inside ↦ absurd
            (not_live p A.derivations parts (standing p q uses A reached right two) q.to (to_few p q uses A reached right two) u.endpoint
            (ap (is_live A.derivations) at ∙ live) inside)
      ]

      by : IsWithin p parts two.j (Endpoint e badge rights) → (other : Badge) × HoldsEndpoint p A.derivations read_bit q.to e other
      by (inl owned) = absurd (none e (omega arith) (omega (arith, pow_pos (endpoint_bits p))) (owned e (omega arith) (omega (arith, pow_pos (endpoint_bits p))) ∙ same))
      by (inr covered) =
          used covered.0 (subst (λ n. Contains (parts.uses n) covered.0) (sym (to_part p q uses A reached right two)) covered.1.0) covered.1.1.endpoint_is
          (read_kept rights covered.0.rights covered.1.1.rights_fit has)

  -- an endpoint that is not named, with a badge that is asked for, to which slots of both parts hold capabilities that the message needs
  record IsHeldThere : Type 0 where
    e : ℕ
    badge : Badge
    other : Badge
    named : not (is_in e q.by) ≡ true
    wanted : is_badge q.badge badge.0 ≡ true
    sends : HoldsIn write_bit parts two.i A.derivations e badge
    receives : HoldsEndpoint p A.derivations read_bit q.to e other

  told_held : (reply : Reply) → Tells p A MaySend MayReceive reply → is_message q reply ≡ true → IsHeldThere
  told_held Done tells h = absurd (false≢true h)
  told_held Waiting tells h = absurd (false≢true h)
  told_held Dropped tells h = absurd (false≢true h)
  told_held Empty tells h = absurd (false≢true h)
  told_held (Refused refusal) tells h = absurd (false≢true h)
  told_held (Delivered endpoint sender receiver badge message) tells h =
      let first = both_true (sender == q.from) _ h in
      let second = both_true (receiver == q.to) _ first.1 in
      let third = both_true (not (is_in endpoint q.by)) (is_badge q.badge badge.0) second.1 in
      let told : Delivered endpoint sender receiver badge message ≡ delivery (tells.send, tells.receive) = tells.told in
      let at : endpoint ≡ tells.send.endpoint.base = cc in
      let from_is : sender ≡ tells.send.thread.base = cc in
      let to_is : receiver ≡ tells.receive.thread.base = cc in
      let badge_is : badge ≡ tells.send.badge = cc in
      let from_same : tells.send.thread.base ≡ q.from = sym from_is ∙ eqb-true sender q.from first.0 in
      let to_same : tells.receive.thread.base ≡ q.to = sym to_is ∙ eqb-true receiver q.to second.0 in
      let sends : HoldsIn write_bit parts two.i A.derivations tells.send.endpoint.base tells.send.badge = elim (tells.sent) [
        | inl waits ↦ absurd (no_sender tells.send from_same waits)
        | inr may ↦ may (ap (part_at q.memory) from_same ∙ two.from_in)
      ] in
      let receives : (b : Badge) × MayUse p parts read_bit two.j tells.receive.endpoint.base b = elim (tells.received) [
        | inl waits ↦ absurd (no_receiver tells.receive to_same waits)
        | inr may ↦ may two.j (ap (part_at q.memory) to_same ∙ two.to_in)
      ] in
      let e : ℕ = tells.send.endpoint.base in
      let one : tells.receive.endpoint.base ≡ e = ap (λ (x : Instance). x.base) tells.same_endpoint in
      let held = to_holds e receives.0 (held_now e tells.send.badge sends) (subst (λ n. MayUse p parts read_bit two.j n receives.0) one receives.1) in
      record {
        e = e;
        badge = tells.send.badge;
        other = held.0;
        named = ap (λ n. not (is_in n q.by)) (sym at) ∙ third.0;
        wanted = ap (λ (b : Badge). is_badge q.badge b.0) (sym badge_is) ∙ third.1;
        sends = sends;
        receives = held.1;
      }

  last_held : (replies : List Reply) (n : ℕ) → Each (Tells p A MaySend MayReceive) replies → is_message_last q (slice_get replies n) ≡ true → IsHeldThere
  last_held [] n tells h = absurd (false≢true h)
  last_held (reply ∷ replies) zero tells h = told_held reply tells.0 h
  last_held (reply ∷ replies) (suc n) tells h = last_held replies n tells.1 h

  shown_held : (calls : List Call) → ShowsMessage p q A calls → IsHeldThere
  shown_held calls shows = last_held (replies_of p A calls) (length (replies_of p A calls) - 1) (told calls shows.callers) shows.happens

  -- ---- whether there is such an endpoint

  reads : ℕ → Cap → Bool
  reads e (Endpoint base badge rights) = base == e && has_right read_bit rights
  reads e cap = false

  is_reader : ℕ → Entry → Bool
  is_reader e x = is_number two.j (part_at q.memory x.slot) && reads e x.cap

  writes : Cap → Bool
  writes (Endpoint base badge rights) =
      has_right write_bit rights && (not (is_in base q.by) && (is_badge q.badge badge.0 && list_any (is_reader base) (preorder A.derivations)))
  writes cap = false

  is_writer : Entry → Bool
  is_writer x = is_number two.i (part_at q.memory x.slot) && writes x.cap

  entry : (slot : ℕ) (cap : Cap) → cap_at A.derivations slot ≡ cap → is_null cap ≡ false → (x : Entry) × (In x (preorder A.derivations) × ((x.slot ≡ slot) × (x.cap ≡ cap)))
  entry slot cap is full =
      let x : (x : Entry) × Contains (preorder A.derivations) x × (x.slot ≡ slot) × (x.cap ≡ cap_at A.derivations slot) =
      entry_at slot A.derivations (full_at A.derivations slot (ap is_null is ∙ full)) in
      (x.0, (contains_in (preorder A.derivations) x.0 x.1, (x.2, x.3 ∙ is)))

  held_in : (x : Entry) → In x (preorder A.derivations) → cap_at A.derivations x.slot ≡ x.cap
  held_in x i = cap-entry A.derivations x (reached_is p A reached).store.slots_distinct (in_contains (preorder A.derivations) x i)

  -- it is found
  finds_it : IsHeldThere → list_any is_writer (preorder A.derivations) ≡ true
  unfolding reads is_reader writes is_writer
  finds_it h =
      let r = h.receives in
      let there : part_at q.memory r.slot ≡ Some two.j =
      slot_owned p parts two.j (cap_at A.derivations q.to) r.slot (closed p q uses A reached right two two.j q.to two.to_in) r.inside in
      let y = entry r.slot (Endpoint h.e h.other r.rights) r.cap refl in
      let reader : is_reader h.e y.0 ≡ true =
      and_true _ _ (is_number_of two.j (part_at q.memory y.0.slot) (ap (part_at q.memory) y.1.1.0 ∙ there))
      (ap (reads h.e) y.1.1.1 ∙ and_true _ _ (eq-eqb h.e h.e refl) r.allows) in
      let some = any_in (is_reader h.e) (preorder A.derivations) y.0 y.1.0 reader in
      let s = h.sends in
      let x = entry s.0 (Endpoint h.e h.badge s.1.0) s.1.1.1.0 refl in
      let writer : is_writer x.0 ≡ true =
      and_true _ _ (is_number_of two.i (part_at q.memory x.0.slot) (ap (part_at q.memory) x.1.1.0 ∙ s.1.1.0))
      (ap writes x.1.1.1 ∙ and_true _ _ s.1.1.1.1 (and_true _ _ h.named (and_true _ _ h.wanted some))) in
      any_in is_writer (preorder A.derivations) x.0 x.1.0 writer

  -- what is found is held
  reader_holds : (e slot : ℕ) (cap : Cap) → part_at q.memory slot ≡ Some two.j → cap_at A.derivations slot ≡ cap → reads e cap ≡ true →
      (other : Badge) × HoldsEndpoint p A.derivations read_bit q.to e other
  unfolding reads
  reader_holds e slot Null own is h = absurd (false≢true h)
  reader_holds e slot (Untyped base bits free) own is h = absurd (false≢true h)
  reader_holds e slot (CNode base radix guard) own is h = absurd (false≢true h)
  reader_holds e slot (Tcb base) own is h = absurd (false≢true h)
  reader_holds e slot (Endpoint base badge rights) own is h =
      let both = both_true (base == e) (has_right read_bit rights) h in
      let cap : cap_at A.derivations slot ≡ Endpoint e badge rights = is ∙ ap (λ n. Endpoint n badge rights) (eqb-true base e both.0) in (
        badge,
        record {
          slot = slot;
          rights = rights;
          inside = slot_in p A.derivations parts (standing p q uses A reached right two) (lie p q uses A reached right two) q.to (to_few p q uses A reached right two)
              slot e badge rights (own ∙ ap (λ n. Some n) (sym (to_part p q uses A reached right two))) cap;
          cap = cap;
          allows = both.1;
        },
      )

  writer_alone : q.what ≡ happening.Message → (slot : ℕ) (cap : Cap) → part_at q.memory slot ≡ Some two.i → cap_at A.derivations slot ≡ cap → writes cap ≡ true → IsShownAlone p q A
  unfolding writes is_reader
  writer_alone what slot Null own is h = absurd (false≢true h)
  writer_alone what slot (Untyped base bits free) own is h = absurd (false≢true h)
  writer_alone what slot (CNode base radix guard) own is h = absurd (false≢true h)
  writer_alone what slot (Tcb base) own is h = absurd (false≢true h)
  writer_alone what slot (Endpoint base badge rights) own is h =
      let first = both_true (has_right write_bit rights) _ h in
      let second = both_true (not (is_in base q.by)) _ first.1 in
      let third = both_true (is_badge q.badge badge.0) (list_any (is_reader base) (preorder A.derivations)) second.1 in
      let y = any_of (is_reader base) (preorder A.derivations) third.1 in
      let reader = both_true (is_number two.j (part_at q.memory y.0.slot)) (reads base y.0.cap) y.1.1 in
      let other = reader_holds base y.0.slot y.0.cap (number_is two.j (part_at q.memory y.0.slot) reader.0) (held_in y.0 y.1.0) reader.1 in
      shown_alone p q A (may_show p q uses A reached right two) reached what base badge other.0 second.0 third.0
      (from_holds base badge (slot, (rights, (own, (is, first.0))))) other.1

  decided : q.what ≡ happening.Message → (b : Bool) → list_any is_writer (preorder A.derivations) ≡ b → ((calls : List Call) → IsShown p q A calls → ⊥) ⊎ IsShownAlone p q A
  unfolding is_writer
  decided what true is =
      let x = any_of is_writer (preorder A.derivations) is in
      let both = both_true (is_number two.i (part_at q.memory x.0.slot)) (writes x.0.cap) x.1.1 in
      inr (writer_alone what x.0.slot x.0.cap (number_is two.i (part_at q.memory x.0.slot) both.0) (held_in x.0 x.1.0) both.1)
  decided what false is = inl (λ calls shows. false≢true (sym is ∙ finds_it (shown_held calls (subst (ShowsIt p q A calls) what shows))))

  decided_now : q.what ≡ happening.Message → ((calls : List Call) → IsShown p q A calls → ⊥) ⊎ IsShownAlone p q A
  decided_now what = decided what (list_any is_writer (preorder A.derivations)) refl

pub is_decided_with_badge : (p : ProfileName) (q : Asking) (uses : List PartUse) (A : State) → IsDecidedWithBadge p q uses A
is_decided_with_badge p q uses A reached right two what = decided_now p q uses A reached right two what
