-- What the checks of a call show of the slots and capabilities that it works on, where the calling thread's part is closed.
use Rattle.std.proofs.Common.{◌≡◌, ◌∙◌, ℕ, ◌+◌, ◌<◌, Bool, true, false, cond, ◌==◌, Some, Ok, subst, arith}
use Rattle.std.specs.Bool.{⊤}
use Rattle.cap_core.specs.declared.profile.ProfileName.{ProfileName}
use Rattle.cap_core.specs.declared.capability.Cap.{Cap}
use Rattle.cap_core.specs.declared.capability.Cap.TheVariants.{Null, Untyped, Endpoint, CNode, Tcb}
use Rattle.cap_core.specs.declared.capability.Kind.TheVariants as kind
use Rattle.cap_core.specs.declared.rights.Rights.{Rights}
use Rattle.cap_core.specs.Rights.{write_bit, read_bit}
use Rattle.mem_core.specs.Plans.{placed_in}
use Rattle.kernel_forest.specs.Forest.{Forest}
use Rattle.kernel_forest.specs.Entries.{Entry, cap_at}
use Rattle.cspace_core.specs.Resolution.{slot_of}
use Rattle.cspace_core.specs.Inside.{IsSlotOf}
use Rattle.kernel_abstract.specs.declared.call.Op.{Op}
use Rattle.kernel_abstract.specs.declared.call.Op.TheVariants as op
use Rattle.kernel_abstract.specs.declared.invocation.Change.{Change}
use Rattle.kernel_abstract.specs.declared.invocation.Change.TheVariants.{Copy, Mint, Move, Mutate}
use Rattle.kernel_abstract.specs.declared.invocation.Service.{Service}
use Rattle.kernel_abstract.specs.declared.invocation.NewObjects.{NewObjects}
use Rattle.kernel_abstract.specs.declared.invocation.NewSpace.{NewSpace}
use Rattle.kernel_abstract.specs.declared.invocation.CapPlacement.{CapPlacement}
use Rattle.kernel_abstract.specs.declared.invocation.SlotArguments.{SlotArguments}
use Rattle.kernel_abstract.specs.declared.invocation.RetypeArguments.{RetypeArguments}
use Rattle.kernel_abstract.specs.declared.invocation.Invocation.{Invocation}
use Rattle.kernel_abstract.specs.declared.invocation.Invocation.TheVariants as invocation
use Rattle.kernel_abstract.specs.Shown.{has_child}
use Rattle.kernel_abstract.specs.declared.reason.Word.{Word}
use Rattle.kernel_abstract.specs.declared.reason.Word.TheVariants.{Invoked, Root, SourceRoot, Index, SourceIndex}
use Rattle.kernel_abstract.specs.declared.reason.Right.{Right}
use Rattle.kernel_abstract.specs.declared.reason.Right.TheVariants.{Write, Read}
use Rattle.kernel_abstract.specs.declared.reason.Held.{Held}
use Rattle.kernel_abstract.specs.Reasons.{because, held_at}
use Rattle.kernel_abstract.specs.Lookups.{slot_by_word, slot_by_index, of_kind, ensure_empty, ensure_full}
use Rattle.kernel_abstract.specs.CNodes.{changed_cap, checked_placement}
use Rattle.kernel_abstract.specs.Deletion.{checked_slot}
use Rattle.kernel_abstract.specs.Threads.{checked_tcb, space_cap, checked_space}
use Rattle.kernel_abstract.specs.Retyping.{checked_shape, node_slot, node_word, within_node, first_full, first_slot, no_room, checked_retype}
use Rattle.kernel_abstract.specs.Decode.{service_word, has_right, right_bit, service_in, objects_asked, slots_named, checked_invocation, checked_op}
use Rattle.kernel_abstract.proofs.Checks.Walked.{word_passed, index_passed}
use Rattle.kernel_abstract.proofs.Checks.PassedInvocations.{none_full}
use Rattle.kernel_abstract.proofs.Checks.FoundSlots.{passed, made_passed, cond_passed, ok_same}
use Rattle.kernel_abstract.proofs.Checks.FilledSlots.{along, slots_there}
use Rattle.kernel_abstract.proofs.Checks.PassedSpaceChecks.{tcb_named}
use Rattle.query_parts.specs.Parts.{Parts, IsWithin, IsClosed}
use Rattle.query_parts.proofs.Within.{slot_owned, root_owned, within-changed, within-space}
use Rattle.query_parts.proofs.Found.{empty_found, full_found, invoked_owned, target_owned}

module _ (p : ProfileName) (parts : Parts) (i : ℕ) where
  -- the endpoint and the badge are those of a capability that may stand in the part, and has the right
  pub record IsServed (right : ℕ) (service : Service) : Type 0 where
    pub rights : Rights
    pub within : IsWithin p parts i (Endpoint service.endpoint service.badge rights)
    pub has : has_right right rights ≡ true

  pub record IsPlacedIn (placement : CapPlacement) : Type 0 where
    pub source : parts.part_of placement.source ≡ Some i
    pub slot : parts.part_of placement.slot ≡ Some i
    pub cap : IsWithin p parts i placement.cap

  pub record IsMadeIn (new : NewObjects) : Type 0 where
    pub untyped : parts.part_of new.untyped ≡ Some i
    pub slots : (k : ℕ) → k < new.count → parts.part_of (slot_of p new.first_slot k) ≡ Some i

  pub record IsSpaceIn (new : NewSpace) : Type 0 where
    pub tcb : parts.part_of new.tcb ≡ Some i
    pub source : parts.part_of new.source ≡ Some i
    pub cap : IsWithin p parts i new.cap

  abbrev pub StaysIn : Invocation → Type 0
  StaysIn (invocation.Send service message block) = IsServed write_bit service
  StaysIn (invocation.Receive service block) = IsServed read_bit service
  StaysIn (invocation.Retype new) = IsMadeIn new
  StaysIn (invocation.Derive placement) = IsPlacedIn placement
  StaysIn (invocation.Move placement) = IsPlacedIn placement
  StaysIn (invocation.Delete slot) = parts.part_of slot ≡ Some i
  StaysIn (invocation.Revoke slot) = parts.part_of slot ≡ Some i
  StaysIn (invocation.CancelBadged service) = ⊤
  StaysIn (invocation.SetSpace new) = IsSpaceIn new
  StaysIn (invocation.Suspend tcb) = parts.part_of tcb ≡ Some i
  StaysIn (invocation.Resume tcb) = parts.part_of tcb ≡ Some i

  served : (needed : Right) (slot : ℕ) (cap : Cap) (service : Service) → IsWithin p parts i cap → service_in needed slot cap ≡ Ok service → IsServed (right_bit needed) service
  served needed slot Null service w h = cc
  served needed slot (Untyped base bits free) service w h = cc
  served needed slot (Endpoint base badge rights) service w h =
      let may = cond_passed (has_right (right_bit needed) rights) _ _ service h in
      subst (IsServed (right_bit needed)) (ok_same _ service may.1) (record { rights = rights; within = w; has = may.0 })
  served needed slot (CNode base radix guard) service w h = cc
  served needed slot (Tcb base) service w h = cc

  first_owned : (f : Forest Entry) (word : Word) (offset count holder first : ℕ) (node : Cap) → IsWithin p parts i node → first_slot p f word offset count holder node ≡ Ok first →
      (k : ℕ) → k < count → parts.part_of (slot_of p first k) ≡ Some i
  first_owned f word offset count holder first Null w h k low = cc
  first_owned f word offset count holder first (Untyped base bits free) w h k low = cc
  first_owned f word offset count holder first (Endpoint base badge rights) w h k low = cc
  first_owned f word offset count holder first (CNode base radix guard) w h k low =
      let held : Held = record { slot = holder; cap = CNode base radix guard } in
      let range = passed (within_node word held radix offset count (slot_of p base offset)) _ first h in
      let slots = slots_there word held radix offset count (slot_of p base offset) range.0 range.1.0 in
      let empty = none_full p f word held offset range.0 first (first_full p f range.0 count) range.1.1 in
      let fits = slots.0.within in
      let at : IsSlotOf p (CNode base radix guard) (slot_of p (slot_of p base offset) k) =
      (offset + k, (omega (arith, fits, low), along p base offset k)) in
      subst (λ n. parts.part_of (slot_of p n k) ≡ Some i) (slots.1 ∙ empty.1)
      (slot_owned p parts i (CNode base radix guard) (slot_of p (slot_of p base offset) k) w at)
  first_owned f word offset count holder first (Tcb base) w h k low = cc

  module _ (f : Forest Entry) (closed : IsClosed p parts i f) (thread : ℕ) (own : parts.part_of thread ≡ Some i) where
    word_owned : (word : Word) (n slot : ℕ) → slot_by_word p f word thread n ≡ Ok slot → parts.part_of slot ≡ Some i
    word_owned word n slot h = invoked_owned p parts i f closed thread n slot own (word_passed p f word thread n slot h)

    index_owned : (word : Word) (root index depth slot : ℕ) → parts.part_of root ≡ Some i → slot_by_index p (cap_at f) word root index depth ≡ Ok slot → parts.part_of slot ≡ Some i
    index_owned word root index depth slot here h =
        target_owned p parts i f closed (cap_at f root) index depth slot (closed root here) (index_passed p (cap_at f) word root index depth slot h)

    node_owned : (root node index depth : ℕ) (t : Bool) → parts.part_of root ≡ Some i →
        cond t (Ok root) (slot_by_index p (cap_at f) Index root index depth) ≡ Ok node → parts.part_of node ≡ Some i
    node_owned root node index depth true here h = subst (λ n. parts.part_of n ≡ Some i) (ok_same root node h) here
    node_owned root node index depth false here h = index_owned Index root index depth node here h

    retype_stays : (slot : ℕ) (asked : RetypeArguments) (new : NewObjects) → parts.part_of slot ≡ Some i →
        checked_retype p f thread slot asked ≡ Ok new → IsMadeIn new
    retype_stays slot asked new here h =
        let untyped = passed (of_kind kind.Untyped (held_at (cap_at f) slot)) _ new h in
        let root = passed (slot_by_word p f Root thread asked.root) _ new untyped.1.1 in
        let shape = passed (checked_shape p asked.kind asked.size_bits) _ new root.1.1 in
        let node = passed (node_slot p f root.0 asked.index asked.depth) _ new shape.1.1 in
        let first = passed (first_slot p f (node_word asked.depth) asked.offset asked.count node.0 (cap_at f node.0)) _ new node.1.1 in
        let placed = passed (because (no_room slot (has_child slot f) shape.0.bits untyped.0) (placed_in (has_child slot f) shape.0.bits asked.count untyped.0)) _ new first.1.1 in
        let found : NewObjects = record { untyped = slot; shape = shape.0; placed = placed.0; first_slot = first.0; count = asked.count } in
        let there = node_owned root.0 node.0 asked.index asked.depth (asked.depth == 0) (word_owned Root asked.root root.0 root.1.0) node.1.0 in
        subst IsMadeIn (ok_same found new placed.1.1)
        (record { untyped = here; slots = first_owned f (node_word asked.depth) asked.offset asked.count node.0 first.0 (cap_at f node.0) (closed node.0 there) first.1.0 })

    placement_stays : (slot : ℕ) (asked : SlotArguments) (change : Change) (placement : CapPlacement) → parts.part_of slot ≡ Some i →
        checked_placement p f thread slot asked change ≡ Ok placement → IsPlacedIn placement
    placement_stays slot asked change placement here h =
        let node = passed (of_kind kind.CNode (held_at (cap_at f) slot)) _ placement h in
        let root = passed (slot_by_word p f SourceRoot thread asked.src_root) _ placement node.1.1 in
        let target = passed (ensure_empty f (slot_by_index p (cap_at f) Index slot asked.index asked.depth)) _ placement root.1.1 in
        let source = passed (ensure_full f (slot_by_index p (cap_at f) SourceIndex root.0 asked.src_index asked.src_depth)) _ placement target.1.1 in
        let made = passed (changed_cap p f source.0 change (cap_at f source.0)) _ placement source.1.1 in
        let found : CapPlacement = record { source = source.0; slot = target.0; cap = made.0 } in
        let rooted = word_owned SourceRoot asked.src_root root.0 root.1.0 in
        let from = index_owned SourceIndex root.0 asked.src_index asked.src_depth source.0 rooted (full_found f _ source.0 source.1.0) in
        subst IsPlacedIn (ok_same found placement made.1.1)
        (record {
          source = from;
          slot = index_owned Index slot asked.index asked.depth target.0 here (empty_found f _ target.0 target.1.0);
          cap = within-changed p parts i f source.0 change (cap_at f source.0) made.0 (closed source.0 from) made.1.0;
        })

    slot_stays : (slot index depth target : ℕ) → parts.part_of slot ≡ Some i →
        checked_slot p f slot index depth ≡ Ok target → parts.part_of target ≡ Some i
    slot_stays slot index depth target here h =
        let node = passed (of_kind kind.CNode (held_at (cap_at f) slot)) _ target h in
        index_owned Index slot index depth target here node.1.1

    tcb_stays : (slot t : ℕ) → parts.part_of slot ≡ Some i → checked_tcb slot (cap_at f slot) ≡ Ok t → parts.part_of t ≡ Some i
    tcb_stays slot t here h =
        root_owned p parts i t (subst (IsWithin p parts i) (tcb_named slot (cap_at f slot) t h) (closed slot here))

    space_stays : (slot root word : ℕ) (new : NewSpace) → parts.part_of slot ≡ Some i →
        checked_space p f thread slot root word ≡ Ok new → IsSpaceIn new
    space_stays slot root word new here h =
        let tcb = passed (checked_tcb slot (cap_at f slot)) _ new h in
        let source = passed (slot_by_word p f Root thread root) _ new tcb.1.1 in
        let cap = passed (space_cap p word source.0 (cap_at f source.0)) _ new source.1.1 in
        let found : NewSpace = record { tcb = tcb.0; invoked = slot; source = source.0; cap = cap.0 } in
        let from = word_owned Root root source.0 source.1.0 in
        subst IsSpaceIn (ok_same found new cap.1.1)
        (record {
          tcb = tcb_stays slot tcb.0 here tcb.1.0;
          source = from;
          cap = within-space p parts i word source.0 (cap_at f source.0) cap.0 (closed source.0 from) cap.1.0;
        })

    invocation_stays : (o : Op) (slot : ℕ) (done : Invocation) → parts.part_of slot ≡ Some i → checked_invocation p f thread o slot ≡ Ok done → StaysIn done
    invocation_stays (op.Retype cap kind size_bits root index depth offset count) slot done here h =
        made_passed StaysIn invocation.Retype _ done
        (λ new is. retype_stays slot (objects_asked kind size_bits root index depth offset count) new here is) h
    invocation_stays (op.CapCopy cap index depth src_root src_index src_depth rights) slot done here h =
        made_passed StaysIn invocation.Derive _ done
        (λ placement is. placement_stays slot (slots_named index depth src_root src_index src_depth) (Copy rights) placement here is) h
    invocation_stays (op.CapMint cap index depth src_root src_index src_depth rights word) slot done here h =
        made_passed StaysIn invocation.Derive _ done
        (λ placement is. placement_stays slot (slots_named index depth src_root src_index src_depth) (Mint rights word) placement here is) h
    invocation_stays (op.CapMove cap index depth src_root src_index src_depth) slot done here h =
        made_passed StaysIn invocation.Move _ done
        (λ placement is. placement_stays slot (slots_named index depth src_root src_index src_depth) Move placement here is) h
    invocation_stays (op.CapMutate cap index depth src_root src_index src_depth word) slot done here h =
        made_passed StaysIn invocation.Move _ done
        (λ placement is. placement_stays slot (slots_named index depth src_root src_index src_depth) (Mutate word) placement here is) h
    invocation_stays (op.CapDelete cap index depth) slot done here h =
        made_passed StaysIn invocation.Delete _ done (λ target is. slot_stays slot index depth target here is) h
    invocation_stays (op.CapRevoke cap index depth) slot done here h =
        made_passed StaysIn invocation.Revoke _ done (λ target is. slot_stays slot index depth target here is) h
    invocation_stays (op.CancelBadged cap index depth) slot done here h =
        made_passed StaysIn invocation.CancelBadged _ done (λ service is. tt) h
    invocation_stays (op.Send cap message) slot done here h =
        made_passed StaysIn (λ service. invocation.Send service message true) _ done
        (λ service is. served Write slot (cap_at f slot) service (closed slot here) is) h
    invocation_stays (op.NbSend cap message) slot done here h =
        made_passed StaysIn (λ service. invocation.Send service message false) _ done
        (λ service is. served Write slot (cap_at f slot) service (closed slot here) is) h
    invocation_stays (op.Recv cap) slot done here h =
        made_passed StaysIn (λ service. invocation.Receive service true) _ done
        (λ service is. served Read slot (cap_at f slot) service (closed slot here) is) h
    invocation_stays (op.NbRecv cap) slot done here h =
        made_passed StaysIn (λ service. invocation.Receive service false) _ done
        (λ service is. served Read slot (cap_at f slot) service (closed slot here) is) h
    invocation_stays (op.SetSpace cap root word) slot done here h =
        made_passed StaysIn invocation.SetSpace _ done (λ new is. space_stays slot root word new here is) h
    invocation_stays (op.Suspend cap) slot done here h =
        made_passed StaysIn invocation.Suspend _ done (λ tcb is. tcb_stays slot tcb here is) h
    invocation_stays (op.Resume cap) slot done here h =
        made_passed StaysIn invocation.Resume _ done (λ tcb is. tcb_stays slot tcb here is) h

    pub op_stays : (o : Op) (done : Invocation) → checked_op p f thread o ≡ Ok done → StaysIn done
    op_stays o done h =
        let slot = passed (slot_by_word p f Invoked thread (service_word o)) (checked_invocation p f thread o) done h in
        invocation_stays o slot.0 done (word_owned Invoked (service_word o) slot.0 slot.1.0) slot.1.1
