-- What the checks of a call show of the slots and capabilities that it works on, by the sets that its caller names and fills.
use Rattle.std.proofs.Common.{◌≡◌, ◌∙◌, ℕ, ◌+◌, ◌<◌, inr, Bool, true, false, cond, ◌==◌, Ok, sym, subst, arith}
use Rattle.std.specs.Bool.{⊤}
use Rattle.cap_core.specs.declared.profile.ProfileName.{ProfileName}
use Rattle.cap_core.specs.declared.capability.Cap.{Cap}
use Rattle.cap_core.specs.declared.capability.Cap.TheVariants.{Null, Untyped, Endpoint, CNode, Tcb}
use Rattle.cap_core.specs.declared.capability.Kind.TheVariants as kind
use Rattle.cap_core.specs.Rights.{write_bit, read_bit}
use Rattle.mem_core.specs.Plans.{placed_in}
use Rattle.kernel_forest.specs.Forest.{Forest}
use Rattle.kernel_forest.specs.Entries.{Entry, cap_at}
use Rattle.cspace_core.specs.Resolution.{slot_of, is_cnode}
use Rattle.cspace_core.specs.Inside.{IsSlotOf}
use Rattle.kernel_abstract.specs.declared.call.Op.{Op}
use Rattle.kernel_abstract.specs.declared.call.Op.TheVariants as op
use Rattle.kernel_abstract.specs.declared.invocation.Change.{Change}
use Rattle.kernel_abstract.specs.declared.invocation.Change.TheVariants.{Copy, Mint, Move, Mutate}
use Rattle.kernel_abstract.specs.declared.invocation.Service.{Service}
use Rattle.kernel_abstract.specs.declared.invocation.NewObjects.{NewObjects}
use Rattle.kernel_abstract.specs.declared.invocation.NewSpace.{NewSpace}
use Rattle.kernel_abstract.specs.declared.invocation.CapPlacement.{CapPlacement}
use Rattle.kernel_abstract.specs.declared.invocation.SlotArguments.{SlotArguments}
use Rattle.kernel_abstract.specs.declared.invocation.RetypeArguments.{RetypeArguments}
use Rattle.kernel_abstract.specs.declared.invocation.Invocation.{Invocation}
use Rattle.kernel_abstract.specs.declared.invocation.Invocation.TheVariants as invocation
use Rattle.kernel_abstract.specs.Shown.{has_child}
use Rattle.kernel_abstract.specs.declared.reason.Word.{Word}
use Rattle.kernel_abstract.specs.declared.reason.Word.TheVariants.{Invoked, Root, SourceRoot, Index, SourceIndex}
use Rattle.kernel_abstract.specs.declared.reason.Right.{Right}
use Rattle.kernel_abstract.specs.declared.reason.Right.TheVariants.{Write, Read}
use Rattle.kernel_abstract.specs.declared.reason.Held.{Held}
use Rattle.kernel_abstract.specs.Reasons.{because, held_at}
use Rattle.kernel_abstract.specs.Lookups.{slot_by_word, slot_by_index, of_kind, ensure_empty, ensure_full}
use Rattle.kernel_abstract.specs.CNodes.{changed_cap, checked_placement}
use Rattle.kernel_abstract.specs.Threads.{checked_tcb, space_cap, checked_space}
use Rattle.kernel_abstract.specs.Retyping.{checked_shape, node_slot, node_word, within_node, first_full, first_slot, no_room, checked_retype}
use Rattle.kernel_abstract.specs.Decode.{service_word, has_right, right_bit, service_in, objects_asked, slots_named, checked_invocation, checked_op}
use Rattle.kernel_abstract.proofs.Checks.Walked.{word_passed, index_passed}
use Rattle.kernel_abstract.proofs.Checks.PassedInvocations.{none_full}
use Rattle.kernel_abstract.proofs.Checks.FoundSlots.{passed, made_passed, cond_passed, ok_same}
use Rattle.kernel_abstract.proofs.Checks.FilledSlots.{along, slots_there}
use Rattle.kernel_abstract.proofs.Checks.PassedSpaceChecks.{tcb_named}
use Rattle.query_parts.proofs.Found.{empty_found, full_found}
use Rattle.query_flow.specs.Flow.{Flow, StandsAt, HoldsWhatMayStand, LiesAmong, MayBeMadeOf, IsSettledFor}
use Rattle.query_flow.specs.Laws.{MayUseByFlow}
use Rattle.query_flow.proofs.Made.{made_changed, made_space}
use Rattle.query_flow.proofs.Found.{word_lies, node_lies, word_leads, index_lies, fills_lead}

module _ (p : ProfileName) (flow : Flow) (c : ℕ) where
  pub record IsPlacedIn (placement : CapPlacement) : Type 0 where
    pub slot : LiesAmong flow (flow.fills c) placement.slot
    pub cap : (set : ℕ) → flow.fills c set ≡ true → flow.may set placement.cap ≡ true

  pub record IsMadeIn (new : NewObjects) : Type 0 where
    pub untyped : LiesAmong flow (flow.names c) new.untyped
    pub slots : (k : ℕ) → k < new.count → LiesAmong flow (flow.fills c) (slot_of p new.first_slot k)

  abbrev pub StaysIn : Invocation → Type 0
  StaysIn (invocation.Send service message block) = MayUseByFlow flow write_bit c service.endpoint service.badge
  StaysIn (invocation.Receive service block) = MayUseByFlow flow read_bit c service.endpoint service.badge
  StaysIn (invocation.Retype new) = IsMadeIn new
  StaysIn (invocation.Derive placement) = IsPlacedIn placement
  StaysIn (invocation.Move placement) = IsPlacedIn placement
  StaysIn (invocation.Delete slot) = ⊤
  StaysIn (invocation.Revoke slot) = ⊤
  StaysIn (invocation.CancelBadged service) = ⊤
  StaysIn (invocation.SetSpace new) = StandsAt flow new.tcb new.cap
  StaysIn (invocation.Suspend tcb) = ⊤
  StaysIn (invocation.Resume tcb) = (set : ℕ) × ((flow.names c set ≡ true) × (flow.may set (Tcb tcb) ≡ true))

  served : (needed : Right) (slot set : ℕ) (cap : Cap) (service : Service) → flow.names c set ≡ true → flow.may set cap ≡ true →
      service_in needed slot cap ≡ Ok service → MayUseByFlow flow (right_bit needed) c service.endpoint service.badge
  served needed slot set Null service among may h = cc
  served needed slot set (Untyped base bits free) service among may h = cc
  served needed slot set (Endpoint base badge rights) service among may h =
      let has = cond_passed (has_right (right_bit needed) rights) _ _ service h in
      subst (λ (s : Service). MayUseByFlow flow (right_bit needed) c s.endpoint s.badge) (ok_same _ service has.1) (set, (among, (rights, (may, has.0))))
  served needed slot set (CNode base radix guard) service among may h = cc
  served needed slot set (Tcb base) service among may h = cc

  first_lies : (f : Forest Entry) (word : Word) (offset count holder first : ℕ) (node : Cap) →
      ((slot : ℕ) → IsSlotOf p node slot → LiesAmong flow (flow.fills c) slot) → first_slot p f word offset count holder node ≡ Ok first →
      (k : ℕ) → k < count → LiesAmong flow (flow.fills c) (slot_of p first k)
  first_lies f word offset count holder first Null leads h k low = cc
  first_lies f word offset count holder first (Untyped base bits free) leads h k low = cc
  first_lies f word offset count holder first (Endpoint base badge rights) leads h k low = cc
  first_lies f word offset count holder first (CNode base radix guard) leads h k low =
      let there : Held = record { slot = holder; cap = CNode base radix guard } in
      let range = passed (within_node word there radix offset count (slot_of p base offset)) _ first h in
      let slots = slots_there word there radix offset count (slot_of p base offset) range.0 range.1.0 in
      let empty = none_full p f word there offset range.0 first (first_full p f range.0 count) range.1.1 in
      let fits = slots.0.within in
      let at : IsSlotOf p (CNode base radix guard) (slot_of p (slot_of p base offset) k) =
      (offset + k, (omega (arith, fits, low), along p base offset k)) in
      subst (λ n. LiesAmong flow (flow.fills c) (slot_of p n k)) (slots.1 ∙ empty.1) (leads (slot_of p (slot_of p base offset) k) at)
  first_lies f word offset count holder first (Tcb base) leads h k low = cc

  module _ (settled : IsSettledFor p flow c) (f : Forest Entry) (held : HoldsWhatMayStand flow f) (thread : ℕ) (own : flow.set_of thread ≡ c) where
    by_word : (word : Word) (n slot : ℕ) → slot_by_word p f word thread n ≡ Ok slot → LiesAmong flow (flow.names c) slot
    by_word word n slot h = word_lies p flow c settled f held thread n slot own (word_passed p f word thread n slot h)

    -- the slots of the CNode whose capability a slot holds are filled
    abbrev IsFilledFrom : ℕ → Type 0
    IsFilledFrom slot = (there : ℕ) → IsSlotOf p (cap_at f slot) there → LiesAmong flow (flow.fills c) there

    filled_by : (word : Word) (n slot : ℕ) → slot_by_word p f word thread n ≡ Ok slot → IsFilledFrom slot
    filled_by word n slot h = word_leads p flow c settled f held thread n slot own (word_passed p f word thread n slot h)

    by_index : (word : Word) (root index depth slot : ℕ) → IsFilledFrom root → slot_by_index p (cap_at f) word root index depth ≡ Ok slot → LiesAmong flow (flow.fills c) slot
    by_index word root index depth slot filled h =
        index_lies p flow c settled f held root index depth slot filled (index_passed p (cap_at f) word root index depth slot h)

    filled_on : (root node index depth : ℕ) (t : Bool) → IsFilledFrom root → cond t (Ok root) (slot_by_index p (cap_at f) Index root index depth) ≡ Ok node → IsFilledFrom node
    filled_on root node index depth true filled h = subst IsFilledFrom (ok_same root node h) filled
    filled_on root node index depth false filled h = fills_lead p flow c settled f held node (inr (by_index Index root index depth node filled h))

    retype_stays : (slot : ℕ) (asked : RetypeArguments) (new : NewObjects) → LiesAmong flow (flow.names c) slot →
        checked_retype p f thread slot asked ≡ Ok new → IsMadeIn new
    retype_stays slot asked new here h =
        let untyped = passed (of_kind kind.Untyped (held_at (cap_at f) slot)) _ new h in
        let root = passed (slot_by_word p f Root thread asked.root) _ new untyped.1.1 in
        let shape = passed (checked_shape p asked.kind asked.size_bits) _ new root.1.1 in
        let node = passed (node_slot p f root.0 asked.index asked.depth) _ new shape.1.1 in
        let first = passed (first_slot p f (node_word asked.depth) asked.offset asked.count node.0 (cap_at f node.0)) _ new node.1.1 in
        let placed = passed (because (no_room slot (has_child slot f) shape.0.bits untyped.0) (placed_in (has_child slot f) shape.0.bits asked.count untyped.0)) _ new first.1.1 in
        let found : NewObjects = record { untyped = slot; shape = shape.0; placed = placed.0; first_slot = first.0; count = asked.count } in
        let filled = filled_on root.0 node.0 asked.index asked.depth (asked.depth == 0) (filled_by Root asked.root root.0 root.1.0) node.1.0 in
        subst IsMadeIn (ok_same found new placed.1.1)
        (record {
          untyped = here;
          slots = first_lies f (node_word asked.depth) asked.offset asked.count node.0 first.0 (cap_at f node.0) filled first.1.0;
        })

    placement_stays : (slot : ℕ) (asked : SlotArguments) (change : Change) (placement : CapPlacement) → IsFilledFrom slot →
        checked_placement p f thread slot asked change ≡ Ok placement → IsPlacedIn placement
    placement_stays slot asked change placement filled h =
        let node = passed (of_kind kind.CNode (held_at (cap_at f) slot)) _ placement h in
        let root = passed (slot_by_word p f SourceRoot thread asked.src_root) _ placement node.1.1 in
        let target = passed (ensure_empty f (slot_by_index p (cap_at f) Index slot asked.index asked.depth)) _ placement root.1.1 in
        let source = passed (ensure_full f (slot_by_index p (cap_at f) SourceIndex root.0 asked.src_index asked.src_depth)) _ placement target.1.1 in
        let made = passed (changed_cap p f source.0 change (cap_at f source.0)) _ placement source.1.1 in
        let found : CapPlacement = record { source = source.0; slot = target.0; cap = made.0 } in
        let rooted = filled_by SourceRoot asked.src_root root.0 root.1.0 in
        let from = by_index SourceIndex root.0 asked.src_index asked.src_depth source.0 rooted (full_found f _ source.0 source.1.0) in
        subst IsPlacedIn (ok_same found placement made.1.1)
        (record {
          slot = by_index Index slot asked.index asked.depth target.0 filled (empty_found f _ target.0 target.1.0);
          cap = λ set among. settled.puts (flow.set_of source.0) set (cap_at f source.0) made.0 from among (held source.0)
              (made_changed p f source.0 change (cap_at f source.0) made.0 made.1.0);
        })

    set_stays : (tcb of from : ℕ) (node made : Cap) → flow.names c of ≡ true → flow.may of (Tcb tcb) ≡ true → flow.nodes c from ≡ true →
        flow.may from node ≡ true → is_cnode node ≡ true → MayBeMadeOf node made → StandsAt flow tcb made
    set_stays tcb of from Null made in_of may_of in_from may h is = cc
    set_stays tcb of from (Untyped base bits free) made in_of may_of in_from may h is = cc
    set_stays tcb of from (Endpoint base badge rights) made in_of may_of in_from may h is = cc
    set_stays tcb of from (CNode base radix guard) made in_of may_of in_from may h (other, is) =
        subst (StandsAt flow tcb) (sym is) (settled.sets from of tcb base radix guard other in_from in_of may_of may)
    set_stays tcb of from (Tcb base) made in_of may_of in_from may h is = cc

    space_stays : (slot root word : ℕ) (new : NewSpace) → LiesAmong flow (flow.names c) slot →
        checked_space p f thread slot root word ≡ Ok new → StandsAt flow new.tcb new.cap
    space_stays slot root word new in_of h =
        let tcb = passed (checked_tcb slot (cap_at f slot)) _ new h in
        let source = passed (slot_by_word p f Root thread root) _ new tcb.1.1 in
        let cap = passed (space_cap p word source.0 (cap_at f source.0)) _ new source.1.1 in
        let found : NewSpace = record { tcb = tcb.0; invoked = slot; source = source.0; cap = cap.0 } in
        let node = made_space p word source.0 (cap_at f source.0) cap.0 cap.1.0 in
        let may_of : flow.may (flow.set_of slot) (Tcb tcb.0) ≡ true = subst (λ (it : Cap). flow.may (flow.set_of slot) it ≡ true) (tcb_named slot (cap_at f slot) tcb.0 tcb.1.0) (held slot) in
        let from = node_lies p flow c settled f held thread root source.0 own (word_passed p f Root thread root source.0 source.1.0) node.0 in
        subst (λ (n : NewSpace). StandsAt flow n.tcb n.cap) (ok_same found new cap.1.1)
        (set_stays tcb.0 (flow.set_of slot) (flow.set_of source.0) (cap_at f source.0) cap.0 in_of may_of from (held source.0) node.0 node.1)

    invocation_stays : (o : Op) (slot : ℕ) (done : Invocation) → LiesAmong flow (flow.names c) slot → IsFilledFrom slot → checked_invocation p f thread o slot ≡ Ok done →
        StaysIn done
    invocation_stays (op.Retype cap kind size_bits root index depth offset count) slot done here filled h =
        made_passed StaysIn invocation.Retype _ done
        (λ new is. retype_stays slot (objects_asked kind size_bits root index depth offset count) new here is) h
    invocation_stays (op.CapCopy cap index depth src_root src_index src_depth rights) slot done here filled h =
        made_passed StaysIn invocation.Derive _ done
        (λ placement is. placement_stays slot (slots_named index depth src_root src_index src_depth) (Copy rights) placement filled is) h
    invocation_stays (op.CapMint cap index depth src_root src_index src_depth rights word) slot done here filled h =
        made_passed StaysIn invocation.Derive _ done
        (λ placement is. placement_stays slot (slots_named index depth src_root src_index src_depth) (Mint rights word) placement filled is) h
    invocation_stays (op.CapMove cap index depth src_root src_index src_depth) slot done here filled h =
        made_passed StaysIn invocation.Move _ done
        (λ placement is. placement_stays slot (slots_named index depth src_root src_index src_depth) Move placement filled is) h
    invocation_stays (op.CapMutate cap index depth src_root src_index src_depth word) slot done here filled h =
        made_passed StaysIn invocation.Move _ done
        (λ placement is. placement_stays slot (slots_named index depth src_root src_index src_depth) (Mutate word) placement filled is) h
    invocation_stays (op.CapDelete cap index depth) slot done here filled h = made_passed StaysIn invocation.Delete _ done (λ target is. tt) h
    invocation_stays (op.CapRevoke cap index depth) slot done here filled h = made_passed StaysIn invocation.Revoke _ done (λ target is. tt) h
    invocation_stays (op.CancelBadged cap index depth) slot done here filled h = made_passed StaysIn invocation.CancelBadged _ done (λ service is. tt) h
    invocation_stays (op.Send cap message) slot done among filled h =
        made_passed StaysIn (λ service. invocation.Send service message true) _ done
        (λ service is. served Write slot (flow.set_of slot) (cap_at f slot) service among (held slot) is) h
    invocation_stays (op.NbSend cap message) slot done among filled h =
        made_passed StaysIn (λ service. invocation.Send service message false) _ done
        (λ service is. served Write slot (flow.set_of slot) (cap_at f slot) service among (held slot) is) h
    invocation_stays (op.Recv cap) slot done among filled h =
        made_passed StaysIn (λ service. invocation.Receive service true) _ done
        (λ service is. served Read slot (flow.set_of slot) (cap_at f slot) service among (held slot) is) h
    invocation_stays (op.NbRecv cap) slot done among filled h =
        made_passed StaysIn (λ service. invocation.Receive service false) _ done
        (λ service is. served Read slot (flow.set_of slot) (cap_at f slot) service among (held slot) is) h
    invocation_stays (op.SetSpace cap root word) slot done here filled h =
        made_passed StaysIn invocation.SetSpace _ done (λ new is. space_stays slot root word new here is) h
    invocation_stays (op.Suspend cap) slot done here filled h = made_passed StaysIn invocation.Suspend _ done (λ tcb is. tt) h
    invocation_stays (op.Resume cap) slot done here filled h =
        made_passed StaysIn invocation.Resume _ done
        (λ tcb is. (
          flow.set_of slot,
          (here, subst (λ (it : Cap). flow.may (flow.set_of slot) it ≡ true) (tcb_named slot (cap_at f slot) tcb is) (held slot)),
        )) h

    pub op_stays : (o : Op) (done : Invocation) → checked_op p f thread o ≡ Ok done → StaysIn done
    op_stays o done h =
        let slot = passed (slot_by_word p f Invoked thread (service_word o)) (checked_invocation p f thread o) done h in
        invocation_stays o slot.0 done (by_word Invoked (service_word o) slot.0 slot.1.0) (filled_by Invoked (service_word o) slot.0 slot.1.0) slot.1.1
