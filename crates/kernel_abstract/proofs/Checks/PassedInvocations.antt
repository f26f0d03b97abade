-- What the checks show of an invocation.
use Rattle.std.proofs.Common.{◌≡◌, ℕ, ◌+◌, ◌<◌, ◌≤◌, ◌⊎◌, Bool, true, false, cond, not, ◌||◌, List, [], ◌∷◌, Option, Some, None, Result, Ok, Err, All, refl, sym, ap, subst, ◌∙◌, arith}
use Rattle.std.specs.List.{find, list_any, range_with_len}
use Rattle.cap_core.specs.declared.profile.ProfileName.{ProfileName}
use Rattle.cap_core.specs.declared.capability.Cap.{Cap}
use Rattle.cap_core.specs.declared.capability.Cap.TheVariants.{Null, Untyped, Endpoint, CNode, Tcb}
use Rattle.cap_core.specs.Objects.{is_null, IsLawful}
use Rattle.mem_core.specs.Shapes.{shape_of}
use Rattle.mem_core.specs.Plans.{LieInUntyped}
use Rattle.mem_core.proofs.Lawful.{lawful_shape}
use Rattle.kernel_forest.specs.Forest.{Forest}
use Rattle.kernel_forest.specs.Entries.{Entry, caps, cap_at}
use Rattle.cspace_core.specs.Resolution.{slot_of}
use Rattle.cspace_core.proofs.Nodes.{lawful_node}
use Rattle.cap_core.specs.declared.capability.Kind.TheVariants as kind
use Rattle.std.specs.FinMap.{get}
use Rattle.kernel_abstract.specs.declared.call.Call.{Call}
use Rattle.kernel_abstract.specs.declared.call.ThreadState.{ThreadState}
use Rattle.kernel_abstract.specs.declared.call.ThreadState.TheVariants.{Ready, Inactive, Sending, Receiving}
use Rattle.kernel_abstract.specs.declared.call.Op.{Op}
use Rattle.kernel_abstract.specs.declared.call.Op.TheVariants as op
use Rattle.kernel_abstract.specs.declared.invocation.NewObjects.{NewObjects}
use Rattle.kernel_abstract.specs.declared.invocation.RetypeArguments.{RetypeArguments}
use Rattle.kernel_abstract.specs.declared.invocation.Invocation.{Invocation}
use Rattle.kernel_abstract.specs.declared.invocation.Invocation.TheVariants.{Send, Receive, Retype, Derive, Move, Delete, Revoke, CancelBadged, SetSpace, Suspend, Resume}
use Rattle.kernel_abstract.specs.Memory.{IsSlotAddress}
use Rattle.cap_core.specs.declared.limits.TheConstants.{MAX_RETYPE_COUNT}
use Rattle.kernel_abstract.specs.Shown.{Shown, ThreadView, has_child}
use Rattle.kernel_abstract.specs.Decode.{service_word, objects_asked, slots_named}
use Rattle.kernel_abstract.specs.declared.reason.Word.{Word}
use Rattle.kernel_abstract.specs.declared.reason.Word.TheVariants.{Invoked, Root}
use Rattle.kernel_abstract.specs.declared.reason.Held.{Held}
use Rattle.kernel_abstract.specs.declared.reason.Reason.{Reason}
use Rattle.kernel_abstract.specs.Reasons.{because, held_at}
use Rattle.kernel_abstract.specs.Lookups.{slot_by_word, of_kind}
use Rattle.kernel_abstract.specs.Retyping.{checked_shape, node_slot, node_word, within_node, first_full, ensure_none_full, first_slot, no_room, checked_retype}
use Rattle.mem_core.specs.Plans.{placed_in}
use Rattle.kernel_abstract.specs.Decode.{checked_invocation, checked_op, ensure_ready, ensure_live, checked_call, decoded_call}
use Rattle.kernel_abstract.specs.Private.Invocations.{IsRetype, IsDerivation, IsMove, IsNamedSlot, IsLiveThread, IsSpace}
use Rattle.kernel_abstract.proofs.Checks.Walked.{unrefused}
use Rattle.kernel_abstract.proofs.Checks.FoundSlots.{passed, made_passed, ok_same, kind_passed, lawful_at, empty_at, none_of_range, not_false}
use Rattle.mem_core.proofs.Placing.{placed_lie}
use Rattle.kernel_abstract.proofs.Checks.FilledSlots.{along, slots_there, slot_address}
use Rattle.cspace_core.specs.Inside.{IsSlotOf}
use Rattle.kernel_delete.specs.Members.{In}
use Rattle.kernel_forest.specs.Slots.{slots_of}
use Rattle.kernel_delete.specs.Housed.{is_housed}
use Rattle.kernel_abstract.proofs.Housed.FoundSlots.{slot_in, housed_by}
use Rattle.kernel_abstract.proofs.Checks.PassedCNodeChecks.{copy_derives, mint_derives, move_moves, mutate_moves}
use Rattle.kernel_abstract.proofs.Checks.PassedSpaceChecks.{slot_shows, tcb_shows, space_shows}

-- the slots that are filled: as many as a retype fills, empty, and in the memory
record AreFilled (p : ProfileName) (f : Forest Entry) (first count : ℕ) (node : Cap) : Type 0 where
  some : 1 ≤ count
  most : count ≤ MAX_RETYPE_COUNT
  empty : (i : ℕ) → i < count → is_null (cap_at f (slot_of p first i)) ≡ true
  housed : ((slot : ℕ) × (cap_at f slot ≡ node)) → (i : ℕ) → i < count → is_housed p f (slot_of p first i) ≡ true
  slots : (memory : ℕ) → (node ≡ Null) ⊎ IsLawful p memory node → (i : ℕ) → i < count → IsSlotAddress p memory (slot_of p first i)

-- a search finds none of a list of which none passes
none_or : (t : Bool) (x : ℕ) (o : Option ℕ) (rest : Bool) → (o ≡ None → rest ≡ false) → cond t (Some x) o ≡ None → (t || rest) ≡ false
none_or true x o rest next h = cc
none_or false x o rest next h = next h

none_found : (test : ℕ → Bool) (xs : List ℕ) → find test xs ≡ None → list_any test xs ≡ false
none_found test [] h = refl
none_found test (x ∷ xs) h = none_or (test x) x (find test xs) (list_any test xs) (none_found test xs) h

pub none_full : (p : ProfileName) (f : Forest Entry) (word : Word) (node : Held) (offset first there : ℕ) (o : Option ℕ) →
    ensure_none_full p f word node offset first o ≡ Ok there → (o ≡ None) × (first ≡ there)
none_full p f word node offset first there None h = (refl, ok_same first there h)
none_full p f word node offset first there (Some i) h = cc

first_passed : (p : ProfileName) (f : Forest Entry) (word : Word) (offset count at first : ℕ) (node : Cap) → first_slot p f word offset count at node ≡ Ok first → AreFilled p f first count node
first_passed p f word offset count at first Null h = cc
first_passed p f word offset count at first (Untyped base bits free) h = cc
first_passed p f word offset count at first (Endpoint base badge rights) h = cc
first_passed p f word offset count at first (CNode base radix guard) h =
    let held : Held = record { slot = at; cap = CNode base radix guard } in
    let range = passed (within_node word held radix offset count (slot_of p base offset)) _ first h in
    let slots = slots_there word held radix offset count (slot_of p base offset) range.0 range.1.0 in
    let there = slots.0 in
    let empty = none_full p f word held offset range.0 first (first_full p f range.0 count) range.1.1 in
    subst (λ n. AreFilled p f n count (CNode base radix guard)) (slots.1 ∙ empty.1)
    (record {
      some = there.some;
      most = there.most;
      empty = λ i low. not_false _ (none_of_range (λ i. not (is_null (cap_at f (slot_of p (slot_of p base offset) i)))) count i
          (none_found _ (range_with_len 0 count) (subst (λ n. first_full p f n count ≡ None) (sym slots.1) empty.0)) low);
      housed = λ held i low.
          let fits = there.within in
          let at : IsSlotOf p (CNode base radix guard) (slot_of p (slot_of p base offset) i) =
          (offset + i, (omega (arith, fits, low), along p base offset i)) in
          housed_by p f held.0 (slot_of p (slot_of p base offset) i)
          (subst (λ cap. In (slot_of p (slot_of p base offset) i) (slots_of p cap)) (sym held.1)
          (slot_in p (CNode base radix guard) (slot_of p (slot_of p base offset) i) at));
      slots = λ memory lawful i low. slot_address p memory base radix offset count i guard (lawful_node p memory base radix guard lawful) there low;
    })
first_passed p f word offset count at first (Tcb base) h = cc

because_passed : {X E : Type 0} (reason : Reason) (r : Result X E) (x : X) → because reason r ≡ Ok x → r ≡ Ok x
because_passed reason (Ok y) x h = ap Ok (ok_same y x h)
because_passed reason (Err failure) x h = cc

retype_shows : (p : ProfileName) (memory : ℕ) (f : Forest Entry) → All (IsLawful p memory) (caps f) → (thread slot : ℕ) (asked : RetypeArguments) (new : NewObjects) →
    checked_retype p f thread slot asked ≡ Ok new → IsRetype p f new
retype_shows p memory f all thread slot asked new h =
    let untyped = passed (of_kind kind.Untyped (held_at (cap_at f) slot)) _ new h in
    let root = passed (slot_by_word p f Root thread asked.root) _ new untyped.1.1 in
    let shape = passed (checked_shape p asked.kind asked.size_bits) _ new root.1.1 in
    let node = passed (node_slot p f root.0 asked.index asked.depth) _ new shape.1.1 in
    let first = passed (first_slot p f (node_word asked.depth) asked.offset asked.count node.0 (cap_at f node.0)) _ new node.1.1 in
    let placed = passed (because (no_room slot (has_child slot f) shape.0.bits untyped.0) (placed_in (has_child slot f) shape.0.bits asked.count untyped.0)) _ new first.1.1 in
    let found : NewObjects = record { untyped = slot; shape = shape.0; placed = placed.0; first_slot = first.0; count = asked.count } in
    let found_kind = kind_passed kind.Untyped (held_at (cap_at f) slot) untyped.0 untyped.1.0 in
    let filled = first_passed p f (node_word asked.depth) asked.offset asked.count node.0 first.0 (cap_at f node.0) first.1.0 in
    subst (IsRetype p f) (ok_same found new placed.1.1)
    (record {
      untyped = found_kind.0;
      shape = lawful_shape p asked.kind asked.size_bits shape.0 (because_passed _ (shape_of p asked.kind asked.size_bits) shape.0 shape.1.0);
      some = filled.some;
      most = filled.most;
      placed = subst (λ cap. LieInUntyped cap (has_child slot f) shape.0.bits asked.count placed.0) (sym found_kind.1)
          (placed_lie (has_child slot f) shape.0.bits asked.count untyped.0 placed.0 filled.some (because_passed _ (placed_in (has_child slot f) shape.0.bits asked.count untyped.0) placed.0 placed.1.0));
      empty = λ i low. empty_at p memory f all (slot_of p first.0 i) (filled.empty i low);
      housed = λ i low. filled.housed (node.0, refl) i low;
      slots = λ m lawful i low. filled.slots m (lawful_at p m f lawful node.0) i low;
    })

-- what the checks show of an invocation that touches capabilities or threads
abbrev pub IsEdit : ProfileName → Forest Entry → Invocation → Type 0
IsEdit p f (Send service message block) = Unit {0}
IsEdit p f (Receive service block) = Unit {0}
IsEdit p f (Retype new) = IsRetype p f new
IsEdit p f (Derive placement) = IsDerivation p f placement
IsEdit p f (Move placement) = IsMove p f placement
IsEdit p f (Delete slot) = IsNamedSlot p f slot
IsEdit p f (Revoke slot) = IsNamedSlot p f slot
IsEdit p f (CancelBadged service) = Unit {0}
IsEdit p f (SetSpace new) = IsSpace p f new
IsEdit p f (Suspend tcb) = IsLiveThread f tcb
IsEdit p f (Resume tcb) = IsLiveThread f tcb

module _ (p : ProfileName) (memory : ℕ) (f : Forest Entry) (all : All (IsLawful p memory) (caps f)) where
  invocation_edit : (thread : ℕ) (o : Op) (slot : ℕ) (invocation : Invocation) → checked_invocation p f thread o slot ≡ Ok invocation → IsEdit p f invocation
  invocation_edit thread (op.Retype cap kind size_bits root index depth offset count) slot invocation h =
      made_passed (IsEdit p f) Retype _ invocation
      (λ new is. retype_shows p memory f all thread slot
      (objects_asked kind size_bits root index depth offset count) new is) h
  invocation_edit thread (op.CapCopy cap index depth src_root src_index src_depth rights) slot invocation h =
      made_passed (IsEdit p f) Derive _ invocation
      (λ placement is. copy_derives p memory f all thread slot
      (slots_named index depth src_root src_index src_depth) placement rights is) h
  invocation_edit thread (op.CapMint cap index depth src_root src_index src_depth rights word) slot invocation h =
      made_passed (IsEdit p f) Derive _ invocation
      (λ placement is. mint_derives p memory f all thread slot
      (slots_named index depth src_root src_index src_depth) placement rights word is) h
  invocation_edit thread (op.CapMove cap index depth src_root src_index src_depth) slot invocation h =
      made_passed (IsEdit p f) Move _ invocation
      (λ placement is. move_moves p memory f all thread slot
      (slots_named index depth src_root src_index src_depth) placement is) h
  invocation_edit thread (op.CapMutate cap index depth src_root src_index src_depth word) slot invocation h =
      made_passed (IsEdit p f) Move _ invocation
      (λ placement is. mutate_moves p memory f all thread slot
      (slots_named index depth src_root src_index src_depth) placement word is) h
  invocation_edit thread (op.CapDelete cap index depth) slot invocation h =
      made_passed (IsEdit p f) Delete _ invocation (slot_shows p f slot index depth) h
  invocation_edit thread (op.CapRevoke cap index depth) slot invocation h =
      made_passed (IsEdit p f) Revoke _ invocation (slot_shows p f slot index depth) h
  invocation_edit thread (op.CancelBadged cap index depth) slot invocation h =
      made_passed (IsEdit p f) CancelBadged _ invocation (λ service is. tt) h
  invocation_edit thread (op.Send cap message) slot invocation h =
      made_passed (IsEdit p f) (λ service. Send service message true) _ invocation (λ service is. tt) h
  invocation_edit thread (op.NbSend cap message) slot invocation h =
      made_passed (IsEdit p f) (λ service. Send service message false) _ invocation (λ service is. tt) h
  invocation_edit thread (op.Recv cap) slot invocation h =
      made_passed (IsEdit p f) (λ service. Receive service true) _ invocation (λ service is. tt) h
  invocation_edit thread (op.NbRecv cap) slot invocation h =
      made_passed (IsEdit p f) (λ service. Receive service false) _ invocation (λ service is. tt) h
  invocation_edit thread (op.SetSpace cap root word) slot invocation h =
      made_passed (IsEdit p f) SetSpace _ invocation (space_shows p f thread slot root word) h
  invocation_edit thread (op.Suspend cap) slot invocation h =
      made_passed (IsEdit p f) Suspend _ invocation (tcb_shows f slot) h
  invocation_edit thread (op.Resume cap) slot invocation h =
      made_passed (IsEdit p f) Resume _ invocation (tcb_shows f slot) h

  pub invoked_edit : (thread : ℕ) (o : Op) (invocation : Invocation) → checked_op p f thread o ≡ Ok invocation → IsEdit p f invocation
  invoked_edit thread o invocation h =
      let slot = passed (slot_by_word p f Invoked thread (service_word o)) (checked_invocation p f thread o) invocation h in
      invocation_edit thread o slot.0 invocation slot.1.1

-- a call that passes passed the checks of its operation
ready_found : (s : ThreadState) (found : Result Invocation Reason) (invocation : Invocation) → ensure_ready s found ≡ Ok invocation → found ≡ Ok invocation
ready_found Ready found invocation h = h
ready_found Inactive found invocation h = cc
ready_found (Sending e) found invocation h = cc
ready_found (Receiving e) found invocation h = cc

live_found : (o : Option ThreadView) (found : Result Invocation Reason) (invocation : Invocation) → ensure_live o found ≡ Ok invocation → found ≡ Ok invocation
live_found None found invocation h = cc
live_found (Some thread) found invocation h = ready_found thread.state found invocation h

pub call_passed : (p : ProfileName) (v : Shown) (call : Call) (invocation : Invocation) → decoded_call p v call ≡ Ok invocation →
    checked_op p v.derivations call.thread call.op ≡ Ok invocation
call_passed p v call invocation h =
    live_found (get v.threads call.thread) (checked_op p v.derivations call.thread call.op) invocation (unrefused (checked_call p v call) invocation h)
