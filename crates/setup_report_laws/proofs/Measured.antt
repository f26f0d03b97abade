-- In each state that a run reaches, the badges of endpoint capabilities have at most 64 bits, and their rights are among the
-- four; and so each number of a capability has at most 64 bits.
use Rattle.std.proofs.Common.{◌≡◌, ℕ, ◌+◌, ◌≤◌, ◌<◌, ◌%◌, ◌^◌, ◌==◌, ◌&&◌, Bool, true, false, cond, not, List, [], ◌∷◌, ◌++◌, map, All, Some, Result, Ok, Err, refl, sym, subst, arith}
use Rattle.std.specs.List.{AllByRecursion as Each, range_with_len}
use Rattle.std.proofs.Math.Pow.{pow_mono}
use Rattle.std.proofs.lemmas.Nat.{and_le_l, mod_below, pow_pos}
use Rattle.std.proofs.lemmas.List.Elements.{All-from_recursion, recursion_from_All}
use Rattle.cap_core.specs.declared.profile.ProfileName.{ProfileName}
use Rattle.cap_core.specs.declared.profile.ProfileName.TheVariants.{Wide, Narrow}
use Rattle.cap_core.specs.declared.refusal.Refusal.{Refusal}
use Rattle.cap_core.specs.declared.rights.Rights.{Rights}
use Rattle.cap_core.specs.declared.capability.Cap.{Cap}
use Rattle.cap_core.specs.declared.capability.Cap.TheVariants.{Null, Untyped, Endpoint, CNode, Tcb}
use Rattle.cap_core.specs.declared.capability.Kind.{Kind}
use Rattle.cap_core.specs.declared.capability.Kind.TheVariants as kind
use Rattle.cap_core.specs.Kinds.{new_cap}
use Rattle.cap_core.specs.Minting.{masked, with_data, guarded, guard_held}
use Rattle.cap_core.specs.Numbers.{badge_bits, max_object_bits, word_bits}
use Rattle.cap_core.specs.Rights.{all_rights}
use Rattle.cap_core.specs.Objects.{is_untyped, base_of, bits_of, IsLawful}
use Rattle.mem_core.specs.Plans.{object_at}
use Rattle.kernel_forest.specs.Forest.{Forest, none, preorder}
use Rattle.kernel_forest.specs.Entries.{Entry, entry, caps, cap_at, cap_in, is_full}
use Rattle.kernel_forest.specs.Derivation.{derived, freed, with_free}
use Rattle.kernel_forest.proofs.Trees.Forests.{each-append, each-contained}
use Rattle.kernel_forest.proofs.Slots.Edits.{each-derived, each-rooted}
use Rattle.kernel_forest.proofs.Slots.Freed.{each-freed}
use Rattle.kernel_forest.proofs.Slots.Moved.{each-moved}
use Rattle.cspace_core.specs.Resolution.{is_cnode, slot_of}
use Rattle.kernel_delete.specs.Clear.{clear}
use Rattle.kernel_delete.specs.Least.{cleared}
use Rattle.kernel_delete.proofs.Kept.{each-without, kept-revoke}
use Rattle.kernel_abstract.specs.declared.call.Call.{Call}
use Rattle.kernel_abstract.specs.declared.call.Op.{Op}
use Rattle.kernel_abstract.specs.declared.call.Op.TheVariants as op
use Rattle.kernel_abstract.specs.declared.call.Reply.{Reply}
use Rattle.kernel_abstract.specs.declared.invocation.CapPlacement.{CapPlacement}
use Rattle.kernel_abstract.specs.declared.invocation.Change.{Change}
use Rattle.kernel_abstract.specs.declared.invocation.Change.TheVariants.{Copy, Mint, Move, Mutate}
use Rattle.kernel_abstract.specs.declared.invocation.Invocation.{Invocation}
use Rattle.kernel_abstract.specs.declared.invocation.Invocation.TheVariants as invocation
use Rattle.kernel_abstract.specs.declared.invocation.NewObjects.{NewObjects}
use Rattle.kernel_abstract.specs.declared.invocation.NewSpace.{NewSpace}
use Rattle.kernel_abstract.specs.declared.invocation.SlotArguments.{SlotArguments}
use Rattle.kernel_abstract.specs.Boot.{boot, boot_caps, boot_tcbs, root_cap, tcb_caps, endpoint_caps, untyped_caps, whole_endpoint, with_roots, with_spaces}
use Rattle.kernel_abstract.specs.declared.reason.Word.TheVariants.{Invoked, Root, SourceRoot, Index, SourceIndex}
use Rattle.kernel_abstract.specs.Reasons.{held_at}
use Rattle.kernel_abstract.specs.CNodes.{changed_cap, checked_placement, ensure_derivable, ensure_set, no_data, with_derived}
use Rattle.kernel_abstract.specs.Decode.{checked_invocation, checked_op, decoded_call, service_word, slots_named}
use Rattle.kernel_abstract.specs.Lookups.{ensure_empty, ensure_full, of_kind, slot_by_index, slot_by_word}
use Rattle.kernel_abstract.specs.Plan.{Plan, tcb_place, endpoint_place}
use Rattle.kernel_abstract.specs.Reached.{IsReached}
use Rattle.kernel_abstract.specs.Retyping.{new_caps, with_objects}
use Rattle.kernel_abstract.specs.State.{State, shown, endpoint_at}
use Rattle.kernel_abstract.specs.Step.{Outcome, is_receive_awaited, is_send_awaited, outcome, performed, receive_accepted, send_accepted, state_after, step, where_awaited}
use Rattle.kernel_abstract.specs.Threads.{checked_space, checked_tcb, space_cap, with_space}
use Rattle.kernel_abstract.proofs.Checks.FoundSlots.{passed, made_passed, cond_passed, ok_same}
use Rattle.kernel_abstract.proofs.Checks.PassedCNodeChecks.{derivable_passed, set_passed, where_some}
use Rattle.kernel_abstract.proofs.Checks.PassedInvocations.{call_passed}
use Rattle.kernel_abstract.proofs.Reached.Simulation.{reached_is}
use Rattle.kernel_abstract.proofs.Retype.PutInOrder.{each-with_new}
use Rattle.setup_report_laws.specs.Laws.{IsWithinWords}

-- ---- badges and rights

abbrev IsMeasured : Cap → Type 0
IsMeasured Null = Unit {0}
IsMeasured (Untyped base bits free) = Unit {0}
IsMeasured (Endpoint base badge rights) = (badge.0 < 2 ^ 64) × (rights.0 ≤ all_rights.0)
IsMeasured (CNode base radix guard) = Unit {0}
IsMeasured (Tcb base) = Unit {0}

masked_measured : (rights : Rights) (cap : Cap) → IsMeasured cap → IsMeasured (masked rights cap)
masked_measured rights Null h = tt
masked_measured rights (Untyped base bits free) h = tt
masked_measured rights (Endpoint base badge had) h = (h.0, omega (arith, h.1, and_le_l had.0 rights.0))
masked_measured rights (CNode base radix guard) h = tt
masked_measured rights (Tcb base) h = tt

badge_short : (p : ProfileName) (word : ℕ) → word % 2 ^ badge_bits p < 2 ^ 64
badge_short Wide word = mod_below word (2 ^ 64) (pow_pos 64)
badge_short Narrow word =
    let less : word % 2 ^ 28 < 2 ^ 28 = mod_below word (2 ^ 28) (pow_pos 28) in
    omega (arith, less)

node_measured : (p : ProfileName) (base radix word : ℕ) (made : Cap) → guarded p base radix (guard_held p word) ≡ Some made → IsMeasured made
node_measured p base radix word made h = subst IsMeasured (where_some _ (CNode base radix (guard_held p word)) made h).1 tt

some_same : (a b : Cap) → Some a ≡ Some b → a ≡ b
some_same a b h = cc

data_measured : (p : ProfileName) (preserve : Bool) (word : ℕ) (cap made : Cap) → IsMeasured cap → with_data p preserve word cap ≡ Some made → IsMeasured made
data_measured p preserve word Null made h set = subst IsMeasured (some_same Null made set) tt
data_measured p preserve word (Untyped base bits free) made h set = subst IsMeasured (some_same (Untyped base bits free) made set) tt
data_measured p preserve word (Endpoint base badge rights) made h set =
    let new = where_some (not preserve && badge.0 == 0) (Endpoint base (record { 0 = word % 2 ^ badge_bits p }) rights) made set in
    subst IsMeasured new.1 (badge_short p word, h.1)
data_measured p preserve word (CNode base radix guard) made h set = node_measured p base radix word made set
data_measured p preserve word (Tcb base) made h set = subst IsMeasured (some_same (Tcb base) made set) tt

derivable_measured : (f : Forest Entry) (source : ℕ) (cap made : Cap) → IsMeasured cap → ensure_derivable f source cap ≡ Ok made → IsMeasured made
derivable_measured f source cap made h is = subst IsMeasured (derivable_passed f source cap made is).0 h

changed_measured : (p : ProfileName) (f : Forest Entry) (source : ℕ) (change : Change) (cap made : Cap) → IsMeasured cap → changed_cap p f source change cap ≡ Ok made → IsMeasured made
changed_measured p f source (Copy rights) cap made h is = derivable_measured f source (masked rights cap) made (masked_measured rights cap h) is
changed_measured p f source (Mint rights word) cap made h is =
    let set = passed (ensure_set (no_data p SourceIndex word source cap) (with_data p false word (masked rights cap))) (ensure_derivable f source) made is in
    derivable_measured f source set.0 made
    (data_measured p false word (masked rights cap) set.0 (masked_measured rights cap h) (set_passed _ _ set.0 set.1.0)) set.1.1
changed_measured p f source Move cap made h is = subst IsMeasured (ok_same cap made is) h
changed_measured p f source (Mutate word) cap made h is = data_measured p true word cap made h (set_passed _ _ made is)

space_measured : (p : ProfileName) (word source : ℕ) (cap made : Cap) → IsMeasured cap → space_cap p word source cap ≡ Ok made → IsMeasured made
space_measured p word source cap made h is =
    let node = cond_passed (is_cnode cap) _ _ made is in
    by (word == 0) node.1
  where
    by : (none : Bool) → cond none (Ok cap) (ensure_set (no_data p Root word source cap) (with_data p false word cap)) ≡ Ok made → IsMeasured made
    by true e = subst IsMeasured (ok_same cap made e) h
    by false e = data_measured p false word cap made h (set_passed _ _ made e)

new_measured : (k : Kind) (base bits : ℕ) → IsMeasured (new_cap k base bits)
new_measured kind.Untyped base bits = tt
new_measured kind.Tcb base bits = tt
new_measured kind.Endpoint base bits = (omega arith, omega arith)
new_measured kind.CNode base bits = tt

freed_measured : (free : ℕ) (cap : Cap) → IsMeasured cap → IsMeasured (with_free free cap)
freed_measured free Null h = tt
freed_measured free (Untyped base bits former) h = tt
freed_measured free (Endpoint base badge rights) h = h
freed_measured free (CNode base radix guard) h = tt
freed_measured free (Tcb base) h = tt

-- ---- forests

abbrev Holds : Entry → Type 0
Holds e = IsMeasured e.cap

abbrev AreMeasured : Forest Entry → Type 0
AreMeasured f = Each Holds (preorder f)

held_measured : (slot : ℕ) (list : List Entry) → Each Holds list → IsMeasured (cap_in slot list)
held_measured slot [] h = tt
held_measured slot (e ∷ list) h =
    elim (e.slot == slot) as (λ b. IsMeasured (cond b e.cap (cap_in slot list))) [
      | true ↦ h.0
      | false ↦ held_measured slot list h.1
    ]

after_free : (slot free : ℕ) (f : Forest Entry) → AreMeasured f → AreMeasured (freed slot free f)
after_free slot free f h = each-freed Holds slot free f h (λ e in_it is. freed_measured free e.cap (each-contained Holds (preorder f) e h in_it))

after_objects : (p : ProfileName) (new : NewObjects) (f : Forest Entry) → AreMeasured f → AreMeasured (with_objects p new f)
after_objects p new f h =
    each-with_new Holds new.untyped (new_caps p new) (freed new.untyped new.placed.free f) (after_free new.untyped new.placed.free f h) (all_new (range_with_len 0 new.count))
  where
    all_new : (places : List ℕ) → Each (λ (put : ℕ × Cap). Holds (entry put.0 put.1 true))
        (map (λ i. (slot_of p new.first_slot i, new_cap new.shape.kind (object_at new.placed i) new.shape.size_bits)) places)
    all_new [] = tt
    all_new (i ∷ places) = (new_measured new.shape.kind (object_at new.placed i) new.shape.size_bits, all_new places)

after_derived : (p : ProfileName) (placement : CapPlacement) (f : Forest Entry) → IsMeasured placement.cap → AreMeasured f → AreMeasured (with_derived p placement f)
after_derived p placement f made h =
    let put = derived placement.source placement.slot placement.cap f in
    let there = each-derived Holds placement.source placement.slot placement.cap f h made in
    elim (is_untyped placement.cap) as (λ b. AreMeasured (cond b (freed placement.source (2 ^ bits_of p placement.cap) put) put)) [
      | true ↦ after_free placement.source (2 ^ bits_of p placement.cap) put there
      | false ↦ there
    ]

after_clear : (p : ProfileName) (slot : ℕ) (f : Forest Entry) → AreMeasured f → AreMeasured (clear p slot f)
after_clear p slot f h = each-without Holds (λ (e : Entry). cleared p (preorder f) slot e.slot) f h

after_space : (p : ProfileName) (new : NewSpace) (f : Forest Entry) → IsMeasured new.cap → AreMeasured f → AreMeasured (with_space p new f)
after_space p new f made h =
    let g = clear p new.tcb f in
    let left = after_clear p new.tcb f h in
    elim (is_full new.source g && is_full new.invoked g) as (λ b. AreMeasured (cond b (derived new.source new.tcb new.cap g) g)) [
      | true ↦ each-derived Holds new.source new.tcb new.cap g left made
      | false ↦ left
    ]

-- ---- what calls make

abbrev MakesMeasured : Invocation → Type 0
MakesMeasured (invocation.Derive placement) = IsMeasured placement.cap
MakesMeasured (invocation.Move placement) = IsMeasured placement.cap
MakesMeasured (invocation.SetSpace new) = IsMeasured new.cap
MakesMeasured (invocation.Send service message block) = Unit {0}
MakesMeasured (invocation.Receive service block) = Unit {0}
MakesMeasured (invocation.Retype new) = Unit {0}
MakesMeasured (invocation.Delete slot) = Unit {0}
MakesMeasured (invocation.Revoke slot) = Unit {0}
MakesMeasured (invocation.CancelBadged service) = Unit {0}
MakesMeasured (invocation.Suspend tcb) = Unit {0}
MakesMeasured (invocation.Resume tcb) = Unit {0}

module _ (p : ProfileName) (f : Forest Entry) (h : AreMeasured f) (thread : ℕ) where
  placement_measured : (at : ℕ) (asked : SlotArguments) (change : Change) (placement : CapPlacement) → checked_placement p f thread at asked change ≡ Ok placement → IsMeasured placement.cap
  placement_measured at asked change placement is =
      let node = passed (of_kind kind.CNode (held_at (cap_at f) at)) _ placement is in
      let root = passed (slot_by_word p f SourceRoot thread asked.src_root) _ placement node.1.1 in
      let target = passed (ensure_empty f (slot_by_index p (cap_at f) Index at asked.index asked.depth)) _ placement root.1.1 in
      let source = passed (ensure_full f (slot_by_index p (cap_at f) SourceIndex root.0 asked.src_index asked.src_depth)) _ placement target.1.1 in
      let made = passed (changed_cap p f source.0 change (cap_at f source.0)) _ placement source.1.1 in
      let found : CapPlacement = record { source = source.0; slot = target.0; cap = made.0 } in
      let same : found ≡ placement = ok_same found placement made.1.1 in
      subst (λ (x : CapPlacement). IsMeasured x.cap) same
      (changed_measured p f source.0 change (cap_at f source.0) made.0 (held_measured source.0 (preorder f) h) made.1.0)

  new_space_measured : (slot root word : ℕ) (new : NewSpace) → checked_space p f thread slot root word ≡ Ok new → IsMeasured new.cap
  new_space_measured slot root word new is =
      let tcb = passed (checked_tcb slot (cap_at f slot)) _ new is in
      let source = passed (slot_by_word p f Root thread root) _ new tcb.1.1 in
      let cap = passed (space_cap p word source.0 (cap_at f source.0)) _ new source.1.1 in
      let found : NewSpace = record { tcb = tcb.0; invoked = slot; source = source.0; cap = cap.0 } in
      let same : found ≡ new = ok_same found new cap.1.1 in
      subst (λ (x : NewSpace). IsMeasured x.cap) same
      (space_measured p word source.0 (cap_at f source.0) cap.0 (held_measured source.0 (preorder f) h) cap.1.0)

  invocation_measured : (o : Op) (slot : ℕ) (done : Invocation) → checked_invocation p f thread o slot ≡ Ok done → MakesMeasured done
  invocation_measured (op.Retype cap kind size_bits root index depth offset count) slot done is =
      made_passed MakesMeasured invocation.Retype _ done (λ new e. tt) is
  invocation_measured (op.CapCopy cap index depth src_root src_index src_depth rights) slot done is =
      made_passed MakesMeasured invocation.Derive _ done
      (λ placement e. placement_measured slot (slots_named index depth src_root src_index src_depth) (Copy rights) placement e) is
  invocation_measured (op.CapMint cap index depth src_root src_index src_depth rights word) slot done is =
      made_passed MakesMeasured invocation.Derive _ done
      (λ placement e. placement_measured slot (slots_named index depth src_root src_index src_depth) (Mint rights word) placement e) is
  invocation_measured (op.CapMove cap index depth src_root src_index src_depth) slot done is =
      made_passed MakesMeasured invocation.Move _ done
      (λ placement e. placement_measured slot (slots_named index depth src_root src_index src_depth) Move placement e) is
  invocation_measured (op.CapMutate cap index depth src_root src_index src_depth word) slot done is =
      made_passed MakesMeasured invocation.Move _ done
      (λ placement e. placement_measured slot (slots_named index depth src_root src_index src_depth) (Mutate word) placement e) is
  invocation_measured (op.CapDelete cap index depth) slot done is = made_passed MakesMeasured invocation.Delete _ done (λ target e. tt) is
  invocation_measured (op.CapRevoke cap index depth) slot done is = made_passed MakesMeasured invocation.Revoke _ done (λ target e. tt) is
  invocation_measured (op.CancelBadged cap index depth) slot done is = made_passed MakesMeasured invocation.CancelBadged _ done (λ service e. tt) is
  invocation_measured (op.Send cap message) slot done is = made_passed MakesMeasured (λ service. invocation.Send service message true) _ done (λ service e. tt) is
  invocation_measured (op.NbSend cap message) slot done is = made_passed MakesMeasured (λ service. invocation.Send service message false) _ done (λ service e. tt) is
  invocation_measured (op.Recv cap) slot done is = made_passed MakesMeasured (λ service. invocation.Receive service true) _ done (λ service e. tt) is
  invocation_measured (op.NbRecv cap) slot done is = made_passed MakesMeasured (λ service. invocation.Receive service false) _ done (λ service e. tt) is
  invocation_measured (op.SetSpace cap root word) slot done is =
      made_passed MakesMeasured invocation.SetSpace _ done (λ new e. new_space_measured slot root word new e) is
  invocation_measured (op.Suspend cap) slot done is = made_passed MakesMeasured invocation.Suspend _ done (λ tcb e. tt) is
  invocation_measured (op.Resume cap) slot done is = made_passed MakesMeasured invocation.Resume _ done (λ tcb e. tt) is

  op_measured : (o : Op) (done : Invocation) → checked_op p f thread o ≡ Ok done → MakesMeasured done
  op_measured o done is =
      let slot = passed (slot_by_word p f Invoked thread (service_word o)) (checked_invocation p f thread o) done is in
      invocation_measured o slot.0 done slot.1.1

-- ---- calls

awaited_measured : (A : State) (awaited : Bool) (accepted : Outcome) (reply : Reply) → AreMeasured A.derivations → AreMeasured accepted.state.derivations →
    AreMeasured (where_awaited A awaited accepted reply).state.derivations
awaited_measured A true accepted reply h kept = kept
awaited_measured A false accepted reply h kept = h

performed_measured : (p : ProfileName) (A : State) (t : ℕ) (done : Invocation) → MakesMeasured done → AreMeasured A.derivations → AreMeasured (performed p A t done).state.derivations
performed_measured p A t (invocation.Send service message true) makes h = h
performed_measured p A t (invocation.Send service message false) makes h =
    awaited_measured A (is_send_awaited A (endpoint_at A service.endpoint)) (send_accepted A t service message) _ h h
performed_measured p A t (invocation.Receive service true) makes h = h
performed_measured p A t (invocation.Receive service false) makes h =
    awaited_measured A (is_receive_awaited A (endpoint_at A service.endpoint)) (receive_accepted A t service) _ h h
performed_measured p A t (invocation.Retype new) makes h = after_objects p new A.derivations h
performed_measured p A t (invocation.Derive placement) makes h = after_derived p placement A.derivations makes h
performed_measured p A t (invocation.Move placement) makes h = each-moved Holds placement.source placement.slot placement.cap A.derivations h (λ original. makes)
performed_measured p A t (invocation.Delete slot) makes h = after_clear p slot A.derivations h
performed_measured p A t (invocation.Revoke slot) makes h = kept-revoke p AreMeasured (λ c g k. after_clear p c g k) slot A.derivations h
performed_measured p A t (invocation.CancelBadged service) makes h = h
performed_measured p A t (invocation.SetSpace new) makes h = after_space p new A.derivations makes h
performed_measured p A t (invocation.Suspend tcb) makes h = h
performed_measured p A t (invocation.Resume tcb) makes h = h

call_makes : (p : ProfileName) (A : State) (call : Call) (done : Invocation) → decoded_call p (shown A) call ≡ Ok done → AreMeasured A.derivations → MakesMeasured done
unfolding shown
call_makes p A call done is h =
    op_measured p A.derivations h call.thread call.op done (call_passed p (shown A) call done is)

outcome_measured : (p : ProfileName) (A : State) (call : Call) (r : Result Invocation Refusal) → decoded_call p (shown A) call ≡ r → AreMeasured A.derivations → AreMeasured (outcome p A call.thread r).state.derivations
outcome_measured p A call (Err refusal) is h = h
outcome_measured p A call (Ok done) is h = performed_measured p A call.thread done (call_makes p A call done is h) h

run_measured : (p : ProfileName) (calls : List Call) (A : State) → AreMeasured A.derivations → AreMeasured (state_after p A calls).derivations
unfolding state_after step
run_measured p [] A h = h
run_measured p (call ∷ calls) A h = run_measured p calls (step p A call).state (outcome_measured p A call (decoded_call p (shown A) call) refl h)

-- ---- boot

roots_measured : (p : ProfileName) (i : ℕ) (list : List Cap) (f : Forest Entry) → Each IsMeasured list → AreMeasured f → AreMeasured (with_roots p i list f)
roots_measured p i [] f new h = h
roots_measured p i (cap ∷ list) f new h = roots_measured p (i + 1) list _ new.1 (each-rooted Holds _ cap f h new.0)

spaces_measured : (p : ProfileName) (root : Cap) (tcbs : List ℕ) (f : Forest Entry) → IsMeasured root → AreMeasured f → AreMeasured (with_spaces p root tcbs f)
spaces_measured p root [] f new h = h
spaces_measured p root (tcb ∷ tcbs) f new h = spaces_measured p root tcbs _ new (each-derived Holds _ tcb root f h new)

all_mapped : {X : Type 0} (make : X → Cap) (list : List X) → ((x : X) → IsMeasured (make x)) → Each IsMeasured (map make list)
all_mapped make [] each = tt
all_mapped make (x ∷ list) each = (each x, all_mapped make list each)

boot_measured : (p : ProfileName) (plan : Plan) → AreMeasured (boot p plan).derivations
unfolding boot
boot_measured p plan =
    let tcbs = all_mapped (λ i. Tcb (tcb_place p plan i)) (range_with_len 0 plan.threads) (λ i. tt) in
    let endpoints = all_mapped (λ j. whole_endpoint (endpoint_place p plan j)) (range_with_len 0 plan.endpoints) (λ j. (omega arith, omega arith)) in
    let untypeds = all_mapped (λ (untyped : ℕ × ℕ). Untyped untyped.0 untyped.1 0) plan.untypeds (λ untyped. tt) in
    spaces_measured p (root_cap p plan) (boot_tcbs p plan) (with_roots p 1 (boot_caps p plan) none) tt
    (roots_measured p 1 (boot_caps p plan) none
    (tt, each-append IsMeasured (tcb_caps p plan ++ endpoint_caps p plan) (untyped_caps plan) (each-append IsMeasured (tcb_caps p plan) (endpoint_caps p plan) tcbs endpoints) untypeds) tt)

-- ---- all numbers

words_short : (p : ProfileName) → 2 ^ word_bits p ≤ 2 ^ 64
words_short Wide = omega arith
words_short Narrow = omega arith

word_short : (p : ProfileName) → word_bits p ≤ 64
word_short Wide = omega arith
word_short Narrow = omega arith

object_short : (p : ProfileName) → max_object_bits p ≤ 47
object_short Wide = omega arith
object_short Narrow = omega arith

base_short : (p : ProfileName) (memory : ℕ) (cap : Cap) → IsLawful p memory cap → base_of cap < 2 ^ 64
base_short p memory cap lawful =
    let some : 0 < 2 ^ bits_of p cap = pow_pos (bits_of p cap) in
    let end : base_of cap + 2 ^ bits_of p cap ≤ 2 ^ word_bits p = lawful.placed.addressed in
    let words : 2 ^ word_bits p ≤ 2 ^ 64 = words_short p in
    omega (arith, some, end, words)

within_words : (p : ProfileName) (memory : ℕ) (cap : Cap) → IsMeasured cap → IsLawful p memory cap → IsWithinWords cap
within_words p memory Null measured lawful = tt
within_words p memory (Untyped base bits free) measured lawful =
    let most : bits ≤ max_object_bits p = lawful.holds.most in
    let few : bits ≤ 47 = omega (arith, most, object_short p) in
    let power : 2 ^ bits ≤ 2 ^ 47 = pow_mono {i = bits} {j = 47} few in
    let within : free ≤ 2 ^ bits = lawful.holds.free_within in
    (base_short p memory (Untyped base bits free) lawful, omega (arith, few), omega (arith, within, power))
within_words p memory (Endpoint base badge rights) measured lawful = (base_short p memory (Endpoint base badge rights) lawful, measured.0, measured.1)
within_words p memory (CNode base radix guard) measured lawful =
    let both : guard.size + radix ≤ word_bits p = lawful.holds.both in
    let size : guard.size ≤ 64 = omega (arith, both, word_short p) in
    let power : 2 ^ guard.size ≤ 2 ^ 64 = pow_mono {i = guard.size} {j = 64} size in
    let cut : guard.value < 2 ^ guard.size = lawful.holds.cut in
    (base_short p memory (CNode base radix guard) lawful, omega (arith, both, word_short p), omega (arith, cut, power), omega (arith, size))
within_words p memory (Tcb base) measured lawful = base_short p memory (Tcb base) lawful

lawful_words : (p : ProfileName) (memory : ℕ) (list : List Entry) → Each Holds list → Each (IsLawful p memory) (map (λ (e : Entry). e.cap) list) → Each IsWithinWords (map (λ (e : Entry). e.cap) list)
lawful_words p memory [] h k = tt
lawful_words p memory (e ∷ list) h k = (within_words p memory e.cap h.0 k.0, lawful_words p memory list h.1 k.1)

pub reached_words : (p : ProfileName) (A : State) → IsReached p A → All IsWithinWords (caps A.derivations)
reached_words p A reached =
    let measured = subst (λ (B : State). AreMeasured B.derivations) (sym reached.is) (run_measured p reached.calls (boot p reached.plan) (boot_measured p reached.plan)) in
    let lawful = recursion_from_All (IsLawful p reached.plan.memory_bits) (caps A.derivations) (reached_is p A reached).store.lawful in
    All-from_recursion IsWithinWords (caps A.derivations) (lawful_words p reached.plan.memory_bits (preorder A.derivations) measured lawful)
