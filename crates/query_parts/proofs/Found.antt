-- The slots and capabilities that the words of a call name lie in the calling thread's part, where that is closed.
use Rattle.std.proofs.Common.{◌≡◌, ℕ, zero, suc, ◌^◌, ◌<◌, ◌≤◌, refl, sym, ap, subst, Bool, true, false, cond, not, nat_lt, nat_le, ◌==◌, ◌&&◌, List, [], ◌∷◌, length, take, drop, Option, Some, None, Result, Ok, Err}
use Rattle.std.proofs.lemmas.List.{length-take-le}
use Rattle.std.proofs.lemmas.Bool.{ltb-false}
use Rattle.std.proofs.lemmas.Int.Digits.{number_lt}
use Rattle.std.specs.Int.Digits.{AllBelowBase, number_from_digits}
use Rattle.cap_core.specs.declared.profile.ProfileName.{ProfileName}
use Rattle.cap_core.specs.declared.capability.Cap.{Cap}
use Rattle.cap_core.specs.declared.capability.Cap.TheVariants.{Null, Untyped, Endpoint, CNode, Tcb}
use Rattle.cap_core.specs.declared.refusal.Refusal.TheVariants.{RangeError, FailedLookup}
use Rattle.cap_core.specs.declared.refusal.LookupFault.{LookupFault}
use Rattle.cap_core.specs.declared.refusal.LookupFault.TheVariants.{InvalidRoot, DepthMismatch}
use Rattle.cap_core.specs.Numbers.{word_bits}
use Rattle.kernel_forest.specs.Forest.{Forest}
use Rattle.kernel_forest.specs.Entries.{Entry, cap_at}
use Rattle.cspace_core.specs.Bits.{low_bits, after_front}
use Rattle.cspace_core.specs.Resolution.{Choice, Found, is_cnode, slot_of, guard_bits, choice, choice_after_guard, found_or, resolution_within, resolution}
use Rattle.cspace_core.specs.Target.{target_slot}
use Rattle.cspace_core.specs.Inside.{IsSlotOf}
use Rattle.cspace_core.proofs.Inside.{low_bits-below}
use Rattle.kernel_abstract.specs.declared.reason.Reason.{Reason}
use Rattle.kernel_abstract.specs.Lookups.{slot_found, slot_named, ensure_empty, ensure_full}
use Rattle.kernel_abstract.proofs.Checks.FoundSlots.{cond_passed, cond_failed, ok_same, whole_passed}
use Rattle.query_parts.specs.Parts.{Parts, IsWithin, IsClosed}
use Rattle.query_parts.proofs.Within.{slot_owned}

below-take : (i : ℕ) (bits : List ℕ) → AllBelowBase 2 bits → AllBelowBase 2 (take i bits)
below-take zero bits h = tt
below-take (suc i) [] h = tt
below-take (suc i) (b ∷ bits) h = (h.0, below-take i bits h.1)

below-drop : (i : ℕ) (bits : List ℕ) → AllBelowBase 2 bits → AllBelowBase 2 (drop i bits)
below-drop zero bits h = h
below-drop (suc i) [] h = tt
below-drop (suc i) (b ∷ bits) h = below-drop i bits h.1

same_head : (t : Bool) (m : Option (List ℕ)) (rest : List ℕ) → cond t m None ≡ Some rest → m ≡ Some rest
same_head true m rest e = e
same_head false m rest e = cc

below-after_front : (front bits rest : List ℕ) → AllBelowBase 2 bits → after_front front bits ≡ Some rest → AllBelowBase 2 rest
below-after_front [] bits rest h e =
    let same : bits ≡ rest = cc in
    rw same at h
below-after_front (f ∷ front) [] rest h e = cc
below-after_front (f ∷ front) (b ∷ bits) rest h e = below-after_front front bits rest h.1 (same_head (f == b) (after_front front bits) rest e)

-- what a CNode's radix chooses
record Chosen (p : ProfileName) (base radix : ℕ) (c : Choice) : Type 0 where
  index : (i : ℕ) × ((i < 2 ^ radix) × (c.slot ≡ slot_of p base i))
  below : AllBelowBase 2 c.left

chosen_where : (p : ProfileName) (base radix : ℕ) (bits : List ℕ) (c : Choice) (t : Bool) → AllBelowBase 2 bits → nat_lt (length bits) radix ≡ t →
    cond t (Err DepthMismatch) (Ok (record { slot = slot_of p base (number_from_digits 2 (take radix bits)); left = drop radix bits })) ≡ Ok c →
    Chosen p base radix c
chosen_where p base radix bits c true h few e = cc
chosen_where p base radix bits c false h few e =
    let enough : radix ≤ length bits = ltb-false (length bits) radix few in
    let low : number_from_digits 2 (take radix bits) < 2 ^ radix = rw (length-take-le radix bits enough) at (number_lt 2 (take radix bits) (below-take radix bits h)) in
    let made : Choice = record { slot = slot_of p base (number_from_digits 2 (take radix bits)); left = drop radix bits } in
    let same : made ≡ c = cc in
    let slot : slot_of p base (number_from_digits 2 (take radix bits)) ≡ c.slot = ap (λ (x : Choice). x.slot) same in
    let left : drop radix bits ≡ c.left = ap (λ (x : Choice). x.left) same in
    record { index = (number_from_digits 2 (take radix bits), (low, sym slot)); below = rw left at (below-drop radix bits h) }

chosen_after : (p : ProfileName) (base radix : ℕ) (front bits : List ℕ) (c : Choice) (m : Option (List ℕ)) → AllBelowBase 2 bits →
    after_front front bits ≡ m → choice_after_guard p base radix m ≡ Ok c → Chosen p base radix c
chosen_after p base radix front bits c None h f e = cc
chosen_after p base radix front bits c (Some rest) h f e =
    chosen_where p base radix rest c (nat_lt (length rest) radix) (below-after_front front bits rest h f) refl e

pub chosen_slot : (p : ProfileName) (cap : Cap) (bits : List ℕ) (c : Choice) → AllBelowBase 2 bits → choice p cap bits ≡ Ok c →
    IsSlotOf p cap c.slot × AllBelowBase 2 c.left
chosen_slot p Null bits c h e = cc
chosen_slot p (Untyped base bits' free) bits c h e = cc
chosen_slot p (Endpoint base badge rights) bits c h e = cc
chosen_slot p (CNode base radix guard) bits c h e =
    let found = chosen_after p base radix (guard_bits guard) bits c (after_front (guard_bits guard) bits) h refl e in
    (found.index, found.below)
chosen_slot p (Tcb base) bits c h e = cc

pub named_found : (r : Result Found LookupFault) (slot : ℕ) → slot_found r ≡ Ok slot → (found : Found) × ((r ≡ Ok found) × (found.slot ≡ slot))
named_found (Err fault) slot h = cc
named_found (Ok found) slot h = (found, (refl, ok_same found.slot slot h))

pub empty_found : (f : Forest Entry) (r : Result ℕ Reason) (slot : ℕ) → ensure_empty f r ≡ Ok slot → r ≡ Ok slot
empty_found f (Err reason) slot h = cc
empty_found f (Ok found) slot h = (cond_passed _ (Ok found) _ slot h).1

pub full_found : (f : Forest Entry) (r : Result ℕ Reason) (slot : ℕ) → ensure_full f r ≡ Ok slot → r ≡ Ok slot
full_found f (Err reason) slot h = cc
full_found f (Ok found) slot h = (cond_failed _ (Ok found) _ slot h).1

module _ (p : ProfileName) (parts : Parts) (i : ℕ) (f : Forest Entry) (closed : IsClosed p parts i f) where
  -- resolution ends at the choice, or goes on from a capability of the part
  owned_where : (there : Cap → List ℕ → Result Found LookupFault) (found : Found) (c : Choice) (t : Bool) →
      parts.part_of c.slot ≡ Some i → (there (cap_at f c.slot) c.left ≡ Ok found → parts.part_of found.slot ≡ Some i) →
      cond t (there (cap_at f c.slot) c.left) (Ok (record { slot = c.slot; left = length c.left })) ≡ Ok found →
      parts.part_of found.slot ≡ Some i
  owned_where there found c true here on e = on e
  owned_where there found c false here on e =
      let made : Found = record { slot = c.slot; left = length c.left } in
      let same : made ≡ found = cc in
      let slot : c.slot ≡ found.slot = ap (λ (x : Found). x.slot) same in
      rw slot at here

  owned_after : (there : Cap → List ℕ → Result Found LookupFault) (root : Cap) (bits : List ℕ) (found : Found) (r : Result Choice LookupFault) →
      AllBelowBase 2 bits → IsWithin p parts i root →
      ((cap : Cap) (left : List ℕ) → AllBelowBase 2 left → IsWithin p parts i cap → there cap left ≡ Ok found → parts.part_of found.slot ≡ Some i) →
      choice p root bits ≡ r → found_or (cap_at f) there r ≡ Ok found → parts.part_of found.slot ≡ Some i
  owned_after there root bits found (Err fault) h w on is e = cc
  owned_after there root bits found (Ok c) h w on is e =
      let here = chosen_slot p root bits c h is in
      let owned = slot_owned p parts i root c.slot w here.0 in
      owned_where there found c (is_cnode (cap_at f c.slot) && not (length c.left == 0)) owned
      (on (cap_at f c.slot) c.left here.1 (closed c.slot owned)) e

  owned_within : (most : ℕ) (root : Cap) (bits : List ℕ) (found : Found) → AllBelowBase 2 bits → IsWithin p parts i root →
      resolution_within p (cap_at f) most root bits ≡ Ok found → parts.part_of found.slot ≡ Some i
  unfolding resolution_within
  owned_within zero root bits found h w e = cc
  owned_within (suc most) root bits found h w e =
      owned_after (resolution_within p (cap_at f) most) root bits found (choice p root bits) h w
      (λ cap left below within there. owned_within most cap left found below within there) refl e

  pub resolved : (root : Cap) (n word : ℕ) (found : Found) → IsWithin p parts i root →
      resolution p (cap_at f) root (low_bits n word) ≡ Ok found → parts.part_of found.slot ≡ Some i
  unfolding resolution
  resolved root n word found w e = owned_within (suc (length (low_bits n word))) root (low_bits n word) found (low_bits-below n word) w e

  -- the slot that a word names in the thread's capability space
  pub invoked_owned : (thread word slot : ℕ) → parts.part_of thread ≡ Some i → slot_named p f (cap_at f thread) word ≡ Ok slot →
      parts.part_of slot ≡ Some i
  invoked_owned thread word slot own h =
      let found = named_found (resolution p (cap_at f) (cap_at f thread) (low_bits (word_bits p) word)) slot h in
      subst (λ n. parts.part_of n ≡ Some i) found.1.1
      (resolved (cap_at f thread) (word_bits p) word found.0 (closed thread own) found.1.0)

  -- the slot that is named by an index and a depth from a CNode of the part
  pub target_owned : (root : Cap) (index depth slot : ℕ) → IsWithin p parts i root → target_slot p (cap_at f) root index depth ≡ Ok slot →
      parts.part_of slot ≡ Some i
  target_owned root index depth slot w h =
      let node = cond_passed (is_cnode root) _ (FailedLookup InvalidRoot) slot h in
      let range = cond_passed (nat_le 1 depth && nat_le depth (word_bits p)) _ RangeError slot node.1 in
      let whole = whole_passed (resolution p (cap_at f) root (low_bits depth index)) slot range.1 in
      subst (λ n. parts.part_of n ≡ Some i) whole.1.1 (resolved root depth index whole.0 w whole.1.0)
