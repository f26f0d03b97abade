-- A slot that is found lies in a CNode that the root or a slot names.
use Rattle.std.proofs.Common.{◌≡◌, ℕ, zero, suc, ◌%◌, ◌^◌, ◌<◌, ◌≤◌, ◌⊎◌, inl, inr, refl, sym, ap, ◌∙◌, arith, Bool, true, false, cond, not, nat_lt, ◌==◌, ◌&&◌, List, [], ◌∷◌, length, take, drop, Option, Some, None, Result, Ok, Err}
use Rattle.std.proofs.Math.Nat.{add-mul-mod_self_right}
use Rattle.std.proofs.lemmas.List.{length-take-le}
use Rattle.std.proofs.lemmas.Bool.{ltb-false}
use Rattle.std.proofs.lemmas.Int.Digits.{number_lt}
use Rattle.std.specs.Int.Digits.{AllBelowBase, number_from_digits}
use Rattle.cap_core.specs.declared.profile.ProfileName.{ProfileName}
use Rattle.cap_core.specs.declared.capability.Cap.{Cap}
use Rattle.cap_core.specs.declared.capability.Cap.TheVariants.{Null, Untyped, Endpoint, CNode, Tcb}
use Rattle.cap_core.specs.declared.refusal.LookupFault.{LookupFault}
use Rattle.cap_core.specs.declared.refusal.LookupFault.TheVariants.{DepthMismatch}
use Rattle.cap_core.specs.Numbers.{slot_size}
use Rattle.cap_core.specs.Objects.{IsLawful}
use Rattle.cspace_core.specs.Bits.{low_bits, after_front}
use Rattle.cspace_core.specs.Resolution.{Choice, Found, is_cnode, slot_of, guard_bits, choice, choice_after_guard, found_or, resolution_within, resolution}
use Rattle.cspace_core.specs.Inside.{IsSlotOf, LiesInCNode}
use Rattle.cspace_core.proofs.Nodes.{lawful_node, slot_within, slot_aligned, starts_within}

pub low_bits-below : (n word : ℕ) → AllBelowBase 2 (low_bits n word)
unfolding low_bits
low_bits-below zero word = tt
low_bits-below (suc n) word = (omega arith, low_bits-below n word)

below-take : (i : ℕ) (bits : List ℕ) → AllBelowBase 2 bits → AllBelowBase 2 (take i bits)
below-take zero bits h = tt
below-take (suc i) [] h = tt
below-take (suc i) (b ∷ bits) h = (h.0, below-take i bits h.1)

below-drop : (i : ℕ) (bits : List ℕ) → AllBelowBase 2 bits → AllBelowBase 2 (drop i bits)
below-drop zero bits h = h
below-drop (suc i) [] h = tt
below-drop (suc i) (b ∷ bits) h = below-drop i bits h.1

same_head : (t : Bool) (m : Option (List ℕ)) (rest : List ℕ) → cond t m None ≡ Some rest → m ≡ Some rest
same_head true m rest e = e
same_head false m rest e = cc

below-after_front : (front bits rest : List ℕ) → AllBelowBase 2 bits → after_front front bits ≡ Some rest → AllBelowBase 2 rest
below-after_front [] bits rest h e =
    let same : bits ≡ rest = cc in
    rw same at h
below-after_front (f ∷ front) [] rest h e = cc
below-after_front (f ∷ front) (b ∷ bits) rest h e = below-after_front front bits rest h.1 (same_head (f == b) (after_front front bits) rest e)

-- what a CNode's radix chooses
record Chosen (p : ProfileName) (base radix : ℕ) (c : Choice) : Type 0 where
  index : (i : ℕ) × ((i < 2 ^ radix) × (c.slot ≡ slot_of p base i))
  below : AllBelowBase 2 c.left

chosen_where : (p : ProfileName) (base radix : ℕ) (bits : List ℕ) (c : Choice) (t : Bool) → AllBelowBase 2 bits → nat_lt (length bits) radix ≡ t →
    cond t (Err DepthMismatch) (Ok (record { slot = slot_of p base (number_from_digits 2 (take radix bits)); left = drop radix bits })) ≡ Ok c →
    Chosen p base radix c
chosen_where p base radix bits c true h few e = cc
chosen_where p base radix bits c false h few e =
    let enough : radix ≤ length bits = ltb-false (length bits) radix few in
    let low : number_from_digits 2 (take radix bits) < 2 ^ radix = rw (length-take-le radix bits enough) at (number_lt 2 (take radix bits) (below-take radix bits h)) in
    let made : Choice = record { slot = slot_of p base (number_from_digits 2 (take radix bits)); left = drop radix bits } in
    let same : made ≡ c = cc in
    let slot : slot_of p base (number_from_digits 2 (take radix bits)) ≡ c.slot = ap (λ (x : Choice). x.slot) same in
    let left : drop radix bits ≡ c.left = ap (λ (x : Choice). x.left) same in
    record { index = (number_from_digits 2 (take radix bits), (low, sym slot)); below = rw left at (below-drop radix bits h) }

chosen_after : (p : ProfileName) (base radix : ℕ) (front bits : List ℕ) (c : Choice) (m : Option (List ℕ)) → AllBelowBase 2 bits →
    after_front front bits ≡ m → choice_after_guard p base radix m ≡ Ok c → Chosen p base radix c
chosen_after p base radix front bits c None h f e = cc
chosen_after p base radix front bits c (Some rest) h f e =
    chosen_where p base radix rest c (nat_lt (length rest) radix) (below-after_front front bits rest h f) refl e

chosen_slot : (p : ProfileName) (cap : Cap) (bits : List ℕ) (c : Choice) → AllBelowBase 2 bits → choice p cap bits ≡ Ok c →
    IsSlotOf p cap c.slot × AllBelowBase 2 c.left
chosen_slot p Null bits c h e = cc
chosen_slot p (Untyped base bits' free) bits c h e = cc
chosen_slot p (Endpoint base badge rights) bits c h e = cc
chosen_slot p (CNode base radix guard) bits c h e =
    let found = chosen_after p base radix (guard_bits guard) bits c (after_front (guard_bits guard) bits) h refl e in
    (found.index, found.below)
chosen_slot p (Tcb base) bits c h e = cc

-- resolution ends at the choice, or goes on
lies_where : (p : ProfileName) (cap_in : ℕ → Cap) (there : Cap → List ℕ → Result Found LookupFault) (root : Cap) (f : Found) (c : Choice) (t : Bool) →
    IsSlotOf p root c.slot → (there (cap_in c.slot) c.left ≡ Ok f → LiesInCNode p cap_in (cap_in c.slot) f.slot) →
    cond t (there (cap_in c.slot) c.left) (Ok (record { slot = c.slot; left = length c.left })) ≡ Ok f → LiesInCNode p cap_in root f.slot
lies_where p cap_in there root f c true here on e =
    let further = on e in
    (further.0, (elim (further.1.0) [ inl is ↦ inr (c.slot, is) | inr holder ↦ inr holder ], further.1.1))
lies_where p cap_in there root f c false here on e =
    let made : Found = record { slot = c.slot; left = length c.left } in
    let same : made ≡ f = cc in
    let slot : c.slot ≡ f.slot = ap (λ (x : Found). x.slot) same in
    (root, (inl refl, rw slot at here))

lies_after : (p : ProfileName) (cap_in : ℕ → Cap) (there : Cap → List ℕ → Result Found LookupFault) (root : Cap) (bits : List ℕ) (f : Found) (r : Result Choice LookupFault) →
    AllBelowBase 2 bits → ((cap : Cap) (left : List ℕ) → AllBelowBase 2 left → there cap left ≡ Ok f → LiesInCNode p cap_in cap f.slot) →
    choice p root bits ≡ r → found_or cap_in there r ≡ Ok f → LiesInCNode p cap_in root f.slot
lies_after p cap_in there root bits f (Err fault) h on is e = cc
lies_after p cap_in there root bits f (Ok c) h on is e =
    let here = chosen_slot p root bits c h is in
    lies_where p cap_in there root f c (is_cnode (cap_in c.slot) && not (length c.left == 0)) here.0 (on (cap_in c.slot) c.left here.1) e

lies_within : (p : ProfileName) (cap_in : ℕ → Cap) (most : ℕ) (root : Cap) (bits : List ℕ) (f : Found) → AllBelowBase 2 bits →
    resolution_within p cap_in most root bits ≡ Ok f → LiesInCNode p cap_in root f.slot
unfolding resolution_within
lies_within p cap_in zero root bits f h e = cc
lies_within p cap_in (suc most) root bits f h e =
    lies_after p cap_in (resolution_within p cap_in most) root bits f (choice p root bits) h
    (λ cap left below there. lies_within p cap_in most cap left f below there) refl e

pub lies_in_cnode : (p : ProfileName) (cap_in : ℕ → Cap) (root : Cap) (n word : ℕ) (f : Found) →
    resolution p cap_in root (low_bits n word) ≡ Ok f → LiesInCNode p cap_in root f.slot
unfolding resolution
lies_in_cnode p cap_in root n word f e = lies_within p cap_in (suc (length (low_bits n word))) root (low_bits n word) f (low_bits-below n word) e

slot_of_lawful : (p : ProfileName) (memory : ℕ) (cap : Cap) (slot : ℕ) → (cap ≡ Null) ⊎ IsLawful p memory cap → IsSlotOf p cap slot →
    (slot < 2 ^ memory) × (slot % slot_size p ≡ 0)
slot_of_lawful p memory Null slot h s = absurd s
slot_of_lawful p memory (Untyped base bits free) slot h s = absurd s
slot_of_lawful p memory (Endpoint base badge rights) slot h s = absurd s
slot_of_lawful p memory (CNode base radix guard) slot h s =
    let lawful = lawful_node p memory base radix guard h in
    let end = slot_within p memory base radix s.0 guard lawful s.1.0 in
    let aligned = slot_aligned p memory base radix guard lawful in
    rw s.1.1 (starts_within p base s.0 memory end, add-mul-mod_self_right base s.0 (slot_size p) ∙ aligned)
slot_of_lawful p memory (Tcb base) slot h s = absurd s

-- where all capabilities are lawful, a slot that is found stands at a slot's place within the memory
pub found_within : (p : ProfileName) (memory : ℕ) (cap_in : ℕ → Cap) (root : Cap) (n word : ℕ) (f : Found) →
    (root ≡ Null) ⊎ IsLawful p memory root → ((holder : ℕ) → (cap_in holder ≡ Null) ⊎ IsLawful p memory (cap_in holder)) →
    resolution p cap_in root (low_bits n word) ≡ Ok f → (f.slot < 2 ^ memory) × (f.slot % slot_size p ≡ 0)
found_within p memory cap_in root n word f rooted all e =
    let lies = lies_in_cnode p cap_in root n word f e in
    slot_of_lawful p memory lies.0 f.slot
    (elim (lies.1.0) [ inl is ↦ rw is rooted | inr holder ↦ rw holder.1 (all holder.0) ])
    lies.1.1
