-- The slots that a retype fills are slots of a CNode.
use Rattle.std.proofs.Common.{◌≡◌, ℕ, ◌+◌, ◌-◌, ◌*◌, ◌%◌, ◌^◌, ◌<◌, ◌≤◌, inl, inr, nat_lt, nat_le, ◌&&◌, Ok, ◌∙◌, arith}
use Rattle.std.proofs.Math.Nat.{add-mul-mod_self_right}
use Rattle.std.proofs.lemmas.Nat.{pow_below}
use Rattle.std.proofs.lemmas.Bool.{and_parts, leb-true, ltb-true, cases_lt}
use Rattle.cap_core.specs.declared.limits.TheConstants.{MAX_RETYPE_COUNT}
use Rattle.cap_core.specs.declared.profile.ProfileName.{ProfileName}
use Rattle.cap_core.specs.declared.profile.ProfileName.TheVariants.{Wide, Narrow}
use Rattle.cap_core.specs.declared.capability.Guard.{Guard}
use Rattle.cap_core.specs.declared.capability.Cap.TheVariants.{CNode}
use Rattle.cap_core.specs.Numbers.{word_bits, slot_bits, slot_size}
use Rattle.cap_core.specs.Objects.{IsLawful}
use Rattle.cspace_core.specs.Resolution.{slot_of}
use Rattle.cspace_core.proofs.Nodes.{slot_aligned, slot_within, starts_within}
use Rattle.kernel_abstract.specs.Memory.{IsSlotAddress}
use Rattle.kernel_abstract.specs.declared.reason.Word.{Word}
use Rattle.kernel_abstract.specs.declared.reason.Held.{Held}
use Rattle.kernel_abstract.specs.Retyping.{within_node}
use Rattle.kernel_abstract.proofs.Checks.FoundSlots.{cond_passed, ok_same}

words_most : (p : ProfileName) → word_bits p ≤ 64
words_most Wide = omega arith
words_most Narrow = omega arith

slot_some : (p : ProfileName) → 1 ≤ slot_bits p
slot_some Wide = omega arith
slot_some Narrow = omega arith

-- a CNode whose addresses are words has fewer slots than there are words
pub radix_small : (p : ProfileName) (memory base radix : ℕ) (guard : Guard) → IsLawful p memory (CNode base radix guard) → radix < 64
radix_small p memory base radix guard lawful = elim (cases_lt (word_bits p) (slot_bits p + radix)) [
  | inl more ↦
      let large : 2 ^ word_bits p < 2 ^ (slot_bits p + radix) = pow_below (word_bits p) (slot_bits p + radix) more in
      absurd (let end = lawful.placed.addressed in omega (arith, end, large))
  | inr fits ↦ omega (arith, fits, words_most p, slot_some p)
]

-- from one to the most slots, that the CNode has
pub record AreSlots (radix offset count : ℕ) : Type 0 where
  pub some : 1 ≤ count
  pub most : count ≤ MAX_RETYPE_COUNT
  pub within : offset + count ≤ 2 ^ radix

pub slots_there : (word : Word) (node : Held) (radix offset count first there : ℕ) → within_node word node radix offset count first ≡ Ok there →
    AreSlots radix offset count × (first ≡ there)
slots_there word node radix offset count first there h =
    let low = cond_passed (nat_lt offset (2 ^ radix)) _ _ there h in
    let range = cond_passed (nat_le 1 count && nat_le count MAX_RETYPE_COUNT) _ _ there low.1 in
    let ends = cond_passed (nat_le count (2 ^ radix - offset)) (Ok first) _ there range.1 in
    let both = and_parts (nat_le 1 count) _ range.0 in
    let begins : offset < 2 ^ radix = ltb-true _ _ low.0 in
    let room : count ≤ 2 ^ radix - offset = leb-true _ _ ends.0 in
    (record { some = leb-true _ _ both.0; most = leb-true _ _ both.1; within = omega arith }, ok_same first there ends.1)

-- the slots from one of a CNode's on, by the first one's address
pub along : (p : ProfileName) (base offset i : ℕ) → slot_of p (slot_of p base offset) i ≡ slot_of p base (offset + i)
along p base offset i =
    let d : (offset + i) * slot_size p ≡ offset * slot_size p + i * slot_size p = grind arith in
    omega arith

pub first_aligned : (p : ProfileName) (memory base radix offset : ℕ) (guard : Guard) → IsLawful p memory (CNode base radix guard) →
    slot_of p base offset % slot_size p ≡ 0
first_aligned p memory base radix offset guard lawful =
    add-mul-mod_self_right base offset (slot_size p) ∙ slot_aligned p memory base radix guard lawful

pub slots_end : (p : ProfileName) (memory base radix offset count : ℕ) (guard : Guard) → IsLawful p memory (CNode base radix guard) →
    AreSlots radix offset count → slot_of p base offset + count * slot_size p ≤ 2 ^ memory
slots_end p memory base radix offset count guard lawful there =
    let some = there.some in
    let within = there.within in
    let last : base + (offset + count - 1 + 1) * slot_size p ≤ 2 ^ memory = slot_within p memory base radix (offset + count - 1) guard lawful (omega arith) in
    let sum : offset + count - 1 + 1 ≡ offset + count = omega arith in
    let last' : base + (offset + count) * slot_size p ≤ 2 ^ memory = rw sum at last in
    let d : (offset + count) * slot_size p ≡ offset * slot_size p + count * slot_size p = grind arith in
    omega arith

pub slot_address : (p : ProfileName) (memory base radix offset count i : ℕ) (guard : Guard) → IsLawful p memory (CNode base radix guard) →
    AreSlots radix offset count → i < count → IsSlotAddress p memory (slot_of p (slot_of p base offset) i)
slot_address p memory base radix offset count i guard lawful there low =
    let within = there.within in
    let end = slot_within p memory base radix (offset + i) guard lawful (omega arith) in
    let starts : slot_of p base (offset + i) < 2 ^ memory = starts_within p base (offset + i) memory end in
    record {
      aligned = add-mul-mod_self_right (slot_of p base offset) i (slot_size p) ∙ first_aligned p memory base radix offset guard lawful;
      within = rw (along p base offset i) starts;
    }
