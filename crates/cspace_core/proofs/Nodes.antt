-- What one capability makes of the low bits of a word.
use Rattle.std.proofs.Common.{◌≡◌, ℕ, ◌+◌, ◌-◌, ◌*◌, ◌/◌, ◌%◌, ◌^◌, ◌<◌, ◌≤◌, ◌⊎◌, inl, inr, refl, sym, ap, ◌∙◌, arith, false, ◌++◌, length, Ok, Err}
use Rattle.std.proofs.Math.Nat.{mul-le-mul_right}
use Rattle.std.proofs.Math.Pow.{mod-mod-pow}
use Rattle.std.proofs.lemmas.Nat.{pow-add, pow_pos, pow_below}
use Rattle.cap_core.specs.declared.profile.ProfileName.{ProfileName}
use Rattle.cap_core.specs.declared.profile.ProfileName.TheVariants.{Wide, Narrow}
use Rattle.cap_core.specs.declared.capability.Guard.{Guard}
use Rattle.cap_core.specs.declared.capability.Cap.{Cap}
use Rattle.cap_core.specs.declared.capability.Cap.TheVariants.{Null, Untyped, Endpoint, CNode, Tcb}
use Rattle.cap_core.specs.declared.refusal.LookupFault.TheVariants.{GuardMismatch, DepthMismatch}
use Rattle.cap_core.specs.Numbers.{word_bits, slot_bits, slot_size}
use Rattle.std.proofs.lemmas.Bool.{false≢true, cases_lt}
use Rattle.cap_core.specs.Objects.{is_null, IsLawful}
use Rattle.cspace_core.specs.Bits.{low_bits}
use Rattle.cspace_core.specs.Resolution.{is_cnode, guard_bits, slot_of}
use Rattle.cspace_core.specs.Resolves.{Chooses, guard_mismatch, depth_mismatch, chooses}
use Rattle.cspace_core.proofs.Bits.{length-low_bits, low_bits-add, number-low_bits, begins, begins_length, begins_only}

pub no_cnode : (cap : Cap) → ((base radix : ℕ) (guard : Guard) → cap ≡ CNode base radix guard → ⊥) → is_cnode cap ≡ false
no_cnode Null h = refl
no_cnode (Untyped base bits free) h = refl
no_cnode (Endpoint base badge rights) h = refl
no_cnode (CNode base radix guard) h = absurd (h base radix guard refl)
no_cnode (Tcb base) h = refl

pub too_short_for_guard : (p : ProfileName) (base radix : ℕ) (guard : Guard) (n word : ℕ) → n < guard.size →
    Chooses p (CNode base radix guard) (low_bits n word) (Err GuardMismatch)
too_short_for_guard p base radix guard n word h =
    guard_mismatch base radix guard refl
    (λ rest e. let l : guard.size + length rest ≡ n = begins_length n word guard.size guard.value rest e in omega arith)

pub other_guard : (p : ProfileName) (base radix : ℕ) (guard : Guard) (n word : ℕ) → guard.value < 2 ^ guard.size →
    (word / 2 ^ (n - guard.size) % 2 ^ guard.size ≡ guard.value → ⊥) →
    Chooses p (CNode base radix guard) (low_bits n word) (Err GuardMismatch)
other_guard p base radix guard n word cut h =
    guard_mismatch base radix guard refl (λ rest e. h (begins_only n word guard.size guard.value rest cut e))

pub too_short_for_radix : (p : ProfileName) (base radix : ℕ) (guard : Guard) (n word : ℕ) → guard.size ≤ n →
    word / 2 ^ (n - guard.size) % 2 ^ guard.size ≡ guard.value → n - guard.size < radix →
    Chooses p (CNode base radix guard) (low_bits n word) (Err DepthMismatch)
too_short_for_radix p base radix guard n word within is few =
    depth_mismatch base radix guard (low_bits (n - guard.size) word) refl
    (begins n word guard.size guard.value within is) (rw (length-low_bits (n - guard.size) word) few)

pub slot_chosen : (p : ProfileName) (base radix : ℕ) (guard : Guard) (n word : ℕ) → guard.size ≤ n →
    word / 2 ^ (n - guard.size) % 2 ^ guard.size ≡ guard.value → radix ≤ n - guard.size →
    Chooses p (CNode base radix guard) (low_bits n word)
    (Ok (record { slot = slot_of p base (word / 2 ^ (n - guard.size - radix) % 2 ^ radix); left = low_bits (n - guard.size - radix) word }))
slot_chosen p base radix guard n word within is enough =
    let sum : radix + (n - guard.size - radix) ≡ n - guard.size = omega arith in
    let split : low_bits (radix + (n - guard.size - radix)) word ≡ low_bits radix (word / 2 ^ (n - guard.size - radix)) ++ low_bits (n - guard.size - radix) word =
    low_bits-add radix (n - guard.size - radix) word in
    let split' : low_bits (n - guard.size) word ≡ low_bits radix (word / 2 ^ (n - guard.size - radix)) ++ low_bits (n - guard.size - radix) word = rw sum at split in
    let begins' : low_bits n word ≡ guard_bits guard ++ (low_bits radix (word / 2 ^ (n - guard.size - radix)) ++ low_bits (n - guard.size - radix) word) =
    begins n word guard.size guard.value within is ∙ ap (λ rest. guard_bits guard ++ rest) split' in
    rw (sym (number-low_bits radix (word / 2 ^ (n - guard.size - radix))))
    (chooses base radix guard (low_bits radix (word / 2 ^ (n - guard.size - radix))) (low_bits (n - guard.size - radix) word) refl begins' (length-low_bits radix _))

-- a capability that may stand in a slot, or none
pub lawful_node : (p : ProfileName) (memory base radix : ℕ) (guard : Guard) →
    (CNode base radix guard ≡ Null) ⊎ IsLawful p memory (CNode base radix guard) → IsLawful p memory (CNode base radix guard)
lawful_node p memory base radix guard (inl e) = absurd (false≢true (ap is_null e))
lawful_node p memory base radix guard (inr lawful) = lawful

-- what is lawful in some memory is so in the memory of all words
pub lawful_in_words : (p : ProfileName) (memory : ℕ) (cap : Cap) →
    (cap ≡ Null) ⊎ IsLawful p memory cap → (cap ≡ Null) ⊎ IsLawful p (word_bits p) cap
lawful_in_words p memory cap (inl e) = inl e
lawful_in_words p memory cap (inr lawful) =
    let placed = lawful.placed in
    inr (record {
      full = lawful.full;
      placed = record { aligned = placed.aligned; within = placed.addressed; addressed = placed.addressed };
      holds = lawful.holds;
    })

pub slot_aligned : (p : ProfileName) (memory base radix : ℕ) (guard : Guard) → IsLawful p memory (CNode base radix guard) → base % slot_size p ≡ 0
slot_aligned p memory base radix guard lawful =
    let turned : slot_bits p + radix ≡ radix + slot_bits p = omega arith in
    let whole : base % 2 ^ (radix + slot_bits p) ≡ 0 = rw turned at lawful.placed.aligned in
    sym (mod-mod-pow base radix (slot_bits p)) ∙ rw whole (omega arith)

words_most : (p : ProfileName) → word_bits p ≤ 64
words_most Wide = omega arith
words_most Narrow = omega arith

slot_some : (p : ProfileName) → 1 ≤ slot_bits p
slot_some Wide = omega arith
slot_some Narrow = omega arith

-- the radix is below the bits of the largest word
pub radix_small : (p : ProfileName) (memory base radix : ℕ) (guard : Guard) → IsLawful p memory (CNode base radix guard) → radix < 64
radix_small p memory base radix guard lawful = elim (cases_lt (word_bits p) (slot_bits p + radix)) [
  | inl more ↦
      let large : 2 ^ word_bits p < 2 ^ (slot_bits p + radix) = pow_below (word_bits p) (slot_bits p + radix) more in
      absurd (let end = lawful.placed.addressed in omega (arith, end, large))
  | inr fits ↦ omega (arith, fits, words_most p, slot_some p)
]

-- and so is the size of the guard
pub guard_small : (p : ProfileName) (memory base radix : ℕ) (guard : Guard) → IsLawful p memory (CNode base radix guard) → guard.size < 64
guard_small p memory base radix guard lawful = omega (arith, lawful.holds.some, lawful.holds.both, words_most p)

-- each slot of a CNode ends within the memory
pub slot_within : (p : ProfileName) (memory base radix i : ℕ) (guard : Guard) → IsLawful p memory (CNode base radix guard) →
    i < 2 ^ radix → base + (i + 1) * slot_size p ≤ 2 ^ memory
slot_within p memory base radix i guard lawful low =
    let most : (i + 1) * 2 ^ slot_bits p ≤ 2 ^ radix * 2 ^ slot_bits p = mul-le-mul_right (2 ^ slot_bits p) (omega arith) in
    let turned : slot_bits p + radix ≡ radix + slot_bits p = omega arith in
    let size : 2 ^ (radix + slot_bits p) ≡ 2 ^ radix * 2 ^ slot_bits p = pow-add 2 radix (slot_bits p) in
    let end : base + 2 ^ (radix + slot_bits p) ≤ 2 ^ memory = rw turned at lawful.placed.within in
    omega arith

pub starts_within : (p : ProfileName) (base i memory : ℕ) → base + (i + 1) * slot_size p ≤ 2 ^ memory → base + i * slot_size p < 2 ^ memory
starts_within p base i memory end =
    let more : (i + 1) * 2 ^ slot_bits p ≡ i * 2 ^ slot_bits p + 2 ^ slot_bits p = grind arith in
    omega (arith, pow_pos (slot_bits p))
