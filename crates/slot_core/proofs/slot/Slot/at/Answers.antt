-- The proof of `at`: an address is a word's, and a multiple of a slot's size, where the two tests say so.
use Rattle.std.proofs.Common.{◌≡◌, ◌≢◌, ℕ, ◌+◌, ◌*◌, ◌/◌, ◌%◌, ◌^◌, ◌<◌, ◌≤◌, inl, inr, sym, ◌∙◌, subst, arith}
use Rattle.std.proofs.Math.Nat.{lt-div-mul-add}
use Rattle.std.proofs.lemmas.Nat.{div_below, pow_pos}
use Rattle.std.proofs.lemmas.Bool.{cases_lt, eqb-true, eqb-false}
use Rattle.cap_core.specs.declared.profile.ProfileName.{ProfileName}
use Rattle.cap_core.specs.declared.profile.ProfileName.TheVariants.{Wide, Narrow}
use Rattle.cap_core.specs.Numbers.{word_bits, slot_bits, slot_size}
use Rattle.slot_core.proofs.slot.Slot.at.Goals as goal
use Rattle.slot_core.proofs.slot.Slot.at.Goals.{then-WORD_BITS-eq-BITS, else-WORD_BITS-eq-BITS, else-is_word-via-then-is_word+else-address-SLOT_BITS-eq0, else-is_word-via-else-is_word}

-- where the word has all 64 bits, and where nothing stands above its bits
full_word : (address word bits : ℕ) → address < 2 ^ 64 → bits ≡ word → bits ≡ 64 → address < 2 ^ word
full_word address word bits fits is full = subst (λ (n : ℕ). address < 2 ^ n) (sym full ∙ is) fits

short_word : (address word bits : ℕ) → bits ≡ word → address / 2 ^ bits ≡ 0 → address < 2 ^ word
short_word address word bits is none =
    let below : address < address / 2 ^ bits * 2 ^ bits + 2 ^ bits = lt-div-mul-add (pow_pos bits) in
    let short : address < 0 * 2 ^ bits + 2 ^ bits = subst (λ (n : ℕ). address < n * 2 ^ bits + 2 ^ bits) none below in
    let here : address < 2 ^ bits = omega arith in
    subst (λ (n : ℕ). address < 2 ^ n) is here

long_word : (address word bits : ℕ) → bits ≡ word → (address / 2 ^ bits ≡ 0 → ⊥) → 2 ^ word ≤ address
long_word address word bits is some = elim (cases_lt address (2 ^ bits)) [
  | inl low ↦
      let one : address < 1 * 2 ^ bits = omega arith in
      let none : address / 2 ^ bits < 1 = div_below address (2 ^ bits) 1 (pow_pos bits) one in
      absurd (some (omega arith))
  | inr high ↦ subst (λ (n : ℕ). 2 ^ n ≤ address) is high
]

whole : (p : ProfileName) (address bits place_bits : ℕ) → bits ≡ slot_bits p → place_bits ≡ slot_bits p → address % (1 * 2 ^ bits % 2 ^ 64) ≡ 0 → address / 2 ^ place_bits * slot_size p ≡ address
whole p address bits place_bits is place_is even =
    subst (λ (n : ℕ). address / 2 ^ n * slot_size p ≡ address) (sym place_is) (at p (subst (λ (n : ℕ). address % (1 * 2 ^ n % 2 ^ 64) ≡ 0) is even))
  where
    at : (q : ProfileName) → address % (1 * 2 ^ slot_bits q % 2 ^ 64) ≡ 0 → address / 2 ^ slot_bits q * slot_size q ≡ address
    at Wide h = omega arith
    at Narrow h = omega arith

uneven : (p : ProfileName) (address bits : ℕ) → bits ≡ slot_bits p → (address % (1 * 2 ^ bits % 2 ^ 64) ≡ 0 → ⊥) → address % slot_size p ≢ 0
uneven p address bits is rest = at p (subst (λ (n : ℕ). address % (1 * 2 ^ n % 2 ^ 64) ≡ 0 → ⊥) is rest)
  where
    at : (q : ProfileName) → (address % (1 * 2 ^ slot_bits q % 2 ^ 64) ≡ 0 → ⊥) → address % slot_size q ≢ 0
    at Wide h = h
    at Narrow h = h

small_place : (p : ProfileName) (address bits : ℕ) → bits ≡ slot_bits p → address < 2 ^ word_bits p → address / 2 ^ bits < 2 ^ 59
small_place p address bits is within = subst (λ (n : ℕ). address / 2 ^ n < 2 ^ 59) (sym is) (at p within)
  where
    at : (q : ProfileName) → address < 2 ^ word_bits q → address / 2 ^ slot_bits q < 2 ^ 59
    at Wide h = omega arith
    at Narrow h = omega arith

pub invariant_of-result : goal.invariant_of-result
invariant_of-result g c = record {
  small = small_place g.P.Profile.profile c.args.address c.SLOT_BITS-then-address-SLOT_BITS-eq0.result (c.SLOT_BITS-then-address-SLOT_BITS-eq0.ensures ∙ g.met.P.Profile.slot_bits_is)
      (elim c.if-WORD_BITS-eq-BITS.branch [
        | then-WORD_BITS-eq-BITS w ↦ full_word c.args.address (word_bits g.P.Profile.profile) c.WORD_BITS.result c.ranges.address.fits (c.WORD_BITS.ensures ∙ g.met.P.Profile.word_bits_is) w.if-WORD_BITS-eq-BITS.true
        | else-WORD_BITS-eq-BITS w ↦ short_word c.args.address (word_bits g.P.Profile.profile) w.WORD_BITS-else-WORD_BITS-eq-BITS.result (w.WORD_BITS-else-WORD_BITS-eq-BITS.ensures ∙ g.met.P.Profile.word_bits_is)
            (eqb-true (c.args.address / 2 ^ w.WORD_BITS-else-WORD_BITS-eq-BITS.result) 0 (sym w.is_word-is ∙ c.if-is_word.true))
      ]);
}

pub returns-then-address-SLOT_BITS-eq0-clause-slot : goal.returns-then-address-SLOT_BITS-eq0-clause-slot
returns-then-address-SLOT_BITS-eq0-clause-slot g c =
    whole g.P.Profile.profile c.args.address c.SLOT_BITS.result c.SLOT_BITS-then-address-SLOT_BITS-eq0.result (c.SLOT_BITS.ensures ∙ g.met.P.Profile.slot_bits_is)
    (c.SLOT_BITS-then-address-SLOT_BITS-eq0.ensures ∙ g.met.P.Profile.slot_bits_is) c.if-address-SLOT_BITS-eq0.true

pub returns-then-address-SLOT_BITS-eq0-clause-word : goal.returns-then-address-SLOT_BITS-eq0-clause-word
returns-then-address-SLOT_BITS-eq0-clause-word g c = elim c.if-WORD_BITS-eq-BITS.branch [
  | then-WORD_BITS-eq-BITS w ↦ full_word c.args.address (word_bits g.P.Profile.profile) c.WORD_BITS.result c.ranges.address.fits (c.WORD_BITS.ensures ∙ g.met.P.Profile.word_bits_is) w.if-WORD_BITS-eq-BITS.true
  | else-WORD_BITS-eq-BITS w ↦ short_word c.args.address (word_bits g.P.Profile.profile) w.WORD_BITS-else-WORD_BITS-eq-BITS.result (w.WORD_BITS-else-WORD_BITS-eq-BITS.ensures ∙ g.met.P.Profile.word_bits_is)
      (eqb-true (c.args.address / 2 ^ w.WORD_BITS-else-WORD_BITS-eq-BITS.result) 0 (sym w.is_word-is ∙ c.if-is_word.true))
]

pub returns-then-address-SLOT_BITS-eq0-clause-none : goal.returns-then-address-SLOT_BITS-eq0-clause-none
returns-then-address-SLOT_BITS-eq0-clause-none g c = tt

pub returns-else-is_word : goal.returns-else-is_word
returns-else-is_word g c = record {
  slot = tt;
  word = tt;
  none = elim c.else-is_word.branch [
    | else-is_word-via-then-is_word+else-address-SLOT_BITS-eq0 v ↦
        inl (uneven g.P.Profile.profile c.args.address v.SLOT_BITS.result (v.SLOT_BITS.ensures ∙ g.met.P.Profile.slot_bits_is) v.if-address-SLOT_BITS-eq0.false)
    | else-is_word-via-else-is_word v ↦ elim c.if-WORD_BITS-eq-BITS.branch [
      | then-WORD_BITS-eq-BITS w ↦ absurd (eqb-false c.WORD_BITS.result 64 (sym w.is_word-is ∙ v.if-is_word.false) w.if-WORD_BITS-eq-BITS.true)
      | else-WORD_BITS-eq-BITS w ↦
          inr (long_word c.args.address (word_bits g.P.Profile.profile) w.WORD_BITS-else-WORD_BITS-eq-BITS.result (w.WORD_BITS-else-WORD_BITS-eq-BITS.ensures ∙ g.met.P.Profile.word_bits_is)
          (eqb-false (c.args.address / 2 ^ w.WORD_BITS-else-WORD_BITS-eq-BITS.result) 0 (sym w.is_word-is ∙ v.if-is_word.false)))
    ]
  ];
}
