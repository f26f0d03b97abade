-- What one CNode makes of the low bits of a word, with the reason where it chooses no slot.
use Rattle.std.proofs.Common.{◌≡◌, ◌≢◌, ℕ, ◌+◌, ◌-◌, ◌/◌, ◌%◌, ◌^◌, ◌<◌, ◌≤◌, refl, ap, ◌∙◌, arith, Bool, true, false, cond, ◌==◌, List, [], ◌∷◌, ◌++◌, length, take, drop, Some, None, Ok, Err, eq-eqb}
use Rattle.std.proofs.lemmas.Bool.{eqb-true, lt-ltb, le-ltb}
use Rattle.std.proofs.lemmas.List.{take_all}
use Rattle.std.proofs.Math.Seq.{take-append_seam, drop-append_seam}
use Rattle.std.specs.Int.Digits.{number_from_digits}
use Rattle.cap_core.specs.declared.profile.ProfileName.{ProfileName}
use Rattle.cap_core.specs.declared.capability.Guard.{Guard}
use Rattle.cap_core.specs.declared.capability.Cap.TheVariants.{CNode}
use Rattle.cspace_core.specs.Bits.{low_bits, after_front}
use Rattle.cspace_core.specs.Resolution.{guard_bits, slot_of}
use Rattle.cspace_core.proofs.Bits.{length-low_bits, low_bits-add, number-low_bits, begins, begins_length, begins_only}
use Rattle.kernel_abstract.specs.declared.reason.Miss.TheVariants.{OtherGuard, TooFewBits}
use Rattle.kernel_abstract.specs.Lookups.{chosen}

after_front-append : (front rest : List ℕ) → after_front front (front ++ rest) ≡ Some rest
after_front-append [] rest = refl
after_front-append (f ∷ front) rest = rw (eq-eqb f f refl) (after_front-append front rest)

head_differs : (f b : ℕ) (front bits : List ℕ) (t : Bool) → (f == b) ≡ t → (f ≡ b → after_front front bits ≡ None) →
    cond t (after_front front bits) None ≡ None
head_differs f b front bits true e h = h (eqb-true f b e)
head_differs f b front bits false e h = refl

after_front-none : (front bits : List ℕ) → ((rest : List ℕ) → bits ≢ front ++ rest) → after_front front bits ≡ None
after_front-none [] bits h = absurd (h bits refl)
after_front-none (f ∷ front) [] h = refl
after_front-none (f ∷ front) (b ∷ bits) h =
    head_differs f b front bits (f == b) refl
    (λ same. after_front-none front bits (λ rest e. let whole : b ∷ bits ≡ (f ∷ front) ++ rest = cc in h rest whole))

-- the first bits of a word's low bits, as a number
take_low : (s n word : ℕ) → s ≤ n → take s (low_bits n word) ≡ low_bits s (word / 2 ^ (n - s))
take_low s n word h =
    let sum : s + (n - s) ≡ n = omega arith in
    let split : low_bits (s + (n - s)) word ≡ low_bits s (word / 2 ^ (n - s)) ++ low_bits (n - s) word = low_bits-add s (n - s) word in
    let split' : low_bits n word ≡ low_bits s (word / 2 ^ (n - s)) ++ low_bits (n - s) word = rw sum at split in
    let seam = take-append_seam (low_bits s (word / 2 ^ (n - s))) (low_bits (n - s) word) in
    let seam' : take s (low_bits s (word / 2 ^ (n - s)) ++ low_bits (n - s) word) ≡ low_bits s (word / 2 ^ (n - s)) = rw (length-low_bits s (word / 2 ^ (n - s))) at seam in
    ap (take s) split' ∙ seam'

pub read_low : (s n word : ℕ) → s ≤ n → number_from_digits 2 (take s (low_bits n word)) ≡ word / 2 ^ (n - s) % 2 ^ s
read_low s n word h = ap (number_from_digits 2) (take_low s n word h) ∙ number-low_bits s (word / 2 ^ (n - s))

pub read_all : (s n word : ℕ) → n < s → number_from_digits 2 (take s (low_bits n word)) ≡ word / 2 ^ 0 % 2 ^ n
read_all s n word h =
    let l : length (low_bits n word) ≤ s = let e = length-low_bits n word in omega arith in
    let one : word / 2 ^ 0 ≡ word = omega arith in
    ap (number_from_digits 2) (take_all s (low_bits n word) l) ∙ rw one (number-low_bits n word)

pub shorter_than_guard : (p : ProfileName) (slot base radix : ℕ) (guard : Guard) (n word : ℕ) → n < guard.size →
    Err (OtherGuard (record { slot = slot; cap = CNode base radix guard }) n (word / 2 ^ 0 % 2 ^ n))
    ≡ chosen p slot (CNode base radix guard) (low_bits n word)
shorter_than_guard p slot base radix guard n word h =
    let none : after_front (guard_bits guard) (low_bits n word) ≡ None =
    after_front-none (guard_bits guard) (low_bits n word)
    (λ rest e. let l : guard.size + length rest ≡ n = begins_length n word guard.size guard.value rest e in omega arith) in
    rw (none, length-low_bits n word, read_all guard.size n word h) refl

pub unlike_guard : (p : ProfileName) (slot base radix : ℕ) (guard : Guard) (n word : ℕ) → guard.size ≤ n → guard.value < 2 ^ guard.size →
    (word / 2 ^ (n - guard.size) % 2 ^ guard.size ≡ guard.value → ⊥) →
    Err (OtherGuard (record { slot = slot; cap = CNode base radix guard }) n (word / 2 ^ (n - guard.size) % 2 ^ guard.size))
    ≡ chosen p slot (CNode base radix guard) (low_bits n word)
unlike_guard p slot base radix guard n word enough cut h =
    let none : after_front (guard_bits guard) (low_bits n word) ≡ None =
    after_front-none (guard_bits guard) (low_bits n word)
    (λ rest e. h (begins_only n word guard.size guard.value rest cut e)) in
    rw (none, length-low_bits n word, read_low guard.size n word enough) refl

behind : (guard : Guard) (n word : ℕ) → guard.size ≤ n → word / 2 ^ (n - guard.size) % 2 ^ guard.size ≡ guard.value →
    after_front (guard_bits guard) (low_bits n word) ≡ Some (low_bits (n - guard.size) word)
behind guard n word enough is =
    ap (after_front (guard_bits guard)) (begins n word guard.size guard.value enough is)
    ∙ after_front-append (guard_bits guard) (low_bits (n - guard.size) word)

pub shorter_than_radix : (p : ProfileName) (slot base radix : ℕ) (guard : Guard) (n word : ℕ) → guard.size ≤ n →
    word / 2 ^ (n - guard.size) % 2 ^ guard.size ≡ guard.value → n - guard.size < radix →
    Err (TooFewBits (record { slot = slot; cap = CNode base radix guard }) (n - guard.size))
    ≡ chosen p slot (CNode base radix guard) (low_bits n word)
shorter_than_radix p slot base radix guard n word enough is few =
    rw (behind guard n word enough is, length-low_bits (n - guard.size) word, lt-ltb (n - guard.size) radix few) refl

drop_low : (s n word : ℕ) → s ≤ n → drop s (low_bits n word) ≡ low_bits (n - s) word
drop_low s n word h =
    let sum : s + (n - s) ≡ n = omega arith in
    let split : low_bits (s + (n - s)) word ≡ low_bits s (word / 2 ^ (n - s)) ++ low_bits (n - s) word = low_bits-add s (n - s) word in
    let split' : low_bits n word ≡ low_bits s (word / 2 ^ (n - s)) ++ low_bits (n - s) word = rw sum at split in
    let seam = drop-append_seam (low_bits s (word / 2 ^ (n - s))) (low_bits (n - s) word) in
    let seam' : drop s (low_bits s (word / 2 ^ (n - s)) ++ low_bits (n - s) word) ≡ low_bits (n - s) word = rw (length-low_bits s (word / 2 ^ (n - s))) at seam in
    ap (drop s) split' ∙ seam'

pub slot_taken : (p : ProfileName) (slot base radix : ℕ) (guard : Guard) (n word : ℕ) → guard.size ≤ n →
    word / 2 ^ (n - guard.size) % 2 ^ guard.size ≡ guard.value → radix ≤ n - guard.size →
    Ok (record { slot = slot_of p base (word / 2 ^ (n - guard.size - radix) % 2 ^ radix); left = low_bits (n - guard.size - radix) word })
    ≡ chosen p slot (CNode base radix guard) (low_bits n word)
slot_taken p slot base radix guard n word enough is more =
    rw (
      behind guard n word enough is,
      length-low_bits (n - guard.size) word,
      le-ltb (n - guard.size) radix more,
      read_low radix (n - guard.size) word more,
      drop_low radix (n - guard.size) word more,
    ) refl
