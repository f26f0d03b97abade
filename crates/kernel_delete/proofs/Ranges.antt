-- The slots of an object lie in its range, each once.
use Rattle.std.proofs.Common.{◌≡◌, inl, inr, ℕ, zero, suc, ◌+◌, ◌-◌, ◌*◌, ◌%◌, ◌^◌, ◌≤◌, ◌<◌, Bool, true, false, nat_lt, List, [], ◌∷◌, ◌++◌, append_assoc, refl, sym, ◌∙◌, ap, subst, arith}
use Rattle.std.proofs.Math.Nat.{one-le-pow, suc-mul, zero-mul}
use Rattle.std.proofs.lemmas.Nat.{pow-add, pow_pos, pow_below}
use Rattle.std.proofs.Math.Pow.{mod-mod-pow}
use Rattle.std.proofs.lemmas.Bool.Decides.{nat_tests}
use Rattle.cap_core.specs.declared.profile.ProfileName.{ProfileName}
use Rattle.cap_core.specs.declared.profile.ProfileName.TheVariants.{Wide, Narrow}
use Rattle.cap_core.specs.declared.capability.Guard.{Guard}
use Rattle.cap_core.specs.declared.capability.Cap.{Cap}
use Rattle.cap_core.specs.declared.capability.Cap.TheVariants.{Null, Untyped, Endpoint, CNode, Tcb}
use Rattle.cap_core.specs.Numbers.{word_bits, slot_bits, slot_size, tcb_bits}
use Rattle.cap_core.specs.Objects.{IsLawful, base_of, end_of}
use Rattle.kernel_delete.specs.Members.{In, AreDistinct, AreBelow}
use Rattle.kernel_forest.specs.Slots.{addresses, slots_of}

-- an address of so many, each `size` past the one before it, lies among them
pub in_addresses : (size first count n : ℕ) → In n (addresses size first count) → (first ≤ n) × (n + size ≤ first + count * size)
in_addresses size first zero n i = absurd i
in_addresses size first (suc count) n i =
    let e : suc count * size ≡ count * size + size = suc-mul count size in
    elim i [
      | inl h ↦ (omega (arith, h), omega (arith, h, e))
      | inr j ↦ let x = in_addresses size (first + size) count n j in (omega (arith, x.0), omega (arith, x.1, e))
    ]

pub distinct_addresses : (size first count : ℕ) → 1 ≤ size → AreDistinct (addresses size first count)
distinct_addresses size first zero h = tt
distinct_addresses size first (suc count) h =
    (λ i. let x = (in_addresses size (first + size) count first i).0 in absurd (omega (arith, x, h)), distinct_addresses size (first + size) count h)

-- so many slots fill an object of as many bytes
slots_fill : (p : ProfileName) (radix : ℕ) → 2 ^ radix * slot_size p ≡ 2 ^ (slot_bits p + radix)
slots_fill p radix = let e : slot_bits p + radix ≡ radix + slot_bits p = omega arith in sym (ap (λ n. 2 ^ n) e ∙ pow-add 2 radix (slot_bits p))

pub slot_in_range : (p : ProfileName) (c : Cap) (n : ℕ) → In n (slots_of p c) → (base_of c ≤ n) × (n < end_of p c)
unfolding slots_of
slot_in_range p (CNode base radix guard) n i =
    let x = in_addresses (slot_size p) base (2 ^ radix) n i in
    let e = slots_fill p radix in
    let o : 1 ≤ 2 ^ slot_bits p = one-le-pow (slot_bits p) 2 (omega arith) in
    (x.0, omega (arith, x.1, e, o))
slot_in_range p (Tcb base) n i = elim i [
  | inl h ↦ let o : 1 ≤ 2 ^ tcb_bits p = one-le-pow (tcb_bits p) 2 (omega arith) in (omega (arith, h), omega (arith, h, o))
  | inr j ↦ absurd j
]
slot_in_range p Null n i = absurd i
slot_in_range p (Untyped base bits free) n i = absurd i
slot_in_range p (Endpoint base badge rights) n i = absurd i

pub slots_distinct : (p : ProfileName) (c : Cap) → AreDistinct (slots_of p c)
unfolding slots_of
slots_distinct p (Tcb base) = (λ i. i, tt)
slots_distinct p (CNode base radix guard) = distinct_addresses (slot_size p) base (2 ^ radix) (one-le-pow (slot_bits p) 2 (omega arith))
slots_distinct p Null = tt
slots_distinct p (Untyped base bits free) = tt
slots_distinct p (Endpoint base badge rights) = tt

-- so many addresses are the first of them and the rest

addresses_parts : (size b m n k : ℕ) → k ≡ m + n → addresses size b k ≡ addresses size b m ++ addresses size (b + m * size) n
addresses_parts size b zero n k e = let x : k ≡ n = omega arith in let y : b + zero * size ≡ b = let z = zero-mul size in omega arith in rw (x, y) refl
addresses_parts size b (suc m) n zero e = absurd (omega arith)
addresses_parts size b (suc m) n (suc k) e =
    let x : k ≡ m + n = omega arith in
    let z : suc m * size ≡ m * size + size = suc-mul m size in
    let y : b + size + m * size ≡ b + suc m * size = omega (arith, z) in
    ap (λ l. b ∷ l) (addresses_parts size (b + size) m n k x ∙ ap (λ j. addresses size (b + size) m ++ addresses size j n) y)

addresses_more : (size b left rest count : ℕ) → count ≡ left + 1 + rest → addresses size b count ≡ addresses size b left ++ ((b + left * size) ∷ addresses size (b + left * size + size) rest)
addresses_more size b left rest count e = addresses_parts size b left (1 + rest) count (omega arith) ∙ ap (λ l. addresses size b left ++ l) (let x : 1 + rest ≡ suc rest = omega arith in rw x refl)

distinct_right : (k l : List ℕ) → AreDistinct (k ++ l) → AreDistinct l
distinct_right [] l h = h
distinct_right (n ∷ k) l h = distinct_right k l h.1

pub below_left : (size : ℕ) (k l : List ℕ) → AreBelow size (k ++ l) → AreBelow size k
below_left size [] l h = tt
below_left size (n ∷ k) l h = (h.0, below_left size k l h.1)

below_right : (size : ℕ) (k l : List ℕ) → AreBelow size (k ++ l) → AreBelow size l
below_right size [] l h = h
below_right size (n ∷ k) l h = below_right size k l h.1

-- the last of those that are left is no other, and is below what all are below

pub push_absent : (size b left rest count : ℕ) (old : List ℕ) → count ≡ left + 1 + rest → AreDistinct (addresses size b count ++ old) → In (b + left * size) (addresses size (b + left * size + size) rest ++ old) → ⊥
push_absent size b left rest count old e d =
    let x : addresses size b count ++ old ≡ addresses size b left ++ (((b + left * size) ∷ addresses size (b + left * size + size) rest) ++ old) =
    ap (λ l. l ++ old) (addresses_more size b left rest count e) ∙ append_assoc (addresses size b left) ((b + left * size) ∷ addresses size (b + left * size + size) rest) old in
    (distinct_right (addresses size b left) (((b + left * size) ∷ addresses size (b + left * size + size) rest) ++ old) (subst AreDistinct x d)).0

pub push_within : (size most b left rest count : ℕ) → count ≡ left + 1 + rest → AreBelow most (addresses size b count) → b + left * size < most
push_within size most b left rest count e h =
    let P : List ℕ → Type 0 = AreBelow most in
    (below_right most (addresses size b left) ((b + left * size) ∷ addresses size (b + left * size + size) rest) (subst P (addresses_more size b left rest count e) h)).0

-- what comes next, where so many are left
pub next_of_range : (size base left count a : ℕ) (old now : List ℕ × ℕ) → 1 ≤ left → left ≤ count → now ≡ (addresses size (base + left * size) (count - left) ++ old.0, old.1) → AreDistinct (addresses size base count ++ old.0)
    → AreBelow old.1 (addresses size base count) → a ≡ base + (left - 1) * size
    → (In a now.0 → ⊥) × (a < now.1) × (◌≡◌ {A = List ℕ × ℕ} (a ∷ now.0, now.1) (addresses size (base + (left - 1) * size) (count - (left - 1)) ++ old.0, old.1))
next_of_range size base zero count a old now l m e d b h = absurd (omega arith)
next_of_range size base (suc left) count a old now l m e d b h =
    let minus : suc left - 1 ≡ left = omega arith in
    let rest : ℕ = count - suc left in
    let all : count ≡ left + 1 + rest = omega arith in
    let z : suc left * size ≡ left * size + size = suc-mul left size in
    let here : base + suc left * size ≡ base + left * size + size = omega (arith, z) in
    let at : a ≡ base + left * size = h ∙ ap (λ k. base + k * size) minus in
    let is : now ≡ (addresses size (base + left * size + size) rest ++ old.0, old.1) = e ∙ ap (λ k. (addresses size k rest ++ old.0, old.1)) here in
    let more : count - left ≡ suc rest = omega arith in
    let P : ℕ → Type 0 = λ k. In k now.0 in
    let Q : List ℕ × ℕ → Type 0 = λ x. In (base + left * size) x.0 in
    let bytes : now.1 ≡ old.1 = ap (λ x. x.1) is in
    let front : List ℕ × ℕ → List ℕ × ℕ = λ x. (a ∷ x.0, x.1) in
    let put : ℕ → List ℕ × ℕ = λ k. (k ∷ (addresses size (base + left * size + size) rest ++ old.0), old.1) in
    let below : base + left * size < old.1 = push_within size old.1 base left rest count all b in (
      (λ i. push_absent size base left rest count old.0 all d (subst Q is (subst P at i))),
      omega (arith, below, at, bytes),
      ap front is ∙ ap (λ k. put k) at ∙ rw (minus, more) refl,
    )

-- what a lawful capability says of its object's slots

words_most : (p : ProfileName) → word_bits p ≤ 64
words_most Wide = omega arith
words_most Narrow = omega arith

slots_some : (p : ProfileName) → 1 ≤ slot_bits p
slots_some Wide = omega arith
slots_some Narrow = omega arith

still_aligned : (n i j k : ℕ) → i ≡ j + k → n % 2 ^ i ≡ 0 → n % 2 ^ k ≡ 0
still_aligned n i j k h e =
    let x : n % 2 ^ (j + k) ≡ 0 = ap (λ m. n % 2 ^ m) (sym h) ∙ e in
    sym (mod-mod-pow n j k) ∙ ap (λ m. m % 2 ^ k) x ∙ omega (arith, pow_pos k)

pub node_lawful : (p : ProfileName) (base radix : ℕ) (guard : Guard) → IsLawful p (word_bits p) (CNode base radix guard)
    → (radix < 64) × (base % slot_size p ≡ 0) × (base + 2 ^ radix * slot_size p ≤ 2 ^ word_bits p)
node_lawful p base radix guard law =
    let fill = slots_fill p radix in
    (few (nat_lt radix 64) refl, still_aligned base (slot_bits p + radix) radix (slot_bits p) (omega arith) law.placed.aligned, omega (arith, law.placed.addressed, fill))
  where
    few : (b : Bool) → nat_lt radix 64 ≡ b → radix < 64
    few true e = grind (arith, nat_tests)
    few false e =
        let m : 64 ≤ radix = grind (arith, nat_tests) in
        let x = pow_below (word_bits p) (slot_bits p + radix) (omega (arith, words_most p, slots_some p, m)) in
        absurd (omega (arith, law.placed.addressed, x))
