-- Words as lists of bits, at any length.
use Rattle.std.proofs.Common.{◌≡◌, ℕ, zero, suc, ◌+◌, ◌-◌, ◌*◌, ◌/◌, ◌%◌, ◌^◌, ◌<◌, ◌≤◌, refl, sym, ap, ◌∙◌, arith, List, [], ◌∷◌, ◌++◌, length, zero-add, length-append}
use Rattle.std.proofs.lemmas.Nat.{shr-shr, mod-pow-add, pow-add, field_of}
use Rattle.std.specs.Int.Digits.{number_from_digits, number_from_digits_after}
use Rattle.std.proofs.Math.Nat.{mod-eq_of_lt}
use Rattle.cspace_core.specs.Bits.{low_bits}

pub length-low_bits : (n word : ℕ) → length (low_bits n word) ≡ n
unfolding low_bits
length-low_bits zero word = refl
length-low_bits (suc n) word = ap suc (length-low_bits n word)

-- the low bits after the high ones
pub low_bits-add : (j k word : ℕ) → low_bits (j + k) word ≡ low_bits j (word / 2 ^ k) ++ low_bits k word
unfolding low_bits
low_bits-add zero k word = rw (zero-add k) refl
low_bits-add (suc j) k word =
    let e : suc j + k ≡ suc (j + k) = omega arith in
    let turned : j + k ≡ k + j = omega arith in
    let head : word / 2 ^ (j + k) % 2 ≡ word / 2 ^ k / 2 ^ j % 2 = rw (shr-shr word k j, turned) refl in
    rw (e, head, low_bits-add j k word) refl

pub number_after-low_bits : (n a word : ℕ) → number_from_digits_after 2 a (low_bits n word) ≡ a * 2 ^ n + word % 2 ^ n
unfolding low_bits
number_after-low_bits zero a word = omega arith
number_after-low_bits (suc n) a word =
    let e : suc n ≡ 1 + n = omega arith in
    let p : 2 ^ (1 + n) ≡ 2 * 2 ^ n = pow-add 2 1 n in
    let rest : number_from_digits_after 2 (a * 2 + word / 2 ^ n % 2) (low_bits n word) ≡ (a * 2 + word / 2 ^ n % 2) * 2 ^ n + word % 2 ^ n = number_after-low_bits n (a * 2 + word / 2 ^ n % 2) word in
    let split : (a * 2 + word / 2 ^ n % 2) * 2 ^ n ≡ a * (2 * 2 ^ n) + (word / 2 ^ n % 2) * 2 ^ n = grind arith in
    rw (rest, split, e, mod-pow-add word 1 n, p) (omega arith)

pub number-low_bits : (n word : ℕ) → number_from_digits 2 (low_bits n word) ≡ word % 2 ^ n
number-low_bits n word = number_after-low_bits n 0 word ∙ omega arith

pub low_bit : (a k : ℕ) → a % 2 ^ suc k % 2 ≡ a % 2
low_bit a k =
    let e : suc k ≡ k + 1 = omega arith in
    let d : a % 2 ^ (k + 1) ≡ (a / 2 ^ 1 % 2 ^ k) * 2 ^ 1 + a % 2 ^ 1 = mod-pow-add a k 1 in
    rw (e, d) (omega arith)

-- the bits of a number that is cut
pub low_bits-mod : (n m word : ℕ) → n ≤ m → low_bits n (word % 2 ^ m) ≡ low_bits n word
unfolding low_bits
low_bits-mod zero m word h = refl
low_bits-mod (suc n) m word h =
    let e : suc (m - suc n) + n ≡ m = omega arith in
    let cut : word % 2 ^ (suc (m - suc n) + n) / 2 ^ n ≡ word / 2 ^ n % 2 ^ suc (m - suc n) = field_of word (suc (m - suc n)) n in
    let cut' : word % 2 ^ m / 2 ^ n ≡ word / 2 ^ n % 2 ^ suc (m - suc n) = rw e at cut in
    let rest : low_bits n (word % 2 ^ m) ≡ low_bits n word = low_bits-mod n m word (omega arith) in
    rw (cut', low_bit (word / 2 ^ n) (m - suc n), rest) refl

-- two lists whose fronts are as long have one front, and one rest
pub same_front : (xs ys us vs : List ℕ) → length xs ≡ length us → xs ++ ys ≡ us ++ vs → xs ≡ us
same_front [] ys [] vs h e = refl
same_front [] ys (u ∷ us) vs h e = cc
same_front (x ∷ xs) ys [] vs h e = cc
same_front (x ∷ xs) ys (u ∷ us) vs h e =
    let t : xs ++ ys ≡ us ++ vs = cc in
    let l : length xs ≡ length us = cc in
    let f = same_front xs ys us vs l t in
    cc

-- the bits begin with those of a guard, where the number says so
pub begins : (n word g v : ℕ) → g ≤ n → word / 2 ^ (n - g) % 2 ^ g ≡ v → low_bits n word ≡ low_bits g v ++ low_bits (n - g) word
begins n word g v h e =
    let sum : g + (n - g) ≡ n = omega arith in
    let split : low_bits (g + (n - g)) word ≡ low_bits g (word / 2 ^ (n - g)) ++ low_bits (n - g) word = low_bits-add g (n - g) word in
    let split' : low_bits n word ≡ low_bits g (word / 2 ^ (n - g)) ++ low_bits (n - g) word = rw sum at split in
    let cut : low_bits g (word / 2 ^ (n - g) % 2 ^ g) ≡ low_bits g (word / 2 ^ (n - g)) = low_bits-mod g g (word / 2 ^ (n - g)) (omega arith) in
    split' ∙ ap (λ front. front ++ low_bits (n - g) word) (sym cut ∙ ap (low_bits g) e)

-- and only there
pub begins_length : (n word g v : ℕ) (rest : List ℕ) → low_bits n word ≡ low_bits g v ++ rest → g + length rest ≡ n
begins_length n word g v rest e =
    let l : length (low_bits n word) ≡ length (low_bits g v ++ rest) = ap length e in
    let s : length (low_bits g v ++ rest) ≡ length (low_bits g v) + length rest = length-append (low_bits g v) rest in
    omega (arith, length-low_bits n word, length-low_bits g v)

pub begins_only : (n word g v : ℕ) (rest : List ℕ) → v < 2 ^ g → low_bits n word ≡ low_bits g v ++ rest → word / 2 ^ (n - g) % 2 ^ g ≡ v
begins_only n word g v rest small e =
    let sum = begins_length n word g v rest e in
    let back : n - g ≡ length rest = omega arith in
    let split : low_bits (g + length rest) word ≡ low_bits g (word / 2 ^ length rest) ++ low_bits (length rest) word = low_bits-add g (length rest) word in
    let split' : low_bits n word ≡ low_bits g (word / 2 ^ length rest) ++ low_bits (length rest) word = rw sum at split in
    let lengths : length (low_bits g (word / 2 ^ length rest)) ≡ length (low_bits g v) = length-low_bits g (word / 2 ^ length rest) ∙ sym (length-low_bits g v) in
    let front : low_bits g (word / 2 ^ length rest) ≡ low_bits g v =
    same_front _ (low_bits (length rest) word) _ rest lengths (sym split' ∙ e) in
    let numbers : word / 2 ^ length rest % 2 ^ g ≡ v % 2 ^ g = sym (number-low_bits g _) ∙ (ap (number_from_digits 2) front ∙ number-low_bits g v) in
    rw back (numbers ∙ mod-eq_of_lt small)
