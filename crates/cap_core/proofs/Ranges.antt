-- Ranges that lie within one another, at any size.
use Rattle.std.proofs.Common.{◌≡◌, ℕ, ◌+◌, ◌*◌, ◌^◌, ◌<◌, ◌≤◌, ◌&&◌, nat_le, true, false, refl, arith}
use Rattle.std.proofs.Math.Nat.{pow-le-pow_right}
use Rattle.std.proofs.lemmas.Nat.{pow-add}
use Rattle.std.proofs.lemmas.Bool.{le-leb, lt-leb}

pub starts_before : (a b m n : ℕ) → b < a → nat_le a b && nat_le (b + 2 ^ n) (a + 2 ^ m) ≡ false
starts_before a b m n low = rw (lt-leb a b low) refl

pub ends_after : (a b m n : ℕ) → a ≤ b → a + 2 ^ m < b + 2 ^ n → nat_le a b && nat_le (b + 2 ^ n) (a + 2 ^ m) ≡ false
ends_after a b m n starts ends = rw (le-leb a b starts, lt-leb (b + 2 ^ n) (a + 2 ^ m) ends) refl

pub lies_within : (a b m n : ℕ) → a ≤ b → b + 2 ^ n ≤ a + 2 ^ m → nat_le a b && nat_le (b + 2 ^ n) (a + 2 ^ m) ≡ true
lies_within a b m n starts ends = rw (le-leb a b starts, le-leb (b + 2 ^ n) (a + 2 ^ m) ends) refl

-- a range of more than a word's bits has room for a smaller one at each word's distance
pub wide_range : (n m word : ℕ) → n < m → 64 < m → word < 2 ^ 64 → word + 2 ^ n ≤ 2 ^ m
wide_range n m word smaller wide low =
    let twice : 2 ^ (n + 1) ≤ 2 ^ m = pow-le-pow_right {n = 2} (omega arith) {i = n + 1} {j = m} (omega arith) in
    let words : 2 ^ 65 ≤ 2 ^ m = pow-le-pow_right {n = 2} (omega arith) {i = 65} {j = m} (omega arith) in
    let double : 2 ^ (n + 1) ≡ 2 ^ n * 2 ^ 1 = pow-add 2 n 1 in
    omega arith
