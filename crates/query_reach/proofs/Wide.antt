-- Ranges that no word lies behind.
use Rattle.std.proofs.Common.{◌≡◌, ◌≤◌, ◌<◌, ◌+◌, ◌^◌, ℕ, Bool, true, ◌&&◌, nat_le, nat_lt, sym, arith}
use Rattle.std.proofs.Math.Nat.{pow-le-pow_right}
use Rattle.std.proofs.lemmas.Bool.{lt-ltb, le-leb}

pub both_hold : (b c : Bool) → b ≡ true → c ≡ true → true ≡ (b && c)
both_hold b c h k = rw h (sym k)

pub has_wide : (first bits address : ℕ) → first ≤ address → address < 2 ^ 64 → 64 ≤ bits → true ≡ (nat_le first address && nat_lt address (first + 2 ^ bits))
has_wide first bits address low h w =
    let most : 2 ^ 64 ≤ 2 ^ bits = pow-le-pow_right {n = 2} (omega arith) {i = 64} {j = bits} w in
    both_hold (nat_le first address) (nat_lt address (first + 2 ^ bits)) (le-leb first address low)
    (lt-ltb address (first + 2 ^ bits) (omega (arith, h, most)))
