-- The proof of `is_below_power`: the goal that a search leaves open.
use Rattle.std.proofs.Common.{◌^◌, ◌<◌, ◌≤◌, arith, refl}
use Rattle.std.proofs.Math.Nat.{pow-le-pow_right}
use Rattle.std.proofs.lemmas.Bool.{lt-ltb, le-leb}
use Rattle.kernel_checks.proofs.hints.is_below_power.Goals as goal

pub returns-then-bits-ge-BITS : goal.returns-then-bits-ge-BITS
returns-then-bits-ge-BITS c =
    let more : 2 ^ 64 ≤ 2 ^ c.args.bits = pow-le-pow_right (omega arith) c.if-bits-ge-BITS.true in
    let below : c.args.number < 2 ^ c.args.bits = omega arith in
    rw (le-leb 64 c.args.bits c.if-bits-ge-BITS.true, lt-ltb c.args.number (2 ^ c.args.bits) below) refl
