use Rattle.std.proofs.Common.{◌≤◌, ◌^◌, arith}
use Rattle.std.proofs.Math.Nat.{pow-le-pow_right}
use Rattle.setup_values.proofs.kinds.digits.Goals as goal

pub overflow_mul-number : goal.overflow_mul-number
overflow_mul-number c =
    let top : 16 ^ c.loop-byte.byte-index ≤ 16 ^ 15 = pow-le-pow_right {n = 16} (omega arith) {i = c.loop-byte.byte-index} {j = 15} (omega arith) in omega (arith, c.loop-byte.invariant.small)

pub overflow_add-number : goal.overflow_add-number
overflow_add-number c =
    let top : 16 ^ c.loop-byte.byte-index ≤ 16 ^ 15 = pow-le-pow_right {n = 16} (omega arith) {i = c.loop-byte.byte-index} {j = 15} (omega arith) in omega (arith, c.loop-byte.invariant.small, c.in-Some.ensures.small)
