-- The root CNode has at most 2^12 slots.
use Rattle.std.proofs.Common.{◌^◌, ◌≤◌, arith}
use Rattle.std.proofs.Math.Nat.{pow-le-pow_right}
use Rattle.std.proofs.lemmas.Nat.{one_shl}
use Rattle.setup_policy_meaning.proofs.objects.slot_count.Goals as goal

pub returns-clause-small : goal.returns-clause-small
returns-clause-small g c =
    let low : c.root_radix.result ≤ 12 = omega (arith, c.requires.sizes.radix_most, c.root_radix.ensures) in
    let small : 2 ^ c.root_radix.result ≤ 2 ^ 12 = pow-le-pow_right (omega arith) low in
    omega (arith, small, one_shl c.root_radix.result 64 (omega (arith, low)))
