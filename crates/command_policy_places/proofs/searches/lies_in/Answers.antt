use Rattle.std.proofs.Common.{◌≤◌, ◌^◌, arith}
use Rattle.std.proofs.Math.Pow.{pow_mono}
use Rattle.command_policy_places.proofs.searches.lies_in.Goals as goal

-- an address is below 2^64
pub returns-then-bits-ge64 : goal.returns-then-bits-ge64
returns-then-bits-ge64 c =
    let power : 2 ^ 64 ≤ 2 ^ c.args.bits = pow_mono {i = 64} {j = c.args.bits} c.if-bits-ge64.true in
    grind (arith, power, c.if-first-address.true, c.if-bits-ge64.true, c.ranges.address.fits)
