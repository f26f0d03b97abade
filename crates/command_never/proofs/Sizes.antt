-- How large an endpoint is, and a thread control block.
use Rattle.std.proofs.Common.{◌<◌, arith}
use Rattle.cap_core.specs.declared.profile.ProfileName.{ProfileName}
use Rattle.cap_core.specs.declared.profile.ProfileName.TheVariants.{Wide, Narrow}
use Rattle.cap_core.specs.Numbers.{endpoint_bits, tcb_bits}

pub endpoint_bits_small : (p : ProfileName) → endpoint_bits p < 64
endpoint_bits_small Wide = omega arith
endpoint_bits_small Narrow = omega arith

pub tcb_bits_small : (p : ProfileName) → tcb_bits p < 64
tcb_bits_small Wide = omega arith
tcb_bits_small Narrow = omega arith
