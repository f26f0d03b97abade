-- Sizes of objects.
use Rattle.std.proofs.Common.{◌≡◌, ℕ, ◌<◌, ◌*◌, ◌%◌, ◌^◌, ap, arith}
use Rattle.cap_core.specs.declared.profile.ProfileName.{ProfileName}
use Rattle.cap_core.specs.declared.profile.ProfileName.TheVariants.{Wide, Narrow}
use Rattle.cap_core.specs.Numbers.{tcb_bits, tcb_size}

pub tcb_size-pos : (p : ProfileName) → 0 < tcb_size p
tcb_size-pos Wide = omega arith
tcb_size-pos Narrow = omega arith

-- one, shifted by the bits of a size in a word of 64 bits, is the size
pub tcb_size-shifted : (p : ProfileName) (b : ℕ) → b ≡ tcb_bits p → (1 * 2 ^ b) % 2 ^ 64 ≡ tcb_size p
tcb_size-shifted Wide b e = ap (λ (n : ℕ). (1 * 2 ^ n) % 2 ^ 64) e
tcb_size-shifted Narrow b e = ap (λ (n : ℕ). (1 * 2 ^ n) % 2 ^ 64) e
