-- A right that is among some rights is among more.
use Rattle.std.proofs.Common.{◌≡◌, ℕ, true, arith, eq-eqb, bit_and}
use Rattle.std.specs.Int.{bit_at}
use Rattle.std.proofs.lemmas.Bool.{eqb-true}
use Rattle.std.proofs.lemmas.Nat.Bits.{and_pow}
use Rattle.cap_core.specs.declared.rights.Rights.{Rights}
use Rattle.cap_core.specs.Rights.{grant_bit, grant_reply_bit}
use Rattle.kernel_abstract.specs.Decode.{has_right}
use Rattle.command_never.proofs.Had.{IsKeptRight}
pub use Rattle.command_never.proofs.Had.{read_kept, write_kept}

pub grant_kept : IsKeptRight grant_bit
grant_kept few many among has =
    let four = eqb-true (bit_and few.0 4) 4 has in
    let set : bit_at few.0 2 ≡ 1 = omega (arith, four, and_pow few.0 2) in
    let then = among 2 set in
    eq-eqb (bit_and many.0 4) 4 (omega (arith, then, and_pow many.0 2))

pub grant_reply_kept : IsKeptRight grant_reply_bit
grant_reply_kept few many among has =
    let eight = eqb-true (bit_and few.0 8) 8 has in
    let set : bit_at few.0 3 ≡ 1 = omega (arith, eight, and_pow few.0 3) in
    let then = among 3 set in
    eq-eqb (bit_and many.0 8) 8 (omega (arith, then, and_pow many.0 3))
