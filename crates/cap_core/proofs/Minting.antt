-- Guard words that are read back, and rights that are met.
use Rattle.std.proofs.Common.{◌≡◌, ℕ, Bool, ◌+◌, ◌*◌, ◌/◌, ◌%◌, ◌^◌, ◌<◌, ◌≤◌, ◌↔◌, ◌∙◌, sym, ap, refl, arith, bit_and, Some}
use Rattle.std.specs.Int.{bit_at}
use Rattle.std.proofs.lemmas.Nat.{pow_pos}
use Rattle.std.proofs.lemmas.Nat.Bits.{bit_at_and, bit_at-lt}
use Rattle.std.proofs.lemmas.Bool.{le-leb}
use Rattle.std.proofs.Math.Nat.{add-mul-mod_self_right, add-mul-div_right, mod-eq_of_lt, div-eq_of_lt, min-le_left, min-le_right}
use Rattle.cap_core.specs.declared.profile.ProfileName.{ProfileName}
use Rattle.cap_core.specs.declared.capability.Guard.{Guard}
use Rattle.cap_core.specs.declared.capability.Cap.{Cap}
use Rattle.cap_core.specs.declared.capability.Cap.TheVariants.{CNode}
use Rattle.cap_core.specs.Numbers.{word_bits, guard_size_bits}
use Rattle.cap_core.specs.Minting.{guard_word, guard_held, guarded, with_data}

pub guard-read_back : (p : ProfileName) (guard : Guard) → guard.size < 2 ^ guard_size_bits p → guard.value < 2 ^ guard.size →
    guard_held p (guard_word p guard) ≡ guard
guard-read_back p guard fits cut =
    let low : (guard.size + guard.value * 2 ^ guard_size_bits p) % 2 ^ guard_size_bits p ≡ guard.size =
    add-mul-mod_self_right guard.size guard.value (2 ^ guard_size_bits p) ∙ mod-eq_of_lt fits in
    let high : (guard.size + guard.value * 2 ^ guard_size_bits p) / 2 ^ guard_size_bits p ≡ guard.value =
    add-mul-div_right guard.size guard.value (pow_pos (guard_size_bits p)) ∙ rw (div-eq_of_lt fits) (omega arith) in
    rw (low, high, mod-eq_of_lt cut) refl

pub data-read_back : (p : ProfileName) (preserve : Bool) (word : ℕ) (cap : Cap) (base radix : ℕ) (before guard : Guard) →
    cap ≡ CNode base radix before → word ≡ guard_word p guard →
    guard.size < 2 ^ guard_size_bits p → guard.value < 2 ^ guard.size → guard.size + radix ≤ word_bits p →
    with_data p preserve word cap ≡ Some (CNode base radix guard)
data-read_back p preserve word cap base radix before guard node is fits cut both =
    let held : guard_held p word ≡ guard = rw is (guard-read_back p guard fits cut) in
    let set : with_data p preserve word cap ≡ guarded p base radix guard = rw node (ap (λ g. guarded p base radix g) held) in
    let room : guarded p base radix guard ≡ Some (CNode base radix guard) = rw (le-leb (guard.size + radix) (word_bits p) both) refl in
    set ∙ room

pub bit_in_both : (a b right : ℕ) → (bit_at (bit_and a b) right ≡ 1) ↔ ((bit_at a right ≡ 1) × (bit_at b right ≡ 1))
bit_in_both a b right =
    let e = bit_at_and a b right in (
      λ one.
          let least = sym e ∙ one in (
            omega (arith, bit_at-lt a right, min-le_left (bit_at a right) (bit_at b right)),
            omega (arith, bit_at-lt b right, min-le_right (bit_at a right) (bit_at b right)),
          ),
      λ both. e ∙ rw (both.0, both.1) refl,
    )
