-- Objects that are placed one after another have no address in common.
use Rattle.std.proofs.Common.{◌≡◌, ℕ, ◌+◌, ◌-◌, ◌*◌, ◌/◌, ◌%◌, ◌^◌, ◌<◌, ◌≤◌, sym, ap, arith, ◌∙◌}
use Rattle.std.proofs.Math.Nat.{mul-le-mul_right, mul-mod_left, mod-add-div', mul_assoc}
use Rattle.mem_core.specs.declared.objects.Placed.{Placed}
use Rattle.mem_core.specs.Plans.{ArePlacedFrom, LieInRegion, object_at, room_of}
use Rattle.mem_core.proofs.Places.{whole_sizes}

pub lie-apart : (base bits start b count : ℕ) (placed : Placed) → 0 < count → count ≤ room_of bits start b →
    ArePlacedFrom base bits start b count placed → LieInRegion base bits start b count placed
lie-apart base bits start b count placed some room is =
    let next : (i : ℕ) → (i + 1) * 2 ^ b ≡ i * 2 ^ b + 2 ^ b = λ i. grind arith in
    let at : (i : ℕ) → object_at placed i ≡ placed.first + i * 2 ^ b = λ i. ap (λ k. placed.first + i * k) is.step in
    record {
      apart = λ i j before.
          let more : (i + 1) * 2 ^ b ≤ j * 2 ^ b = mul-le-mul_right (2 ^ b) (omega arith) in
          omega (arith, at i, at j, next i);
      aligned = λ whole i.
          let sizes = whole_sizes bits b start count some room in
          let quotient : base / 2 ^ bits * 2 ^ bits ≡ base = (let e = mod-add-div' base (2 ^ bits) in omega (arith, whole)) in
          let base' : base ≡ base / 2 ^ bits * 2 ^ (bits - b) * 2 ^ b =
          sym quotient ∙ ap (λ k. base / 2 ^ bits * k) sizes ∙ sym (mul_assoc (base / 2 ^ bits) (2 ^ (bits - b)) (2 ^ b)) in
          let k = is.first.whole.0 in
          let first' : placed.first ≡ base + k * 2 ^ b = omega (arith, is.first.whole.1, is.above_base) in
          let sum : object_at placed i ≡ (base / 2 ^ bits * 2 ^ (bits - b) + k + i) * 2 ^ b =
          at i ∙ (let d : (base / 2 ^ bits * 2 ^ (bits - b) + k + i) * 2 ^ b ≡ base / 2 ^ bits * 2 ^ (bits - b) * 2 ^ b + k * 2 ^ b + i * 2 ^ b = grind arith in
          omega (arith, first', base')) in
          ap (λ n. n % 2 ^ b) sum ∙ mul-mod_left (base / 2 ^ bits * 2 ^ (bits - b) + k + i) (2 ^ b);
      unused = λ i. omega (arith, at i, is.first.above, is.above_base);
      used = λ i below.
          let more : (i + 1) * 2 ^ b ≤ count * 2 ^ b = mul-le-mul_right (2 ^ b) (omega arith) in
          omega (arith, at i, next i, is.free, is.above_base);
      within = omega (arith, is.within);
    }
