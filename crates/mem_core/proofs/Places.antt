-- Rounding up to a multiple of a size, at any size.
use Rattle.std.proofs.Common.{◌≡◌, ℕ, ◌+◌, ◌-◌, ◌*◌, ◌/◌, ◌^◌, ◌<◌, ◌≤◌, refl, sym, inl, inr, arith, ◌∙◌, ap}
use Rattle.std.proofs.Math.Nat.{lt-div-mul-add, mul-le-mul_right, le_of_mul-le-mul_right, add-mul, div-mul-le_self}
use Rattle.std.proofs.lemmas.Nat.{div_below, pow-add, pow_pos, pow_below}
use Rattle.std.proofs.lemmas.Bool.{cases_lt}
use Rattle.mem_core.specs.Plans.{IsLeastMultiple, ArePlacedFrom}

-- the multiple that the code computes
abbrev pub rounded : ℕ → ℕ → ℕ
rounded size start = (start + (size - 1)) / size * size

pub rounded-is : (size start : ℕ) → 0 < size → IsLeastMultiple size start (rounded size start)
rounded-is size start pos = record {
  whole = ((start + (size - 1)) / size, refl);
  above = let h : start + (size - 1) < rounded size start + size = lt-div-mul-add pos in omega arith;
  least = λ m h.
      let e : start + (size - 1) < (m + 1) * size = (let d : (m + 1) * size ≡ m * size + size = grind arith in omega arith) in
      let q : (start + (size - 1)) / size < m + 1 = div_below _ size (m + 1) pos e in
      let r : (start + (size - 1)) / size ≤ m = omega arith in
      mul-le-mul_right size r;
}

-- objects that fit behind the start still fit behind the rounded start, in a region of whole sizes
pub rounded_fits : (size start count many : ℕ) → 0 < size → count ≤ (many * size - start) / size → 0 < count →
    rounded size start + count * size ≤ many * size
rounded_fits size start count many pos room some =
    let below : count * size ≤ (many * size - start) / size * size = mul-le-mul_right size room in
    let quotient : (many * size - start) / size * size ≤ many * size - start = div-mul-le_self (many * size - start) size in
    let one : 1 * size ≤ count * size = mul-le-mul_right size some in
    let enough : start + count * size ≤ many * size = omega arith in
    let fewer : count ≤ many = le_of_mul-le-mul_right {k = size} (let k : count * size ≤ many * size = omega arith in k) pos in
    let sum : many ≡ (many - count) + count = omega arith in
    let split : many * size ≡ (many - count) * size + count * size = ap (λ k. k * size) sum ∙ add-mul (many - count) count size in
    let least : rounded size start ≤ (many - count) * size = (rounded-is size start pos).least (many - count) (omega arith) in
    omega arith

-- a region of 2 ^ bits holds whole sizes of 2 ^ b, where one of them fits
pub whole_sizes : (bits b start count : ℕ) → 0 < count → count ≤ (2 ^ bits - start) / 2 ^ b → 2 ^ bits ≡ 2 ^ (bits - b) * 2 ^ b
whole_sizes bits b start count some room =
    elim (cases_lt bits b) [
      | inl low ↦
          let small : 2 ^ bits < 2 ^ b = pow_below bits b low in
          let none : (2 ^ bits - start) / 2 ^ b < 1 = div_below _ (2 ^ b) 1 (pow_pos b) (let d : 1 * 2 ^ b ≡ 2 ^ b = grind arith in omega arith) in
          absurd (omega arith)
      | inr high ↦
          let e : bits ≡ (bits - b) + b = omega arith in
          ap (λ k. 2 ^ k) e ∙ pow-add 2 (bits - b) b
    ]

pub rounded_within : (bits b start count : ℕ) → 0 < count → count ≤ (2 ^ bits - start) / 2 ^ b →
    rounded (2 ^ b) start + count * 2 ^ b ≤ 2 ^ bits
rounded_within bits b start count some room =
    let e = whole_sizes bits b start count some room in
    let room' : count ≤ (2 ^ (bits - b) * 2 ^ b - start) / 2 ^ b = rw (← e) room in
    rw e (rounded_fits (2 ^ b) start count (2 ^ (bits - b)) (pow_pos b) room' some)

-- what the code computes is the plan
pub placed-is : (base bits b start count : ℕ) → 0 < count → count ≤ (2 ^ bits - start) / 2 ^ b →
    ArePlacedFrom base bits start b count
    (record { first = base + rounded (2 ^ b) start; step = 2 ^ b; free = rounded (2 ^ b) start + count * 2 ^ b })
placed-is base bits b start count some room =
    let back : base + rounded (2 ^ b) start - base ≡ rounded (2 ^ b) start = omega arith in
    record {
      first = rw back (rounded-is (2 ^ b) start (pow_pos b));
      above_base = omega arith;
      step = refl;
      free = ap (λ k. k + count * 2 ^ b) (sym back);
      within = rounded_within bits b start count some room;
    }
