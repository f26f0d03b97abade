-- What a plan computes fits a word, where the objects have a shape and the region is one.
use Rattle.std.proofs.Common.{◌≡◌, ℕ, ◌+◌, ◌-◌, ◌*◌, ◌/◌, ◌%◌, ◌^◌, ◌<◌, ◌≤◌, Bool, true, false, nat_le, Err, Fits, w64, refl, sym, subst, inl, inr, arith}
use Rattle.std.proofs.Math.Pow.{pow-lt}
use Rattle.std.proofs.lemmas.Nat.{one_shl, pow_pos}
use Rattle.std.proofs.lemmas.Bool.{cases_Bool, leb-true}
use Rattle.cap_core.specs.declared.profile.ProfileName.TheVariants.{Wide}
use Rattle.cap_core.specs.declared.capability.Cap.{Cap}
use Rattle.cap_core.specs.declared.capability.Cap.TheVariants.{Null, Untyped, Endpoint, CNode, Tcb}
use Rattle.cap_core.specs.declared.refusal.Refusal.TheVariants.{NotEnoughMemory}
use Rattle.cap_core.specs.Numbers.{max_object_bits}
use Rattle.mem_core.specs.declared.objects.Shape.{Shape}
use Rattle.mem_core.specs.Shapes.{IsShape}
use Rattle.mem_core.specs.Plans.{IsRegion, IsRetypable, IsRetypePlan, start_of, room_of, placed_in}
use Rattle.mem_core.proofs.Places.{rounded, rounded_within}
use Rattle.mem_core.proofs.Lawful.{shape_bits-most}

pub no_region : (cap : Cap) → ((base bits free : ℕ) → cap ≡ Untyped base bits free → ⊥) → IsRetypable cap → ⊥
no_region Null other region = region
no_region (Untyped base bits free) other region = other base bits free refl
no_region (Endpoint base badge rights) other region = region
no_region (CNode base radix guard) other region = region
no_region (Tcb base) other region = region

pub few_bits : (shape : Shape) → IsShape shape → shape.bits < 64
few_bits shape is = let most = shape_bits-most shape is in omega (arith, most)

module _ (cap : Cap) (base bits free : ℕ) (is : cap ≡ Untyped base bits free) (retypable : IsRetypable cap) where
  pub region : IsRegion base bits free
  region = subst IsRetypable is retypable

  pub few_region_bits : bits < 64
  few_region_bits = let most : bits ≤ max_object_bits Wide = region.most in omega arith

  below_half : 2 ^ bits < 2 ^ 63
  below_half = let end : base + 2 ^ bits < 2 ^ 63 = region.end in omega arith

  whole_is : 1 * 2 ^ bits % 2 ^ 64 ≡ 2 ^ bits
  whole_is = one_shl bits 64 few_region_bits

  module _ (has_children : Bool) (start : ℕ) (start_is : start_of has_children free ≡ start) where
    start_most : start ≤ 2 ^ bits
    start_most = subst (λ (n : ℕ). n ≤ 2 ^ bits) start_is (most has_children)
      where
        most : (h : Bool) → start_of h free ≤ 2 ^ bits
        most true = region.used
        most false = omega arith

    pub start_within : start ≤ 1 * 2 ^ bits % 2 ^ 64
    start_within = subst (λ (n : ℕ). start ≤ n) (sym whole_is) start_most

    module _ (shape : Shape) (shaped : IsShape shape) (count : ℕ) where
      size_is : 1 * 2 ^ shape.bits % 2 ^ 64 ≡ 2 ^ shape.bits
      size_is = one_shl shape.bits 64 (few_bits shape shaped)

      size_below : 2 ^ shape.bits < 2 ^ 63
      size_below = pow-lt {i = shape.bits} {j = 63} (let most = shape_bits-most shape shaped in omega (arith, most))

      pub size_some : 0 < 1 * 2 ^ shape.bits % 2 ^ 64
      size_some = subst (λ (n : ℕ). 0 < n) (sym size_is) (pow_pos shape.bits)

      pub end_fits : Fits w64 (start + (1 * 2 ^ shape.bits % 2 ^ 64 - 1))
      end_fits =
          let size : 1 * 2 ^ shape.bits % 2 ^ 64 ≡ 2 ^ shape.bits = size_is in
          let below : 2 ^ shape.bits < 2 ^ 63 = size_below in
          let half : 2 ^ bits < 2 ^ 63 = below_half in
          let most : start ≤ 2 ^ bits = start_most in
          omega arith

      -- where there is no room for all
      module _ (few : (1 * 2 ^ bits % 2 ^ 64 - start) / 2 ^ shape.bits < count) where
        little_room : room_of bits (start_of has_children free) shape.bits < count
        little_room =
            subst (λ (n : ℕ). room_of bits n shape.bits < count) (sym start_is)
            (subst (λ (n : ℕ). (n - start) / 2 ^ shape.bits < count) whole_is few)

        refused : nat_le count (room_of bits (start_of has_children free) shape.bits) ≡ false
        refused = elim (cases_Bool (nat_le count (room_of bits (start_of has_children free) shape.bits))) [
          | inl fits ↦
              let room = leb-true count (room_of bits (start_of has_children free) shape.bits) fits in
              let little : room_of bits (start_of has_children free) shape.bits < count = little_room in
              absurd (omega (arith, room))
          | inr none ↦ none
        ]

        pub no_room : placed_in has_children shape.bits count cap ≡ Err NotEnoughMemory
        no_room = rw (is, refused) refl

        pub no_plan : IsRetypePlan cap has_children shape.bits count (Err NotEnoughMemory)
        no_plan = subst (λ (a : Cap). IsRetypePlan a has_children shape.bits count (Err NotEnoughMemory)) (sym is) (little_room, refl)

      -- where there is
      module _ (some : 1 ≤ count) (room : count ≤ (1 * 2 ^ bits % 2 ^ 64 - start) / 2 ^ shape.bits) where
        within : rounded (2 ^ shape.bits) start + count * 2 ^ shape.bits ≤ 2 ^ bits
        within = rounded_within bits shape.bits start count some (subst (λ (n : ℕ). count ≤ (n - start) / 2 ^ shape.bits) whole_is room)

        at_size : (P : ℕ → Type 0) → P (2 ^ shape.bits) → P (1 * 2 ^ shape.bits % 2 ^ 64)
        at_size P h = subst P (sym size_is) h

        low : (n : ℕ) → n ≤ base + 2 ^ bits → Fits w64 n
        low n h = let end : base + 2 ^ bits < 2 ^ 63 = region.end in omega arith

        pub first_fits : Fits w64 (rounded (1 * 2 ^ shape.bits % 2 ^ 64) start)
        first_fits = at_size (λ (n : ℕ). Fits w64 (rounded n start)) (low (rounded (2 ^ shape.bits) start) (let w = within in omega (arith, w)))

        pub address_fits : Fits w64 (base + rounded (1 * 2 ^ shape.bits % 2 ^ 64) start)
        address_fits = at_size (λ (n : ℕ). Fits w64 (base + rounded n start)) (low (base + rounded (2 ^ shape.bits) start) (let w = within in omega (arith, w)))

        pub all_fit : Fits w64 (count * (1 * 2 ^ shape.bits % 2 ^ 64))
        all_fit = at_size (λ (n : ℕ). Fits w64 (count * n)) (low (count * 2 ^ shape.bits) (let w = within in omega (arith, w)))

        pub free_fits : Fits w64 (rounded (1 * 2 ^ shape.bits % 2 ^ 64) start + count * (1 * 2 ^ shape.bits % 2 ^ 64))
        free_fits = at_size (λ (n : ℕ). Fits w64 (rounded n start + count * n)) (low (rounded (2 ^ shape.bits) start + count * 2 ^ shape.bits) (let w = within in omega (arith, w)))
