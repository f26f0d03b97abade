-- Who owns an endpoint is told by the stretches of memory that have an address of it.
use Rattle.std.proofs.Common.{◌≡◌, ℕ, ◌+◌, ◌-◌, ◌^◌, ◌<◌, ◌≤◌, true, false, cond, ◌==◌, ◌&&◌, nat_lt, List, Some, None, refl, ap₂, arith}
use Rattle.std.proofs.lemmas.Bool.{ltb-false, or_parts, and_from, and_parts, le-leb, lt-ltb, leb-true}
use Rattle.cap_core.specs.declared.profile.ProfileName.{ProfileName}
use Rattle.cap_core.specs.declared.profile.ProfileName.TheVariants.{Wide, Narrow}
use Rattle.cap_core.specs.Numbers.{endpoint_bits}
use Rattle.query_parts.specs.declared.listed.PartMemory.{PartMemory}
use Rattle.query_parts.specs.Listed.{spares, has_all, owns_to}
use Rattle.query_parts.specs.Order.{owns_endpoint}
use Rattle.command_parts.specs.Private.Used.{meets_endpoint, memory_on}
use Rattle.command_parts.proofs.Kept.{any_kept, all_kept}

some_size : (p : ProfileName) → 0 < 2 ^ endpoint_bits p
some_size Wide = omega arith
some_size Narrow = omega arith

meets_from : (p : ProfileName) (first : ℕ) (m : PartMemory) → first ≤ m.last → m.first ≤ first + (2 ^ endpoint_bits p - 1) → meets_endpoint p first m ≡ true
meets_from p first m above below =
    let some : 0 < 2 ^ endpoint_bits p = some_size p in
    and_from _ _ (le-leb first m.last above) (lt-ltb (m.first - first) (2 ^ endpoint_bits p) (omega arith))

module _ (p : ProfileName) (part first : ℕ) where
  not_spared : (m : PartMemory) → spares part first (first + (2 ^ endpoint_bits p - 1)) m ≡ false → meets_endpoint p first m ≡ true
  not_spared m h =
      let apart = or_parts (nat_lt m.last first) (nat_lt (first + (2 ^ endpoint_bits p - 1)) m.first) (or_parts (m.part == part) _ h).1 in
      meets_from p first m (ltb-false m.last first apart.0) (ltb-false (first + (2 ^ endpoint_bits p - 1)) m.first apart.1)

  all_had : (m : PartMemory) → has_all part first (first + (2 ^ endpoint_bits p - 1)) m ≡ true → meets_endpoint p first m ≡ true
  all_had m h =
      let within = and_parts _ _ (and_parts (m.part == part) _ h).1 in
      let low : m.first ≤ first = leb-true m.first first within.0 in
      let high : first + (2 ^ endpoint_bits p - 1) ≤ m.last = leb-true (first + (2 ^ endpoint_bits p - 1)) m.last within.1 in
      meets_from p first m (omega arith) (omega arith)

  pub owned_on : (memory : List PartMemory) → owns_endpoint p (memory_on p memory first) part first ≡ owns_endpoint p memory part first
  owned_on memory =
      elim (nat_lt (endpoint_bits p) 64 && nat_lt (first + (2 ^ endpoint_bits p - 1)) (2 ^ 64))
      as (λ b. owns_to (memory_on p memory first) part first (cond b (Some (first + (2 ^ endpoint_bits p - 1))) None)
      ≡ owns_to memory part first (cond b (Some (first + (2 ^ endpoint_bits p - 1))) None)) [
        | true ↦ ap₂ (λ a b. a && b)
            (all_kept (spares part first (first + (2 ^ endpoint_bits p - 1))) (meets_endpoint p first) not_spared memory)
            (any_kept (has_all part first (first + (2 ^ endpoint_bits p - 1))) (meets_endpoint p first) all_had memory)
        | false ↦ refl
      ]
