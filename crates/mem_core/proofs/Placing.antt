-- Where a retype places its objects: what the code computes is the place, and there they lie apart.
use Rattle.std.proofs.Common.{◌≡◌, ℕ, ◌+◌, ◌-◌, ◌*◌, ◌/◌, ◌^◌, ◌<◌, ◌≤◌, Bool, true, false, cond, nat_le, Ok, Err, refl, sym, ap, subst, ◌∙◌, arith}
use Rattle.std.proofs.lemmas.Nat.{pow_pos}
use Rattle.std.proofs.lemmas.Bool.{le-leb, leb-true}
use Rattle.cap_core.specs.declared.capability.Cap.{Cap}
use Rattle.cap_core.specs.declared.capability.Cap.TheVariants.{Null, Untyped, Endpoint, CNode, Tcb}
use Rattle.cap_core.specs.declared.refusal.Refusal.TheVariants.{NotEnoughMemory}
use Rattle.mem_core.specs.declared.objects.Placed.{Placed}
use Rattle.mem_core.specs.Plans.{ArePlacedFrom, LieInUntyped, start_of, room_of, least_multiple, placed_from, placed_in}
use Rattle.mem_core.proofs.Places.{rounded, placed-is}
use Rattle.mem_core.proofs.Apart.{lie-apart}

rounded_least : (size start : ℕ) → 0 < size → rounded size start ≡ least_multiple size start
rounded_least size start pos =
    let e : start + (size - 1) ≡ start + size - 1 = omega arith in
    ap (λ n. n / size * size) e

-- the place of `count` objects of 2^b bytes, given where the first one stands
made : ℕ → ℕ → ℕ → ℕ → Placed
made base b count first = record { first = base + first; step = 2 ^ b; free = first + count * 2 ^ b }

pub placed_from-room : (base bits start b count : ℕ) → count ≤ room_of bits start b →
    placed_from base bits start b count
    ≡ Ok (record { first = base + rounded (2 ^ b) start; step = 2 ^ b; free = rounded (2 ^ b) start + count * 2 ^ b })
unfolding made
placed_from-room base bits start b count room =
    let fits : nat_le count (room_of bits start b) ≡ true = le-leb count (room_of bits start b) room in
    ap (λ t. cond t (Ok (made base b count (least_multiple (2 ^ b) start))) (Err NotEnoughMemory)) fits
    ∙ ap (λ n. Ok (made base b count n)) (sym (rounded_least (2 ^ b) start (pow_pos b)))

where_fits : (t : Bool) (a b : Placed) → cond t (Ok a) (Err NotEnoughMemory) ≡ Ok b → (t ≡ true) × (a ≡ b)
where_fits true a b h =
    let same : a ≡ b = cc in
    (refl, same)
where_fits false a b h = cc

-- objects that are placed lie apart in the untyped region
pub placed_lie : (has_children : Bool) (b count : ℕ) (untyped : Cap) (placed : Placed) → 1 ≤ count →
    placed_in has_children b count untyped ≡ Ok placed → LieInUntyped untyped has_children b count placed
unfolding made
placed_lie h b count Null placed some e = cc
placed_lie h b count (Untyped base bits free) placed some e =
    let start = start_of h free in
    let fits = where_fits (nat_le count (room_of bits start b)) (made base b count (least_multiple (2 ^ b) start)) placed e in
    let room : count ≤ room_of bits start b = leb-true count (room_of bits start b) fits.0 in
    let is : made base b count (rounded (2 ^ b) start) ≡ placed =
    ap (made base b count) (rounded_least (2 ^ b) start (pow_pos b)) ∙ fits.1 in
    lie-apart base bits start b count placed some room
    (subst (ArePlacedFrom base bits start b count) is (placed-is base bits b start count some room))
placed_lie h b count (Endpoint base badge rights) placed some e = cc
placed_lie h b count (CNode base radix guard) placed some e = cc
placed_lie h b count (Tcb base) placed some e = cc
