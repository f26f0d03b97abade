-- Where the objects of a retype are placed in an untyped region.
use Rattle.std.specs.Prelude.{ℕ, Bool, true, false, ◌≡◌, ◌+◌, ◌-◌, ◌*◌, ◌/◌, ◌%◌, ◌^◌, ◌<◌, ◌≤◌, cond, nat_le, Result, Ok, Err}
use Rattle.cap_core.specs.declared.profile.ProfileName.TheVariants.{Wide}
use Rattle.cap_core.specs.declared.capability.Cap.{Cap}
use Rattle.cap_core.specs.declared.capability.Cap.TheVariants.{Untyped}
use Rattle.cap_core.specs.declared.refusal.Refusal.{Refusal}
use Rattle.cap_core.specs.declared.refusal.Refusal.TheVariants.{NotEnoughMemory}
use Rattle.cap_core.specs.Numbers.{max_object_bits}
use Rattle.mem_core.specs.declared.objects.Placed.{Placed}

-- an untyped region of no more bits than the wide profile's, which has the most, that is used up to its free index
pub record IsRegion (base bits free : ℕ) : Type 0 where
  pub most : bits ≤ max_object_bits Wide
  pub used : free ≤ 2 ^ bits
  pub end : base + 2 ^ bits < 2 ^ 63

-- the capability of an untyped region from which objects can be made
abbrev pub IsRetypable : Cap → Type 0
IsRetypable (Untyped base bits free) = IsRegion base bits free
IsRetypable _ = ⊥

-- how much of a region is used: nothing, if it has no children
abbrev pub start_of : Bool → ℕ → ℕ
start_of true free = free
start_of false free = 0

-- how many objects of 2^b bytes fit into what is not used
abbrev pub room_of : ℕ → ℕ → ℕ → ℕ
room_of bits start b = (2 ^ bits - start) / 2 ^ b

-- the least multiple of a size that is not below an address
abbrev pub least_multiple : ℕ → ℕ → ℕ
least_multiple size address = (address + size - 1) / size * size

-- `count` objects of 2^b bytes stand one after another from the first multiple of their size that is not used
abbrev pub placed_from : ℕ → ℕ → ℕ → ℕ → ℕ → Result Placed Refusal
placed_from base bits start b count =
    let first = least_multiple (2 ^ b) start in
    cond (nat_le count (room_of bits start b))
    (Ok (record { first = base + first; step = 2 ^ b; free = first + count * 2 ^ b }))
    (Err NotEnoughMemory)

-- the place of `count` objects of 2^b bytes in an untyped region. No other capability has room for one
abbrev pub placed_in : Bool → ℕ → ℕ → Cap → Result Placed Refusal
placed_in has_children b count (Untyped base bits free) = placed_from base bits (start_of has_children free) b count
placed_in has_children b count _ = Err NotEnoughMemory

-- What a place promises:

-- f is the least multiple of the size that is not below the start
pub record IsLeastMultiple (size start f : ℕ) : Type 0 where
  pub whole : (k : ℕ) × (f ≡ k * size)
  pub above : start ≤ f
  pub least : (m : ℕ) → start ≤ m * size → f ≤ m * size

-- `count` objects of 2^b bytes stand one after another from the least multiple of their size that is not used, within the
-- region, and it is used up to the end of the last
pub record ArePlacedFrom (base bits start b count : ℕ) (placed : Placed) : Type 0 where
  pub first : IsLeastMultiple (2 ^ b) start (placed.first - base)
  pub above_base : base ≤ placed.first
  pub step : placed.step ≡ 2 ^ b
  pub free : placed.free ≡ placed.first - base + count * 2 ^ b
  pub within : placed.free ≤ 2 ^ bits

-- the objects are placed if there is room for all of them, and otherwise memory is not enough
abbrev pub IsRegionPlan : ℕ → ℕ → ℕ → ℕ → ℕ → Result Placed Refusal → Type 0
IsRegionPlan base bits start b count (Ok placed) = (count ≤ room_of bits start b) × ArePlacedFrom base bits start b count placed
IsRegionPlan base bits start b count (Err refusal) = (room_of bits start b < count) × (refusal ≡ NotEnoughMemory)

-- where a retype puts its objects in an untyped region, or why it is refused
abbrev pub IsRetypePlan : Cap → Bool → ℕ → ℕ → Result Placed Refusal → Type 0
IsRetypePlan (Untyped base bits free) has_children b count result =
    IsRegionPlan base bits (start_of has_children free) b count result
IsRetypePlan _ has_children b count result = ⊥

-- object i of those that are placed
abbrev pub object_at : Placed → ℕ → ℕ
object_at placed i = placed.first + i * placed.step

-- the objects have no address in common, stand at multiples of their size if the region does, and lie between what
-- was used before and what is used now
pub record LieInRegion (base bits start b count : ℕ) (placed : Placed) : Type 0 where
  pub apart : (i j : ℕ) → i < j → object_at placed i + 2 ^ b ≤ object_at placed j
  pub aligned : base % 2 ^ bits ≡ 0 → (i : ℕ) → object_at placed i % 2 ^ b ≡ 0
  pub unused : (i : ℕ) → base + start ≤ object_at placed i
  pub used : (i : ℕ) → i < count → object_at placed i + 2 ^ b ≤ base + placed.free
  pub within : base + placed.free ≤ base + 2 ^ bits

-- new objects lie in an untyped region, above what was used of it
abbrev pub LieInUntyped : Cap → Bool → ℕ → ℕ → Placed → Type 0
LieInUntyped (Untyped base bits free) has_children b count placed =
    LieInRegion base bits (start_of has_children free) b count placed
LieInUntyped _ has_children b count placed = ⊥
