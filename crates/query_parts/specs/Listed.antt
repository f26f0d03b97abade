-- Parts as lists: stretches of memory, and endpoints that may be used; and the test of what stands in the slots of each part.
use Rattle.std.specs.Prelude.{ℕ, ◌+◌, ◌-◌, ◌^◌, Bool, true, false, cond, ◌==◌, ◌&&◌, ◌||◌, nat_le, nat_lt, List, map, filter, find, Option, Some, None, option_map, bit_and}
use Rattle.std.specs.List.{list_any, list_all}
use Rattle.cap_core.specs.declared.profile.ProfileName.{ProfileName}
use Rattle.cap_core.specs.declared.capability.Badge.{Badge}
use Rattle.cap_core.specs.declared.capability.Cap.{Cap}
use Rattle.cap_core.specs.declared.capability.Cap.TheVariants.{Endpoint}
use Rattle.cap_core.specs.declared.rights.Rights.{Rights}
use Rattle.cap_core.specs.declared.object.Range.{Range}
use Rattle.cap_core.specs.Ranges.{range_named}
use Rattle.kernel_forest.specs.Forest.{Forest, preorder}
use Rattle.kernel_forest.specs.Entries.{Entry}
use Rattle.query_parts.specs.declared.listed.PartMemory.{PartMemory}
use Rattle.query_parts.specs.declared.listed.PartUse.{PartUse}
use Rattle.query_parts.specs.Parts.{Use, Parts}

-- an address lies in a stretch of memory
abbrev pub lies_in : PartMemory → ℕ → Bool
lies_in m address = nat_le m.first address && nat_le address m.last

-- the part of the first stretch that has an address
abbrev pub part_at : List PartMemory → ℕ → Option ℕ
part_at memory address = option_map (λ (m : PartMemory). m.part) (find (λ (m : PartMemory). lies_in m address) memory)

abbrev pub use_of : PartUse → Use
use_of u = record { endpoint = u.endpoint; badge = u.badge; rights = u.rights }

-- the parts that two lists give
abbrev pub parts_listed : List PartMemory → List PartUse → Parts
parts_listed memory uses = record {
  part_of = part_at memory;
  uses = λ i. map use_of (filter (λ (u : PartUse). u.part == i) uses);
}

-- the last address of 2^bits from the first on, if it is a word
abbrev pub last_in : ℕ → ℕ → Option ℕ
last_in first bits =
    cond (nat_lt bits 64 && nat_lt (first + (2 ^ bits - 1)) (2 ^ 64)) (Some (first + (2 ^ bits - 1))) None

-- a stretch is of the part, or has none of these addresses; it is of the part, and has all of them
abbrev pub spares : ℕ → ℕ → ℕ → PartMemory → Bool
spares part first last m = m.part == part || (nat_lt m.last first || nat_lt last m.first)

abbrev pub has_all : ℕ → ℕ → ℕ → PartMemory → Bool
has_all part first last m = m.part == part && (nat_le m.first first && nat_le last m.last)

-- all these addresses are of the part
abbrev pub owns : List PartMemory → ℕ → ℕ → ℕ → Bool
owns memory part first last = list_all (spares part first last) memory && list_any (has_all part first last) memory

abbrev pub owns_to : List PartMemory → ℕ → ℕ → Option ℕ → Bool
owns_to memory part first None = false
owns_to memory part first (Some last) = owns memory part first last

abbrev pub owns_range : List PartMemory → ℕ → Range → Bool
owns_range memory part range = owns_to memory part range.first (last_in range.first range.bits)

-- a use of the part has the endpoint, the badge or any, and all the rights
abbrev pub allows : ℕ → ℕ → Badge → Rights → PartUse → Bool
allows part base badge rights u =
    u.part == part
    && (u.endpoint == base && ((u.badge.0 == badge.0 || u.badge.0 == 0) && bit_and rights.0 u.rights.0 == rights.0))

abbrev pub is_allowed : List PartUse → ℕ → Cap → Bool
is_allowed uses part (Endpoint base badge rights) = list_any (allows part base badge rights) uses
is_allowed uses part _ = false

abbrev pub named_within : List PartMemory → List PartUse → ℕ → Cap → Option Range → Bool
named_within memory uses part cap None = true
named_within memory uses part cap (Some range) = owns_range memory part range || is_allowed uses part cap

-- the capability may stand in the part
abbrev pub is_within : ProfileName → List PartMemory → List PartUse → ℕ → Cap → Bool
is_within p memory uses part cap = named_within memory uses part cap (range_named p cap)

abbrev pub stands_in : ProfileName → List PartMemory → List PartUse → Cap → Option ℕ → Bool
stands_in p memory uses cap None = true
stands_in p memory uses cap (Some part) = is_within p memory uses part cap

-- a full slot lies in no part, or holds what may stand in its part
abbrev pub entry_stands : ProfileName → List PartMemory → List PartUse → Entry → Bool
entry_stands p memory uses e = stands_in p memory uses e.cap (part_at memory e.slot)

-- every part is closed
abbrev pub are_closed_in : ProfileName → List PartMemory → List PartUse → Forest Entry → Bool
are_closed_in p memory uses f = list_all (entry_stands p memory uses) (preorder f)
