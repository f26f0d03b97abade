-- Parts in the order in which they are listed, without what follows from the rest.
use Rattle.std.specs.Prelude.{◌≡◌, ℕ, ◌+◌, Bool, true, false, not, ◌==◌, ◌&&◌, ◌||◌, nat_le, nat_lt, List, length, Option, Some, None, is_some}
use Rattle.std.specs.List.{list_any, list_all, AllAdjacentBelow}
use Rattle.cap_core.specs.declared.profile.ProfileName.{ProfileName}
use Rattle.cap_core.specs.Numbers.{endpoint_bits, tcb_bits}
use Rattle.query_parts.specs.declared.listed.PartMemory.{PartMemory}
use Rattle.query_parts.specs.declared.listed.PartUse.{PartUse}
use Rattle.query_parts.specs.Listed.{part_at, last_in, owns_range, allows}

-- a stretch has an address
abbrev pub is_stretch : PartMemory → Bool
is_stretch m = nat_le m.first m.last

-- a stretch lies behind another, and does not touch it if both are of one part
abbrev pub lies_behind : PartMemory → PartMemory → Bool
lies_behind m n = nat_lt m.last n.first && (not (m.part == n.part) || not (n.first == m.last + 1))

-- a stretch is of the next part, and starts behind where another does
abbrev pub comes_after : PartMemory → PartMemory → Bool
comes_after m n = m.part == n.part + 1 && nat_lt n.first m.first

-- a stretch is of part 1, or starts behind some stretch of the part before
abbrev pub is_numbered : List PartMemory → PartMemory → Bool
is_numbered memory m = m.part == 1 || list_any (comes_after m) memory

-- a use comes before another: by part, then endpoint, badge and rights
abbrev pub comes_before : PartUse → PartUse → Bool
comes_before u w =
    nat_lt u.part w.part
    || (u.part == w.part
    && (nat_lt u.endpoint w.endpoint
    || (u.endpoint == w.endpoint
    && (nat_lt u.badge.0 w.badge.0 || (u.badge.0 == w.badge.0 && nat_lt u.rights.0 w.rights.0)))))

-- a part owns the endpoint at an address
abbrev pub owns_endpoint : ProfileName → List PartMemory → ℕ → ℕ → Bool
owns_endpoint p memory part endpoint = owns_range memory part (record { first = endpoint; bits = endpoint_bits p })

-- a use allows all that another does
abbrev pub covers : PartUse → PartUse → Bool
covers w u = allows u.part u.endpoint u.badge u.rights w

abbrev pub says_more : PartUse → PartUse → Bool
says_more u w = covers w u && not (covers u w)

-- a use is of an endpoint that the part does not own, and no other use says more
abbrev pub is_needed : ProfileName → List PartMemory → List PartUse → PartUse → Bool
is_needed p memory uses u = not (owns_endpoint p memory u.part u.endpoint) && not (list_any (says_more u) uses)

-- the stretches of memory and the uses of parts are sorted, and none is there twice
pub record AreInOrder (p : ProfileName) (memory : List PartMemory) (uses : List PartUse) : Type 0 where
  -- the stretches rise and lie apart, and those of one part do not touch
  pub stretches : list_all is_stretch memory ≡ true
  pub rising : AllAdjacentBelow (λ m n. lies_behind m n ≡ true) memory (length memory)
  -- parts have the numbers from 1 on, by their first addresses
  pub numbered : list_all (is_numbered memory) memory ≡ true
  -- the uses rise, and each is needed
  pub uses_rising : AllAdjacentBelow (λ u w. comes_before u w ≡ true) uses (length uses)
  pub needed : list_all (is_needed p memory uses) uses ≡ true

-- the whole control block of a thread is memory of the part in which its first address lies
abbrev pub owns_block : ProfileName → List PartMemory → ℕ → Option ℕ → Bool
owns_block p memory thread None = false
owns_block p memory thread (Some part) = owns_range memory part (record { first = thread; bits = tcb_bits p })

abbrev pub has_block : ProfileName → List PartMemory → ℕ → Bool
has_block p memory thread = owns_block p memory thread (part_at memory thread)

-- the whole control block of each of these threads lies in a part
abbrev pub AreInParts : ProfileName → List PartMemory → List ℕ → Type 0
AreInParts p memory threads = list_all (has_block p memory) threads ≡ true

-- each address of a thread's control block is a word
abbrev pub is_addressed : ProfileName → ℕ → Bool
is_addressed p thread = is_some (last_in thread (tcb_bits p))
