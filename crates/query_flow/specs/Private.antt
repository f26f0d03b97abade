-- These serve the proofs of private functions, no public contract cites them.
use Rattle.std.specs.Prelude.{ℕ, Bool, true, false, ◌==◌, ◌||◌, ◌&&◌, List, Option, Some, None, unwrap_or, slice_get, nat_eq}
use Rattle.std.specs.List.{position}
use Rattle.std.specs.Cmp.Lexicographic.{pointwise}
use Rattle.cap_core.specs.declared.profile.ProfileName.{ProfileName}
use Rattle.query_parts.specs.declared.listed.PartMemory.{PartMemory}
use Rattle.query_parts.specs.Listed.{last_in}
use Rattle.query_flow.specs.declared.listed.Standing.{Standing}
use Rattle.query_flow.specs.declared.listed.Standing.TheVariants as standing
use Rattle.query_flow.specs.declared.listed.MayStand.{MayStand}
use Rattle.query_flow.specs.declared.listed.Caller.{Caller}
use Rattle.query_flow.specs.declared.listed.Verdict.{Verdict}
use Rattle.query_flow.specs.Listed.{is_among, set_at, lie_where, lead_to, are_put, are_made, roots_set, caller_goes_on}

-- a caller fills no sets but those that it is said to, and what it puts anywhere is listed
abbrev pub puts_told : ProfileName → List PartMemory → List MayStand → Caller → Bool
puts_told p memory all k =
    lead_to p memory all k.nodes.items k.fills.items
    && (lead_to p memory all k.fills.items k.fills.items
    && (are_put all k && (are_made all k && roots_set memory all k)))

-- what the tests say of a caller by only what it names and fills
abbrev pub verdict_on : ProfileName → List PartMemory → List MayStand → Caller → Verdict
verdict_on p memory all k = record { goes_on = caller_goes_on p memory all k; puts_told = puts_told p memory all k }

-- another caller names and fills the same sets
abbrev pub is_alike : Caller → Caller → Bool
is_alike one other =
    pointwise nat_eq one.names.items other.names.items
    && (pointwise nat_eq one.nodes.items other.nodes.items && pointwise nat_eq one.fills.items other.fills.items)

abbrev pub known_at : List Bool → Option ℕ → Bool
known_at settled None = false
known_at settled (Some place) = unwrap_or (slice_get settled place) false

-- the caller of a set is settled, by what is known of each caller
abbrev pub is_known_settled : List Caller → List Bool → ℕ → Bool
is_known_settled callers settled set = known_at settled (position (λ (k : Caller). k.set == set) callers)

-- each thread that may stand somewhere is trusted, or its set is settled by what is known
abbrev pub are_threads_settled : List PartMemory → List Caller → List Bool → List ℕ → Standing → Bool
are_threads_settled memory callers settled trusted (standing.Thread base) =
    is_among trusted base || is_known_settled callers settled (set_at memory base)
are_threads_settled memory callers settled trusted (standing.Region base bits) =
    lie_where (is_known_settled callers settled) memory base (last_in base bits)
are_threads_settled memory callers settled trusted what = true
