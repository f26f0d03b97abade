-- The tests by which a flow excludes that one thread does something to another.
use Rattle.std.specs.Prelude.{◌≡◌, ℕ, Bool, true, false, cond, not, ◌&&◌, ◌||◌, nat_lt, List, [], ◌∷◌, ◌++◌, Option, Some, None, option_map}
use Rattle.std.specs.List.{list_all, filter_map}
use Rattle.cap_core.specs.declared.profile.ProfileName.{ProfileName}
use Rattle.cap_core.specs.declared.capability.Cap.TheVariants.{Tcb}
use Rattle.cap_core.specs.Rights.{write_bit, read_bit}
use Rattle.kernel_abstract.specs.declared.call.ThreadState.{ThreadState}
use Rattle.kernel_abstract.specs.declared.call.ThreadState.TheVariants.{Inactive, Sending, Receiving}
use Rattle.kernel_abstract.specs.Decode.{has_right}
use Rattle.kernel_abstract.specs.Shown.{Shown, state_at}
use Rattle.query_parts.specs.Listed.{last_in}
use Rattle.query_flow.specs.declared.listed.Standing.{Standing}
use Rattle.query_flow.specs.declared.listed.Standing.TheVariants as standing
use Rattle.query_flow.specs.declared.listed.MayStand.{MayStand}
use Rattle.query_flow.specs.declared.listed.Caller.{Caller}
use Rattle.query_flow.specs.declared.listed.Flows.{Flows}
use Rattle.query_flow.specs.declared.excluded.Spot.{Spot}
use Rattle.query_flow.specs.declared.excluded.Bound.{Bound}
use Rattle.query_flow.specs.Listed.{is_among, set_at, stands_for_cap, caller_of, may_have_slots, IsFlow}

-- ---- what a thread names

abbrev pub names_by : Option Caller → List ℕ
names_by None = []
names_by (Some k) = k.names.items

-- the sets in which the thread's words may end
abbrev pub sets_named : Flows → ℕ → List ℕ
sets_named flows thread = names_by (caller_of flows.callers.items (set_at flows.memory.items thread))

abbrev pub nodes_by : Option Caller → List ℕ
nodes_by None = []
nodes_by (Some k) = k.nodes.items

-- the sets in which they may end at a CNode's capability
abbrev pub nodes_in : Flows → ℕ → List ℕ
nodes_in flows thread = nodes_by (caller_of flows.callers.items (set_at flows.memory.items thread))

-- ---- the endpoints that a thread may use with a right, but those that are named: each spot from one address to another

abbrev pub one_at : ℕ → Spot
one_at address = record { first = address; last = address }

abbrev pub from_to : ℕ → ℕ → Spot
from_to first last = record { first = first; last = last }

abbrev pub spot_of : ℕ → List ℕ → Standing → Option Spot
spot_of right by (standing.Endpoint base most rights) = cond (has_right right rights && not (is_among by base)) (Some (one_at base)) None
spot_of right by (standing.Region base bits) = option_map (from_to base) (last_in base bits)
spot_of right by what = None

abbrev pub spot_in : ℕ → List ℕ → List ℕ → MayStand → Option Spot
spot_in right by names s = cond (is_among names s.set) (spot_of right by s.what) None

abbrev pub spot_at : List ℕ → ℕ → Option Spot
spot_at by endpoint = cond (is_among by endpoint) None (Some (one_at endpoint))

-- where it waits already
abbrev pub send_spot : List ℕ → Option ThreadState → Option Spot
send_spot by (Some (Sending endpoint)) = spot_at by endpoint
send_spot by state = None

abbrev pub receive_spot : List ℕ → Option ThreadState → Option Spot
receive_spot by (Some (Receiving endpoint)) = spot_at by endpoint
receive_spot by state = None

abbrev pub and_spot : List Spot → Option Spot → List Spot
and_spot spots None = spots
and_spot spots (Some spot) = spots ++ spot ∷ []

abbrev pub send_spots : List ℕ → List MayStand → Shown → List ℕ → ℕ → List Spot
send_spots names all v by thread = and_spot (filter_map (spot_in write_bit by names) all) (send_spot by (state_at v thread))

abbrev pub receive_spots : List ℕ → List MayStand → Shown → List ℕ → ℕ → List Spot
receive_spots names all v by thread = and_spot (filter_map (spot_in read_bit by names) all) (receive_spot by (state_at v thread))

-- no address lies in two spots
abbrev pub is_spot_apart : Spot → Spot → Bool
is_spot_apart a b = nat_lt a.last b.first || nat_lt b.last a.first

abbrev pub are_spots_apart : List Spot → List Spot → Bool
are_spots_apart some others = list_all (λ a. list_all (is_spot_apart a) others) some

-- ---- neither thread is trusted; and nothing that the one may send to the other may receive on

abbrev pub are_free : List ℕ → ℕ → ℕ → Bool
are_free trusted from to = not (is_among trusted from || is_among trusted to)

abbrev pub are_kept : Flows → Shown → List ℕ → ℕ → ℕ → Bool
are_kept flows v by from to =
    are_spots_apart (send_spots (sets_named flows from) flows.standing.items v by from) (receive_spots (sets_named flows to) flows.standing.items v by to)

-- ---- what stands in the sets that a thread names

abbrev pub names_no_thread : ProfileName → List ℕ → List MayStand → ℕ → Bool
names_no_thread p names all to = list_all (λ (s : MayStand). not (is_among names s.set && stands_for_cap p s.what (Tcb to))) all

abbrev pub names_no_node : List ℕ → List MayStand → Bool
names_no_node nodes all = list_all (λ (s : MayStand). not (is_among nodes s.set && may_have_slots s.what)) all

-- ---- threads that never make a call: suspended, and no word of a thread that makes calls leads to their control blocks

abbrev pub is_inactive : Option ThreadState → Bool
is_inactive (Some Inactive) = true
is_inactive state = false

abbrev pub none_names : ProfileName → Flows → ℕ → Bool
none_names p flows thread = list_all (λ (k : Caller). names_no_thread p k.names.items flows.standing.items thread) flows.callers.items

abbrev pub stays_idle : ProfileName → Flows → Shown → ℕ → Bool
stays_idle p flows v thread = is_inactive (state_at v thread) && none_names p flows thread

abbrev pub stay_idle : ProfileName → Flows → Shown → List ℕ → Bool
stay_idle p flows v idle = list_all (stays_idle p flows v) idle

-- one of both never makes a call; or neither is trusted, and nothing that the one may send to the other may receive on
abbrev pub either_idle : List ℕ → ℕ → ℕ → Bool
either_idle idle from to = is_among idle from || is_among idle to

abbrev pub are_silent : List ℕ → Bound → Shown → List ℕ → ℕ → ℕ → Bool
are_silent trusted bound v by from to =
    either_idle bound.idle.items from to || (are_free trusted from to && are_kept bound.flows v by from to)

-- the flows take no other threads for trusted than these and those that never make a call
abbrev pub is_trusted_or_idle : List ℕ → List ℕ → ℕ → Bool
is_trusted_or_idle trusted idle thread = is_among trusted thread || is_among idle thread

abbrev pub trusts_none_else : List ℕ → Bound → Bool
trusts_none_else trusted bound = list_all (is_trusted_or_idle trusted bound.idle.items) bound.flows.trusted.items

-- flows that pass the tests, with these threads trusted
pub record IsTested (p : ProfileName) (trusted : List ℕ) (v : Shown) (bound : Bound) : Type 0 where
  pub known : trusts_none_else trusted bound ≡ true
  pub idle : stay_idle p bound.flows v bound.idle.items ≡ true
  pub flow : IsFlow p bound.flows v
