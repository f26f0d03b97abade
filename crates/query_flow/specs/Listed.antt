-- Flows as lists, and the tests that one is settled, and that it says what the slots of a kernel hold.
use Rattle.std.specs.Prelude.{◌≡◌, ℕ, ◌+◌, Bool, true, false, not, ◌==◌, ◌&&◌, ◌||◌, nat_le, nat_lt, List, find, Option, Some, None, unwrap_or, bit_and}
use Rattle.std.specs.List.{list_any, list_all}
use Rattle.cap_core.specs.declared.profile.ProfileName.{ProfileName}
use Rattle.cap_core.specs.declared.capability.Badge.{Badge}
use Rattle.cap_core.specs.declared.capability.Cap.{Cap}
use Rattle.cap_core.specs.declared.capability.Cap.TheVariants.{Untyped, Endpoint, CNode, Tcb}
use Rattle.cap_core.specs.declared.rights.Rights.{Rights}
use Rattle.cap_core.specs.Numbers.{word_bits, slot_bits}
use Rattle.cap_core.specs.Objects.{is_null, base_of, bits_of}
use Rattle.kernel_forest.specs.Forest.{Forest, preorder}
use Rattle.kernel_forest.specs.Entries.{Entry}
use Rattle.kernel_abstract.specs.Shown.{Shown}
use Rattle.query_parts.specs.declared.listed.PartMemory.{PartMemory}
use Rattle.query_parts.specs.Listed.{part_at, last_in}
use Rattle.query_flow.specs.declared.listed.Standing.{Standing}
use Rattle.query_flow.specs.declared.listed.Standing.TheVariants as standing
use Rattle.query_flow.specs.declared.listed.MayStand.{MayStand}
use Rattle.query_flow.specs.declared.listed.Caller.{Caller}
use Rattle.query_flow.specs.declared.listed.Flows.{Flows}
use Rattle.query_flow.specs.Flow.{Flow}

-- ---- the flow that lists give

abbrev pub is_among : List ℕ → ℕ → Bool
is_among numbers n = list_any (λ k. k == n) numbers

-- the set in which an address lies: that of the first stretch that has it, or set 0
abbrev pub set_at : List PartMemory → ℕ → ℕ
set_at memory address = unwrap_or (part_at memory address) 0

abbrev pub fits_badge : Badge → Badge → Bool
fits_badge most badge = most.0 == badge.0 || most.0 == 0

-- the bits that a CNode takes, or any if none are listed
abbrev pub fits_bits : ℕ → ℕ → Bool
fits_bits most takes = most == takes || most == 0

abbrev pub has_rights : Rights → Rights → Bool
has_rights most few = bit_and few.0 most.0 == few.0

-- the last address of one range is no more than that of another
abbrev pub last_le : Option ℕ → Option ℕ → Bool
last_le (Some a) (Some b) = nat_le a b
last_le _ _ = false

-- 2^few addresses from one on lie in the 2^bits from another on
abbrev pub within : ℕ → ℕ → ℕ → ℕ → Bool
within base bits other few = nat_le base other && last_le (last_in other few) (last_in base bits)

-- what stands for a capability: an untyped region for its own, a region for all that lies in it, an endpoint with a badge that fits and no more rights, a CNode with
-- any guard, or with one by which it takes so many bits, and a thread
abbrev pub stands_for_cap : ProfileName → Standing → Cap → Bool
stands_for_cap p (standing.Untyped base bits) (Untyped other few free) = base == other && bits == few
stands_for_cap p (standing.Region base bits) cap = within base bits (base_of cap) (bits_of p cap)
stands_for_cap p (standing.Endpoint base most rights) (Endpoint other badge few) = base == other && (fits_badge most badge && has_rights rights few)
stands_for_cap p (standing.Node base radix takes) (CNode other bits guard) = base == other && (radix == bits && fits_bits takes (guard.size + bits))
stands_for_cap p (standing.Thread base) (Tcb other) = base == other
stands_for_cap p what cap = false

abbrev pub may_in : ProfileName → ℕ → Cap → MayStand → Bool
may_in p set cap s = s.set == set && stands_for_cap p s.what cap

abbrev pub may_stand : ProfileName → List MayStand → ℕ → Cap → Bool
may_stand p all set cap = is_null cap || list_any (may_in p set cap) all

abbrev pub caller_of : List Caller → ℕ → Option Caller
caller_of callers set = find (λ (k : Caller). k.set == set) callers

abbrev pub caller_names : Option Caller → ℕ → Bool
caller_names None set = false
caller_names (Some k) set = is_among k.names.items set

abbrev pub caller_nodes : Option Caller → ℕ → Bool
caller_nodes None set = false
caller_nodes (Some k) set = is_among k.nodes.items set

abbrev pub caller_fills : Option Caller → ℕ → Bool
caller_fills None set = false
caller_fills (Some k) set = is_among k.fills.items set

abbrev pub flow_listed : ProfileName → List PartMemory → List MayStand → List Caller → List ℕ → Flow
flow_listed p memory all callers trusted = record {
  set_of = set_at memory;
  may = may_stand p all;
  trusted = is_among trusted;
  names = λ c. caller_names (caller_of callers c);
  nodes = λ c. caller_nodes (caller_of callers c);
  fills = λ c. caller_fills (caller_of callers c);
}

-- the flow that the lists of flows give
abbrev pub flow_of_lists : ProfileName → Flows → Flow
flow_of_lists p flows = flow_listed p flows.memory.items flows.standing.items flows.callers.items flows.trusted.items

-- ---- the test that it is settled

-- a stretch has none of these addresses; it has all of them
abbrev pub misses_range : ℕ → ℕ → PartMemory → Bool
misses_range first last m = nat_lt m.last first || nat_lt last m.first

abbrev pub has_range : ℕ → ℕ → PartMemory → Bool
has_range first last m = nat_le m.first first && nat_le last m.last

-- all these addresses lie in sets that pass a test
abbrev pub lie_where : (ℕ → Bool) → List PartMemory → ℕ → Option ℕ → Bool
lie_where test memory first None = false
lie_where test memory first (Some last) =
    list_all (λ (m : PartMemory). misses_range first last m || test m.part) memory && list_any (has_range first last) memory

-- the slots of what a standing stands for
abbrev pub slots_lie : ProfileName → List PartMemory → List ℕ → Standing → Bool
slots_lie p memory sets (standing.Region base bits) = lie_where (is_among sets) memory base (last_in base bits)
slots_lie p memory sets (standing.Node base radix takes) = lie_where (is_among sets) memory base (last_in base (slot_bits p + radix))
slots_lie p memory sets what = true

-- what stands in some sets has its slots in others
abbrev pub lead_to : ProfileName → List PartMemory → List MayStand → List ℕ → List ℕ → Bool
lead_to p memory all from to = list_all (λ (s : MayStand). not (is_among from s.set) || slots_lie p memory to s.what) all

-- a CNode by which words end
abbrev pub is_ending : ProfileName → Standing → Bool
is_ending p (standing.Region base bits) = false
is_ending p (standing.Node base radix takes) = takes == word_bits p
is_ending p what = true

abbrev pub are_ending : ProfileName → List MayStand → ℕ → Bool
are_ending p all set = list_all (λ (s : MayStand). not (s.set == set) || is_ending p s.what) all

-- a CNode by which words may end
abbrev pub may_end : ProfileName → Standing → Bool
may_end p (standing.Region base bits) = true
may_end p (standing.Node base radix takes) = fits_bits takes (word_bits p)
may_end p what = false

-- what a copy may make of it: a CNode's guard is set anew
abbrev pub opened : Standing → Standing
opened (standing.Node base radix takes) = standing.Node base radix 0
opened what = what

-- it stands for all that another stands for
abbrev pub is_over : Standing → Standing → Bool
is_over (standing.Untyped base bits) (standing.Untyped other few) = base == other && bits == few
is_over (standing.Region base bits) (standing.Untyped other few) = within base bits other few
is_over (standing.Region base bits) (standing.Region other few) = within base bits other few
is_over (standing.Endpoint base most rights) (standing.Endpoint other badge few) = base == other && (fits_badge most badge && has_rights rights few)
is_over (standing.Node base radix takes) (standing.Node other bits some) = base == other && (radix == bits && fits_bits takes some)
is_over (standing.Thread base) (standing.Thread other) = base == other
is_over what other = false

abbrev pub stands_over : ℕ → Standing → MayStand → Bool
stands_over set what t = t.set == set && is_over t.what what

abbrev pub has_over : List MayStand → ℕ → Standing → Bool
has_over all set what = list_any (stands_over set what) all

-- each of some sets has it
abbrev pub all_have : List MayStand → List ℕ → Standing → Bool
all_have all sets what = list_all (λ set. has_over all set what) sets

-- all that may be made of it
abbrev pub made_of : Standing → Option Standing
made_of (standing.Untyped base bits) = Some (standing.Region base bits)
made_of (standing.Region base bits) = Some (standing.Region base bits)
made_of what = None

abbrev pub makes_what_may_stand : List MayStand → List ℕ → Option Standing → Bool
makes_what_may_stand all sets None = true
makes_what_may_stand all sets (Some what) = all_have all sets what

abbrev pub may_have_slots : Standing → Bool
may_have_slots (standing.Region base bits) = true
may_have_slots (standing.Node base radix takes) = true
may_have_slots what = false

-- what stands in the sets that are filled stands in each of them, and so do the regions in the sets that are named
abbrev pub are_put : List MayStand → Caller → Bool
are_put all k = list_all (λ (s : MayStand). not (is_among k.fills.items s.set) || all_have all k.fills.items (opened s.what)) all

abbrev pub are_made : List MayStand → Caller → Bool
are_made all k = list_all (λ (s : MayStand). not (is_among k.names.items s.set) || makes_what_may_stand all k.fills.items (made_of s.what)) all

-- each CNode whose capability words may lead to may be a root in a set
abbrev pub roots_stand : List MayStand → Caller → ℕ → Bool
roots_stand all k set =
    list_all (λ (s : MayStand). not (is_among k.nodes.items s.set && may_have_slots s.what) || has_over all set (opened s.what)) all

-- and is one of each thread that stands there
abbrev pub threads_get : List PartMemory → List MayStand → Caller → Standing → Bool
threads_get memory all k (standing.Thread base) = roots_stand all k (set_at memory base)
threads_get memory all k (standing.Region base bits) = lie_where (roots_stand all k) memory base (last_in base bits)
threads_get memory all k what = true

abbrev pub roots_set : List PartMemory → List MayStand → Caller → Bool
roots_set memory all k = list_all (λ (s : MayStand). not (is_among k.names.items s.set) || threads_get memory all k s.what) all

-- words go on from what stands in the sets in which they end
abbrev pub caller_goes_on : ProfileName → List PartMemory → List MayStand → Caller → Bool
caller_goes_on p memory all k = lead_to p memory all k.names.items k.names.items && lead_to p memory all k.names.items k.nodes.items

abbrev pub is_caller_settled : ProfileName → List PartMemory → List MayStand → Caller → Bool
is_caller_settled p memory all k =
    list_all (λ (s : MayStand). not (s.set == k.set) || slots_lie p memory k.names.items s.what) all
    && (list_all (λ (s : MayStand). not (s.set == k.set && may_end p s.what) || slots_lie p memory k.nodes.items s.what) all
    && ((are_ending p all k.set || caller_goes_on p memory all k)
    && (lead_to p memory all k.nodes.items k.fills.items
    && (lead_to p memory all k.fills.items k.fills.items
    && (are_put all k && (are_made all k && roots_set memory all k))))))

abbrev pub is_set_settled : ProfileName → List PartMemory → List MayStand → Option Caller → Bool
is_set_settled p memory all None = false
is_set_settled p memory all (Some k) = is_caller_settled p memory all k

-- each thread that may stand somewhere is trusted, or its set is settled
abbrev pub are_threads_settled : ProfileName → List PartMemory → List MayStand → List Caller → List ℕ → Standing → Bool
are_threads_settled p memory all callers trusted (standing.Thread base) =
    is_among trusted base || is_set_settled p memory all (caller_of callers (set_at memory base))
are_threads_settled p memory all callers trusted (standing.Region base bits) =
    lie_where (λ set. is_set_settled p memory all (caller_of callers set)) memory base (last_in base bits)
are_threads_settled p memory all callers trusted what = true

abbrev pub is_settled : ProfileName → List PartMemory → List MayStand → List Caller → List ℕ → Bool
is_settled p memory all callers trusted = list_all (λ (s : MayStand). are_threads_settled p memory all callers trusted s.what) all

-- ---- the test that it says what the slots hold

abbrev pub is_entry_told : ProfileName → List PartMemory → List MayStand → Entry → Bool
is_entry_told p memory all e = may_stand p all (set_at memory e.slot) e.cap

abbrev pub are_told : ProfileName → List PartMemory → List MayStand → Forest Entry → Bool
are_told p memory all f = list_all (is_entry_told p memory all) (preorder f)

-- flows that are settled, and say what the slots hold
pub record IsFlow (p : ProfileName) (flows : Flows) (v : Shown) : Type 0 where
  pub settled : is_settled p flows.memory.items flows.standing.items flows.callers.items flows.trusted.items ≡ true
  pub told : are_told p flows.memory.items flows.standing.items v.derivations ≡ true
