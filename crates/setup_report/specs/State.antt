-- What is written about a state: its live threads and endpoints, its full slots, and the CNodes that hold themselves, each kind
-- by rising address.
use Rattle.std.specs.Prelude.{ℕ, ◌-◌, ◌/◌, ◌^◌, nat_le, nat_lt, List, [], ◌∷◌, map, Bool, not, ◌==◌, ◌&&◌, cond, Option, Some, None}
use Rattle.std.specs.List.{filter, filter_map, find, list_any}
use Rattle.std.specs.Ordering.{nat_cmp}
use Rattle.std.specs.BTreeSet.{insert_key}
use Rattle.cap_core.specs.declared.profile.ProfileName.{ProfileName}
use Rattle.cap_core.specs.Numbers.{slot_bits}
use Rattle.cap_core.specs.declared.capability.Cap.{Cap}
use Rattle.cap_core.specs.declared.capability.Cap.TheVariants.{Null, Untyped, Endpoint, CNode, Tcb}
use Rattle.kernel_forest.specs.Entries.{Entry, derivations_of}
use Rattle.kernel_abstract.specs.Shown.{Shown, tcb_base, endpoint_base}
use Rattle.setup_report.specs.declared.live.NamedObject.{NamedObject}

-- ---- addresses

-- a number is in a list
abbrev pub is_in : ℕ → List ℕ → Bool
is_in address list = list_any (λ a. address == a) list

-- each of some addresses once, in rising order
abbrev pub rising : List ℕ → List ℕ
rising [] = []
rising (address ∷ addresses) = insert_key nat_cmp (rising addresses) address

-- ---- the full slots

-- a full slot with the slot that it stands right below
abbrev pub Derived : Type 0
Derived = Entry × Option ℕ

abbrev pub slot_of : Derived → ℕ
slot_of d = d.0.slot

abbrev pub found : List Derived → ℕ → Option Derived
found list slot = find (λ (d : Derived). slot_of d == slot) list

abbrev pub by_address : List Derived → List Derived
by_address list = filter_map (found list) (rising (map slot_of list))

-- ---- the objects that the full slots name, which are those that are live

-- a slot is one of the 2^radix slots of a CNode at a base
abbrev pub is_slot_of : ProfileName → ℕ → ℕ → ℕ → Bool
is_slot_of p base radix slot = nat_le base slot && nat_lt ((slot - base) / 2 ^ slot_bits p) (2 ^ radix)

-- the CNode that a capability names, if its base and its radix pass a test
abbrev pub node_base : (ℕ → ℕ → Bool) → Cap → Option ℕ
node_base test Null = None
node_base test (Untyped base bits free) = None
node_base test (Endpoint base badge rights) = None
node_base test (CNode base radix guard) = cond (test base radix) (Some base) None
node_base test (Tcb base) = None

-- the object that a slot names with its capability: a thread; an endpoint; a CNode to which the slot belongs; or another CNode
abbrev pub base_named : ProfileName → NamedObject → ℕ → Cap → Option ℕ
base_named p NamedObject.Thread slot cap = tcb_base cap
base_named p NamedObject.Endpoint slot cap = endpoint_base cap
base_named p NamedObject.OwnNode slot cap = node_base (λ base radix. is_slot_of p base radix slot) cap
base_named p NamedObject.OtherNode slot cap = node_base (λ base radix. not (is_slot_of p base radix slot)) cap

abbrev pub named_by : ProfileName → NamedObject → Derived → Option ℕ
named_by p naming d = base_named p naming d.0.slot d.0.cap

-- the objects of a sort that full slots name
abbrev pub named : ProfileName → NamedObject → List Derived → List ℕ
named p naming list = filter_map (named_by p naming) list

-- the CNodes that slots of their own name and no other slots
abbrev pub holding_themselves : ProfileName → List Derived → List ℕ
holding_themselves p list = filter (λ base. not (is_in base (named p NamedObject.OtherNode list))) (named p NamedObject.OwnNode list)

-- ---- of a state

-- the live threads of a state, by rising address
abbrev pub threads : ProfileName → Shown → List ℕ
threads p v = rising (named p NamedObject.Thread (derivations_of v.derivations))

-- the live endpoints of a state, by rising address
abbrev pub endpoints : ProfileName → Shown → List ℕ
endpoints p v = rising (named p NamedObject.Endpoint (derivations_of v.derivations))

-- the full slots of a state by rising address, each with the slot right above it
abbrev pub slot_rows : Shown → List Derived
slot_rows v = by_address (derivations_of v.derivations)

-- the CNodes that only their own slots name, by rising address
abbrev pub selfheld : ProfileName → Shown → List ℕ
selfheld p v = rising (holding_themselves p (derivations_of v.derivations))
