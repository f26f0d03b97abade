-- These serve the proofs of private functions, no public contract cites them.
use Rattle.std.specs.Prelude.{◌≡◌, ℕ, ◌<◌, Bool, true, false, ◌&&◌, nat_le, nat_lt, List, filter, Some, slice_get}
use Rattle.std.specs.List.{list_all}
use Rattle.cap_core.specs.declared.capability.Cap.{Cap}
use Rattle.cap_core.specs.declared.capability.Cap.TheVariants.{Null, Untyped, Endpoint, CNode, Tcb}
use Rattle.query_revoke.specs.declared.keyed.Keyed.{Keyed}
use Rattle.query_revoke.specs.Keyed.{is_keyed_by}
use Rattle.query_revoke.specs.Objects.{object_number}

-- a place lies from one on, and in front of another one
abbrev pub lies_within : ℕ → ℕ → Keyed → Bool
lies_within start end k = nat_le start k.place && nat_lt k.place end

-- the places rise
abbrev pub AreAscending : List Keyed → Type 0
AreAscending list = (i j : ℕ) (a b : Keyed) → i < j → slice_get list i ≡ Some a → slice_get list j ≡ Some b → a.place < b.place

-- all capabilities of an object lie there
abbrev pub is_within_alone : List Keyed → ℕ → ℕ → Cap → Bool
is_within_alone objects start end cap = list_all (lies_within start end) (filter (is_keyed_by (object_number cap)) objects)

abbrev pub is_node_or_thread : Cap → Bool
is_node_or_thread Null = false
is_node_or_thread (Untyped base bits free) = false
is_node_or_thread (Endpoint base badge rights) = false
is_node_or_thread (CNode base radix guard) = true
is_node_or_thread (Tcb base) = true

abbrev pub ends_slots : List Keyed → ℕ → ℕ → Cap → Bool
ends_slots objects start end cap = is_node_or_thread cap && is_within_alone objects start end cap
