-- How many orders and states there are.
use Rattle.std.specs.Prelude.{ℕ, zero, suc, ◌+◌, ◌-◌, ◌^◌, min, List, [], ◌∷◌, length, count_by}
use Rattle.std.specs.List.{flat_map}
use Rattle.cap_core.specs.declared.profile.ProfileName.{ProfileName}
use Rattle.kernel_abstract.specs.declared.call.Call.{Call}
use Rattle.kernel_lists.specs.Firsts.{with_counts, each_times}
use Rattle.query_orders.specs.World.{World, world_after}
use Rattle.query_orders.specs.Orders.{longer, is_end}
use Rattle.query_orders.specs.Nodes.{lead_alike, layer}

-- a count that goes up to 2^64 - 1
abbrev pub saturated : ℕ → ℕ
saturated n = min n (2 ^ 64 - 1)

-- such a count, and numbers that are added to it one by one
abbrev pub saturated_sum : ℕ → List ℕ → ℕ
saturated_sum count [] = count
saturated_sum count (n ∷ ns) = saturated_sum (saturated (count + n)) ns

-- of the orders that begin in one way and have so many calls more, the first to each state, with how many lead there
abbrev pub counted : ProfileName → List (List Call) → World → List ℕ → ℕ → List (List ℕ × ℕ)
counted p own w first zero = (first, 1) ∷ []
counted p own w first (suc n) =
    with_counts (lead_alike p own w) [] (flat_map (λ (e : List ℕ × ℕ). each_times e.1 (longer p own w e.0)) (counted p own w first n))

-- how many states these orders lead to that have fewer calls more than so many, with those that the first calls lead through
abbrev pub states_before : ProfileName → List (List Call) → World → List ℕ → ℕ → ℕ
states_before p own w first zero = length first
states_before p own w first (suc n) = states_before p own w first n + length (layer p own w first n)

-- how many of these states are ends
abbrev pub ends_before : ProfileName → List (List Call) → World → List ℕ → ℕ → ℕ
ends_before p own w first zero = 0
ends_before p own w first (suc n) = ends_before p own w first n + count_by (λ order. is_end own (world_after p own w order)) (layer p own w first n)
