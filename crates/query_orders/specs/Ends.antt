-- How orders end.
use Rattle.std.specs.Prelude.{ℕ, zero, suc, ◌+◌, Bool, cond, List, [], ◌∷◌, Option, None, Some, count_by}
use Rattle.std.specs.List.{flat_map}
use Rattle.cap_core.specs.declared.profile.ProfileName.{ProfileName}
use Rattle.kernel_abstract.specs.declared.call.Call.{Call}
use Rattle.kernel_abstract.specs.Shown.{Shown, state_at}
use Rattle.kernel_abstract.specs.State.{shown}
use Rattle.query_orders.specs.declared.left.LeftCall.{LeftCall}
use Rattle.query_orders.specs.World.{World, next_client_call, next_place, world_after}
use Rattle.query_orders.specs.Orders.{clients, orders, is_stuck, found_before}

-- the next call of a client, with what its thread does
abbrev pub left_call : Shown → List ℕ → ℕ → Option Call → List LeftCall
left_call v made client None = []
left_call v made client (Some call) =
    record { client = client; place = next_place made client; thread = call.thread; state = state_at v call.thread } ∷ []

-- those of all clients that have calls left
abbrev pub left_calls : List (List Call) → List ℕ → Shown → List LeftCall
left_calls own made v = flat_map (λ client. left_call v made client (next_client_call own made client)) (clients own)

-- an order that ends stuck, with the calls that it leaves
pub record StuckEnd : Type 0 where
  pub order : List ℕ
  pub left : List LeftCall

abbrev pub stuck_end : List ℕ → List LeftCall → StuckEnd
stuck_end order left = record { order = order; left = left }

abbrev pub stuck_behind : ProfileName → List (List Call) → World → List ℕ → List StuckEnd
stuck_behind p own w order =
    let v = world_after p own w order in
    cond (is_stuck own v) (stuck_end order (left_calls own v.made (shown v.kernel)) ∷ []) []

-- two orders end stuck in one way where they leave the same calls, by a test of these
abbrev pub same_stuck : (List LeftCall → List LeftCall → Bool) → StuckEnd → StuckEnd → Bool
same_stuck same a b = same a.left b.left

-- of the ways in which orders end stuck that begin in one way and have fewer calls more than so many, each with the first order that
-- does
abbrev pub stuck_before : (List LeftCall → List LeftCall → Bool) → ProfileName → List (List Call) → World → List ℕ → ℕ → List StuckEnd
stuck_before same p own w first n = found_before (same_stuck same) (stuck_behind p own w) [] p own w first n

-- how many of these orders lead to a world that passes a test
abbrev pub orders_before : (World → Bool) → ProfileName → List (List Call) → World → List ℕ → ℕ → ℕ
orders_before test p own w first zero = 0
orders_before test p own w first (suc n) = orders_before test p own w first n + count_by (λ order. test (world_after p own w order)) (orders p own w first n)
