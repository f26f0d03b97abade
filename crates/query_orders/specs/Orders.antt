-- The orders in which clients can make their calls. An order is the list of the clients that make them.
use Rattle.std.specs.Prelude.{ℕ, zero, suc, Bool, ◌&&◌, not, List, [], ◌∷◌, ◌++◌, map, filter, length, is_some}
use Rattle.std.specs.List.{flat_map, list_any}
use Rattle.cap_core.specs.declared.profile.ProfileName.{ProfileName}
use Rattle.kernel_abstract.specs.declared.call.Call.{Call}
use Rattle.kernel_lists.specs.Firsts.{with_firsts}
use Rattle.query_orders.specs.World.{World, next_client_call, may_call, world_after}

-- the numbers below one
abbrev pub numbers_below : ℕ → List ℕ
numbers_below zero = []
numbers_below (suc n) = numbers_below n ++ n ∷ []

-- the numbers of the clients
abbrev pub clients : List (List Call) → List ℕ
clients own = numbers_below (length own)

-- an order, longer by the next call of each client that can make one
abbrev pub longer : ProfileName → List (List Call) → World → List ℕ → List (List ℕ)
longer p own w order = map (λ client. order ++ client ∷ []) (filter (may_call own (world_after p own w order)) (clients own))

-- all orders that begin in one way and have so many calls more, from a world on
abbrev pub orders : ProfileName → List (List Call) → World → List ℕ → ℕ → List (List ℕ)
orders p own w first zero = first ∷ []
orders p own w first (suc n) = flat_map (longer p own w) (orders p own w first n)

-- an order ends where no client can make a call
abbrev pub is_end : List (List Call) → World → Bool
is_end own w = not (list_any (may_call own w) (clients own))

abbrev pub has_calls_left : List (List Call) → World → Bool
has_calls_left own w = list_any (λ client. is_some (next_client_call own w.made client)) (clients own)

-- it ends stuck, in a deadlock, where calls are left then
abbrev pub is_stuck : List (List Call) → World → Bool
is_stuck own w = is_end own w && has_calls_left own w

-- of what stands behind all orders that begin in one way and have fewer calls more than so many, the first of each kind, beside
-- what was found before
abbrev pub found_before : {X : Type 0} → (X → X → Bool) → (List ℕ → List X) → List X → ProfileName → List (List Call) → World → List ℕ → ℕ → List X
found_before same behind found p own w first zero = found
found_before same behind found p own w first (suc n) = with_firsts same (found_before same behind found p own w first n) (flat_map behind (orders p own w first n))
