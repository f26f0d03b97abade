-- What the laws of orders say.
use Rattle.std.specs.Prelude.{◌≡◌, ◌≤◌, ◌==◌, ◌&&◌, ℕ, Bool, true, false, List, [], ◌∷◌, ◌++◌, map, filter, length, count_by, Contains, Option, None, Some, slice_get}
use Rattle.cap_core.specs.declared.profile.ProfileName.{ProfileName}
use Rattle.kernel_abstract.specs.declared.call.Call.{Call}
use Rattle.kernel_abstract.specs.State.{State}
use Rattle.kernel_lists.specs.Firsts.{IsKindTest}
use Rattle.query_orders.specs.declared.answer.Answer.{Answer}
use Rattle.query_orders.specs.declared.left.LeftCall.{LeftCall}
use Rattle.query_orders.specs.World.{World, start, call_of_client_at, next_client_call, may_call, after_call, world_after}
use Rattle.query_orders.specs.Orders.{orders, has_calls_left}
use Rattle.query_orders.specs.Answers.{Answered, first_answers, end_answers, answers_behind, answers_before}
use Rattle.query_orders.specs.Ends.{StuckEnd, stuck_behind, stuck_before}

-- each client of the order can make its next call where it stands
abbrev pub EachCanBeMade : ProfileName → List (List Call) → World → List ℕ → Type 0
EachCanBeMade p own w order =
    (front : List ℕ) (client : ℕ) (rest : List ℕ) → order ≡ front ++ client ∷ rest → may_call own (world_after p own w front) client ≡ true

-- a call with the client that makes it, where there is one
abbrev pub made_by : ℕ → Option Call → List (ℕ × Call)
made_by client None = []
made_by client (Some call) = (client, call) ∷ []

-- the calls that an order makes, each with its client
abbrev pub calls_of_orders : ProfileName → List (List Call) → World → List ℕ → List (ℕ × Call)
calls_of_orders p own w [] = []
calls_of_orders p own w (client ∷ order) = made_by client (next_client_call own w.made client) ++ calls_of_orders p own (after_call p own w client) order

-- those of one client
abbrev pub calls_of : ℕ → List (ℕ × Call) → List Call
calls_of client calls = map (λ (call : ℕ × Call). call.1) (filter (λ (call : ℕ × Call). call.0 == client) calls)

-- if no calls are left, those of each client are its own
abbrev pub IsShuffle : ProfileName → List (List Call) → State → List ℕ → Type 0
IsShuffle p own A order =
    has_calls_left own (world_after p own (start own A) order) ≡ false →
    (client : ℕ) (calls : List Call) → slice_get own client ≡ Some calls → calls_of client (calls_of_orders p own (start own A) order) ≡ calls

-- what an order tells of calls, each of its calls in turn, and at its end
abbrev pub told_in : ProfileName → List (List Call) → World → List ℕ → List Answered
told_in p own w order = first_answers p own w [] order ++ end_answers own (world_after p own w order) order

-- whether an answer is of the call of a client at a place
abbrev pub is_to : ℕ → ℕ → Answered → Bool
is_to client place a = (a.client == client) && (a.place == place)

-- of each call of the clients the order tells one answer
abbrev pub AnswersEachOnce : ProfileName → List (List Call) → State → List ℕ → Type 0
AnswersEachOnce p own A order =
    (client place : ℕ) (call : Call) → call_of_client_at own client place ≡ Some call → count_by (is_to client place) (told_in p own (start own A) order) ≡ 1

-- ---- of each thing that is found, the order that is told is one of the shortest that have it

-- the first order that has an answer is no longer than any other order that has it
abbrev pub AreShortest : ProfileName → List (List Call) → World → List ℕ → ℕ → Type 0
AreShortest p own w first n =
    (same : Answer → Answer → Bool) → IsKindTest same → (a b : Answered) (m : ℕ) (order : List ℕ)
    → Contains (answers_before same [] p own w first n) a → Contains (orders p own w first m) order → Contains (answers_behind p own w order) b
    → b.client ≡ a.client → b.place ≡ a.place → b.answer ≡ a.answer → length a.order ≤ length b.order

-- the first order that ends stuck in a way is no longer than any other order that does
abbrev pub AreShortestStuck : ProfileName → List (List Call) → World → List ℕ → ℕ → Type 0
AreShortestStuck p own w first n =
    (same : List LeftCall → List LeftCall → Bool) → IsKindTest same → (s t : StuckEnd) (m : ℕ) (order : List ℕ)
    → Contains (stuck_before same p own w first n) s → Contains (orders p own w first m) order → Contains (stuck_behind p own w order) t
    → t.left ≡ s.left → length s.order ≤ length t.order

-- ---- orders that begin in one way

-- an order goes on from a beginning by so many calls, each of which can be made where it comes
abbrev pub IsBehind : ProfileName → List (List Call) → World → List ℕ → ℕ → List ℕ → Type 0
IsBehind p own w first count order =
    (rest : List ℕ) × (order ≡ first ++ rest) × (length rest ≡ count) × EachCanBeMade p own (world_after p own w first) rest
