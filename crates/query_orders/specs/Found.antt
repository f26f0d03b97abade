-- What an exploration finds.
use Rattle.std.specs.Prelude.{◌≡◌, ℕ, ◌-◌, ◌^◌, ◌&&◌, Bool, cond, nat_lt, List, [], ◌∷◌, ◌++◌, map, filter, length}
use Rattle.std.specs.List.{flat_map}
use Rattle.std.specs.Cmp.Lexicographic.{pointwise}
use Rattle.cap_core.specs.declared.profile.ProfileName.{ProfileName}
use Rattle.kernel_abstract.specs.declared.call.Call.{Call}
use Rattle.kernel_lists.specs.Firsts.{with_firsts, with_counts_up_to, each_times}
use Rattle.query_orders.specs.declared.answer.Answer.{Answer}
use Rattle.query_orders.specs.declared.answer.Answer.TheVariants.{Waits, NotMade}
use Rattle.query_orders.specs.declared.answer.WaitingCall.{WaitingCall}
use Rattle.query_orders.specs.declared.left.LeftCall.{LeftCall}
use Rattle.query_orders.specs.contracts.left.LeftCallPartialEq.TheImpl as left_eq
use Rattle.query_orders.specs.World.{World, next_client_call, may_call, world_after}
use Rattle.query_orders.specs.Orders.{numbers_below, clients, longer, is_end, is_stuck}
use Rattle.query_orders.specs.Answers.{Answered, answered, call_answers, answers_behind, places_left, same_answer}
use Rattle.query_orders.specs.Ends.{StuckEnd, stuck_end, stuck_behind, same_stuck}
use Rattle.query_orders.specs.declared.exploring.node.Node.{Node}
use Rattle.query_orders.specs.declared.exploring.found.FoundAnswer.{FoundAnswer}
use Rattle.query_orders.specs.declared.exploring.stuck.FoundStuck.{FoundStuck}
use Rattle.query_orders.specs.declared.exploring.stuck.Findings.{Findings}
use Rattle.query_orders.specs.Nodes.{IsWay, AreNodes, lead_alike, node_orders}
use Rattle.query_orders.specs.Counts.{saturated_sum}

-- an answer that is found
abbrev pub answer_of : FoundAnswer → Answered
answer_of found = answered found.order found.client found.place found.answer

abbrev pub answers_of : List FoundAnswer → List Answered
answers_of found = map answer_of found

-- behind an order, what the next call of a client tells, where it can make one
abbrev pub one_told : ProfileName → List (List Call) → World → List ℕ → ℕ → List Answered
one_told p own w order client =
    let v = world_after p own w order in
    flat_map (λ c. call_answers p v order c (next_client_call own v.made c)) (filter (may_call own v) (client ∷ []))

-- what the next calls of all clients tell that can make one
abbrev pub calls_told : ProfileName → List (List Call) → World → List ℕ → List Answered
calls_told p own w order =
    let v = world_after p own w order in
    flat_map (λ client. call_answers p v order client (next_client_call own v.made client)) (filter (may_call own v) (clients own))

-- that calls of a client are not made
abbrev pub not_made_told : List (List Call) → List ℕ → List ℕ → ℕ → List Answered
not_made_told own made order client = map (λ place. answered order client place NotMade) (places_left own made client)

-- what the calls of so many clients come to that wait, or are left, where an order ends, by the parts of a node
abbrev pub end_told : List (List Call) → ℕ → List ℕ → List WaitingCall → List ℕ → List Answered
end_told own count made waits order =
    map (λ (call : WaitingCall). answered order call.client call.place Waits) waits ++ flat_map (not_made_told own made order) (numbers_below count)

-- ---- how orders end

-- two lists of calls that are left are the same
abbrev pub same_left : List LeftCall → List LeftCall → Bool
same_left a b = pointwise left_eq.ghosts.eq a b

abbrev pub stuck_of : List FoundStuck → List StuckEnd
stuck_of found = map (λ (s : FoundStuck). stuck_end s.order s.left.items) found

-- an order that ends is stuck where calls are left
abbrev pub stuck_told : Bool → List ℕ → List LeftCall → List StuckEnd
stuck_told ends order left = cond (ends && nat_lt 0 (length left)) (stuck_end order left ∷ []) []

-- ---- one node more

-- by the next call of a client, a node has become another, and what it tells was noted
pub record IsMade (p : ProfileName) (own : List (List Call)) (w : World) (n m : Node) (client : ℕ) (same : Answer → Answer → Bool) (found found' : List FoundAnswer) : Type 0 where
  pub is : IsWay p own w m
  pub order_is : m.order ≡ n.order ++ client ∷ []
  pub told_are : answers_of found' ≡ with_firsts (same_answer same) (answers_of found)
      (call_answers p (world_after p own w n.order) n.order client (next_client_call own (world_after p own w n.order).made client))

-- to nodes and to what is found there have come these orders, each with a count, and the first of each kind of these answers
pub record IsVisited (p : ProfileName) (own : List (List Call)) (w : World) (nodes nodes' : List Node) (orders : List (List ℕ × ℕ))
    (same : Answer → Answer → Bool) (found found' : List FoundAnswer) (told : List Answered) : Type 0 where
  pub are : AreNodes p own w nodes'
  pub entries_are : node_orders nodes' ≡ with_counts_up_to (2 ^ 64 - 1) (lead_alike p own w) (node_orders nodes) orders
  pub told_are : answers_of found' ≡ with_firsts (same_answer same) (answers_of found) told

-- of each of these orders, how often it counts where it leads to a world that passes a test
abbrev pub counts_of : (World → Bool) → ProfileName → List (List Call) → World → List (List ℕ × ℕ) → List ℕ
counts_of test p own w entries = map (λ (e : List ℕ × ℕ). cond (test (world_after p own w e.0)) e.1 0) entries

-- and 1 for each that is an end
abbrev pub ends_of : ProfileName → List (List Call) → World → List (List ℕ × ℕ) → List ℕ
ends_of p own w entries = map (λ (e : List ℕ × ℕ). cond (is_end own (world_after p own w e.0)) 1 0) entries

-- what stands behind these orders was found beside what was found before
pub record IsFound (p : ProfileName) (own : List (List Call)) (w : World) (same : Answer → Answer → Bool) (found found' : Findings) (entries : List (List ℕ × ℕ)) : Type 0 where
  pub answers_are : answers_of found'.answers ≡ with_firsts (same_answer same) (answers_of found.answers) (flat_map (λ (e : List ℕ × ℕ). answers_behind p own w e.0) entries)
  pub stuck_are : stuck_of found'.stuck.items ≡ with_firsts (same_stuck same_left) (stuck_of found.stuck.items) (flat_map (λ (e : List ℕ × ℕ). stuck_behind p own w e.0) entries)
  pub ends_are : found'.ends ≡ saturated_sum found.ends (ends_of p own w entries)
  pub orders_are : found'.orders ≡ saturated_sum found.orders (counts_of (is_end own) p own w entries)
  pub stuck_orders_are : found'.stuck_orders ≡ saturated_sum found.stuck_orders (counts_of (is_stuck own) p own w entries)

-- to nodes have come those that one call more leads to behind these orders, and what stands behind them was found
pub record IsExpanded (p : ProfileName) (own : List (List Call)) (w : World) (nodes nodes' : List Node) (same : Answer → Answer → Bool) (found found' : Findings) (entries : List (List ℕ × ℕ)) : Type 0 where
  pub are : AreNodes p own w nodes'
  pub entries_are : node_orders nodes' ≡ with_counts_up_to (2 ^ 64 - 1) (lead_alike p own w) (node_orders nodes) (flat_map (λ (e : List ℕ × ℕ). each_times e.1 (longer p own w e.0)) entries)
  pub found_are : IsFound p own w same found found' entries
