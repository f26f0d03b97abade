-- What an exploration gives.
use Rattle.std.specs.Prelude.{◌≡◌, ℕ, zero, suc, ◌+◌, ◌==◌, ◌||◌, Bool, cond, nat_lt, List, [], length, map}
use Rattle.cap_core.specs.declared.profile.ProfileName.{ProfileName}
use Rattle.kernel_abstract.specs.declared.call.Call.{Call}
use Rattle.kernel_abstract.specs.State.{State}
use Rattle.kernel_lists.specs.Firsts.{with_firsts, firsts}
use Rattle.query_orders.specs.declared.answer.Answer.{Answer}
use Rattle.query_orders.specs.World.{World, start}
use Rattle.query_orders.specs.Orders.{is_end, is_stuck}
use Rattle.query_orders.specs.Answers.{first_answers, answers_before, same_answer}
use Rattle.query_orders.specs.Ends.{stuck_before, orders_before}
use Rattle.query_orders.specs.declared.exploring.node.Node.{Node}
use Rattle.query_orders.specs.declared.exploring.found.FoundAnswer.{FoundAnswer}
use Rattle.query_orders.specs.declared.exploring.exploration.Explored.{Explored}
use Rattle.query_orders.specs.Nodes.{IsWay, layer}
use Rattle.query_orders.specs.Counts.{saturated, states_before, ends_before}
use Rattle.query_orders.specs.Found.{answers_of, stuck_of, same_left}

-- ---- how far it goes

-- with so many states so far and so many more in the next layer, it ends here
abbrev pub ends_exploration : ℕ → ℕ → ℕ → Bool
ends_exploration limit states more = (more == 0) || nat_lt limit (saturated (states + more))

abbrev pub is_last_layer : ProfileName → List (List Call) → World → List ℕ → ℕ → ℕ → Bool
is_last_layer p own w first limit n = ends_exploration limit (saturated (states_before p own w first n)) (length (layer p own w first n))

-- how many calls more the orders have at most that are explored, from so many on, and at most so many further
abbrev pub layers_from : ProfileName → List (List Call) → World → List ℕ → ℕ → ℕ → ℕ → ℕ
layers_from p own w first limit zero n = n
layers_from p own w first limit (suc further) n = cond (is_last_layer p own w first limit n) n (layers_from p own w first limit further (suc n))

abbrev pub depth : ProfileName → List (List Call) → World → List ℕ → ℕ → ℕ → ℕ
depth p own w first limit count = layers_from p own w first limit count 0

-- ---- how orders begin

-- the first calls were made, and what they tell was noted
pub record IsBegun (p : ProfileName) (own : List (List Call)) (A : State) (first : List ℕ) (n : Node) (same : Answer → Answer → Bool) (found found' : List FoundAnswer) : Type 0 where
  pub is : IsWay p own (start own A) n
  pub order_is : n.order ≡ first
  pub weight_is : n.weight ≡ 1
  pub told_are : answers_of found' ≡ with_firsts (same_answer same) (answers_of found) (first_answers p own (start own A) [] first)

-- ---- what it gives

-- all orders are explored that begin in one way and have fewer calls more than `e.calls`
pub record IsExploredTo (p : ProfileName) (own : List (List Call)) (w : World) (first : List ℕ) (same : Answer → Answer → Bool) (e : Explored) : Type 0 where
  -- the states that orders of just so many calls more lead to, each with the first order to it
  pub layer_is : map (λ (n : Node). n.order) e.layer ≡ layer p own w first e.calls
  -- of the answers behind the orders, the first of each kind, each with the first order that tells it
  pub answers_are : answers_of e.found.answers ≡ answers_before same (firsts (same_answer same) (first_answers p own w [] first)) p own w first e.calls
  pub stuck_are : stuck_of e.found.stuck.items ≡ stuck_before same_left p own w first e.calls
  pub states_are : e.states ≡ saturated (states_before p own w first e.calls)
  pub ends_are : e.found.ends ≡ saturated (ends_before p own w first e.calls)
  pub orders_are : e.found.orders ≡ saturated (orders_before (is_end own) p own w first e.calls)
  pub stuck_orders_are : e.found.stuck_orders ≡ saturated (orders_before (is_stuck own) p own w first e.calls)

-- all orders are explored, as far as the limit lets it go
pub record IsExplored (p : ProfileName) (own : List (List Call)) (A : State) (first : List ℕ) (same : Answer → Answer → Bool) (limit count : ℕ) (e : Explored) : Type 0 where
  pub to : IsExploredTo p own (start own A) first same e
  pub calls_are : e.calls ≡ depth p own (start own A) first limit count
