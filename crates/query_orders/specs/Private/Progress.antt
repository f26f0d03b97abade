-- How far an exploration is.
use Rattle.std.specs.Prelude.{◌≡◌, ℕ, ◌-◌, Bool, true, false, List, [], ◌∷◌, map, filter}
use Rattle.cap_core.specs.declared.profile.ProfileName.{ProfileName}
use Rattle.kernel_abstract.specs.declared.call.Call.{Call}
use Rattle.kernel_abstract.specs.Shown.{Shown}
use Rattle.kernel_abstract.specs.State.{State}
use Rattle.kernel_lists.specs.Firsts.{firsts}
use Rattle.query_orders.specs.declared.answer.Answer.{Answer}
use Rattle.query_orders.specs.World.{start, next_client_call, can_be_made}
use Rattle.query_orders.specs.Orders.{numbers_below, orders, is_end, is_stuck}
use Rattle.query_orders.specs.Answers.{first_answers, answers_before, same_answer}
use Rattle.query_orders.specs.Ends.{stuck_before, orders_before}
use Rattle.query_orders.specs.declared.exploring.node.Node.{Node}
use Rattle.query_orders.specs.declared.exploring.found.FoundAnswer.{FoundAnswer}
use Rattle.query_orders.specs.declared.exploring.exploration.Explored.{Explored}
use Rattle.query_orders.specs.declared.exploring.exploration.Callers.{Callers}
use Rattle.query_orders.specs.declared.exploring.exploration.Callers.TheVariants.{Nobody, One, Several}
use Rattle.query_orders.specs.Nodes.{IsWay, AreNodes, node_orders}
use Rattle.query_orders.specs.Counts.{counted, saturated, states_before, ends_before}
use Rattle.query_orders.specs.Found.{answers_of, same_left}
use Rattle.query_orders.specs.Explorations.{IsExploredTo, depth, layers_from}

-- what is explored, and the layer with its counts
pub record IsProgress (p : ProfileName) (own : List (List Call)) (A : State) (first : List ℕ) (same : Answer → Answer → Bool) (e : Explored) : Type 0 where
  pub are : AreNodes p own (start own A) e.layer
  pub entries_are : node_orders e.layer ≡ map (λ (c : List ℕ × ℕ). (c.0, saturated c.1)) (counted p own (start own A) first e.calls)
  pub to : IsExploredTo p own (start own A) first same e

-- ---- one order

-- of so many clients those that can make a call, by a node and what is shown there
abbrev pub only_callers : List (List Call) → Node → Shown → ℕ → List ℕ
only_callers own n v count = filter (λ client. can_be_made v (next_client_call own n.made.items client)) (numbers_below count)

-- they are none, one, or any
abbrev pub AreCallers : Callers → List ℕ → Type 0
AreCallers Nobody clients = clients ≡ []
AreCallers (One client) clients = clients ≡ client ∷ []
AreCallers Several clients = Unit {0}

-- with one client more, which may make a call or not
abbrev pub callers_with : Callers → ℕ → Bool → Callers
callers_with callers client false = callers
callers_with Nobody client true = One client
callers_with (One other) client true = Several
callers_with Several client true = Several

-- of the orders that begin in one way and have so many calls more there is one, which leads to a node; none ended with fewer calls,
-- and an exploration goes on to these
pub record IsOneOrder (p : ProfileName) (own : List (List Call)) (A : State) (first : List ℕ) (same : Answer → Answer → Bool) (limit count : ℕ) (n : Node)
    (found : List FoundAnswer) (states calls : ℕ) : Type 0 where
  pub is : IsWay p own (start own A) n
  pub weight_is : n.weight ≡ 1
  pub orders_are : orders p own (start own A) first calls ≡ n.order ∷ []
  pub counted_are : counted p own (start own A) first calls ≡ (n.order, 1) ∷ []
  pub answers_are : answers_of found ≡ answers_before same (firsts (same_answer same) (first_answers p own (start own A) [] first)) p own (start own A) first calls
  pub stuck_are : stuck_before same_left p own (start own A) first calls ≡ []
  pub states_are : states ≡ saturated (states_before p own (start own A) first calls)
  pub ends_are : ends_before p own (start own A) first calls ≡ 0
  pub ended_are : orders_before (is_end own) p own (start own A) first calls ≡ 0
  pub stuck_orders_are : orders_before (is_stuck own) p own (start own A) first calls ≡ 0
  pub goes_on : layers_from p own (start own A) first limit (count - calls) calls ≡ depth p own (start own A) first limit count
