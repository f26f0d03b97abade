-- What the law of groups says: what the clients of one group come to does not depend on the others.
use Rattle.std.specs.Prelude.{◌≡◌, ◌↔◌, ℕ, Bool, true, List, [], ◌++◌, filter, Contains}
use Rattle.std.specs.List.{AllByRecursion as Each}
use Rattle.cap_core.specs.declared.profile.ProfileName.{ProfileName}
use Rattle.kernel_abstract.specs.declared.call.Call.{Call}
use Rattle.kernel_abstract.specs.Reached.{IsReached}
use Rattle.kernel_abstract.specs.State.{State, shown}
use Rattle.query_orders.specs.declared.answer.Answer.{Answer}
use Rattle.query_orders.specs.declared.left.LeftCall.{LeftCall}
use Rattle.query_orders.specs.World.{World, start, next_client_call, may_call, world_after}
use Rattle.query_orders.specs.Orders.{orders, is_end}
use Rattle.query_orders.specs.Answers.{Answered, answered, call_answers, end_answers, first_answers, answers_behind}
use Rattle.query_orders.specs.Ends.{left_calls}
use Rattle.query_orders.specs.Groups.{AreGroups, is_client_in, alone}
use Rattle.query_orders.specs.Laws.{EachCanBeMade}

-- behind an order and behind its part that a group's clients make, each client of the group can go on alike, and is told the same; and
-- at an end, the same is told of its calls
pub record IsSeenAlike (p : ProfileName) (own lone : List (List Call)) (has : ℕ → Bool) (v u : World) : Type 0 where
  pub may : (client : ℕ) → has client ≡ true → may_call own v client ≡ may_call lone u client
  pub told : (order : List ℕ) (client : ℕ) → has client ≡ true
      → call_answers p v order client (next_client_call own v.made client) ≡ call_answers p u order client (next_client_call lone u.made client)
  pub ends : (order : List ℕ) → filter (λ (a : Answered). has a.client) (end_answers own v order) ≡ filter (λ (a : Answered). has a.client) (end_answers lone u order)
  pub left : filter (λ (c : LeftCall). has c.client) (left_calls own v.made (shown v.kernel)) ≡ filter (λ (c : LeftCall). has c.client) (left_calls lone u.made (shown u.kernel))

-- the first calls come to the same if of the other clients no more calls are kept than these
abbrev pub BeginsAlike : ProfileName → List (List Call) → State → List ℕ → (ℕ → Bool) → Type 0
BeginsAlike p own A first has =
    let w = world_after p own (start own A) first in
    let lone = alone own w.made has in
    world_after p lone (start lone A) first ≡ w

-- of each order of all clients the part that a group's clients make is an order of the group by itself, and is seen alike
abbrev pub HasPart : ProfileName → List (List Call) → State → List ℕ → List ℕ → ℕ → List ℕ → Type 0
HasPart p own A first groups group order =
    let w = world_after p own (start own A) first in
    let has = is_client_in groups group in
    let lone = alone own w.made has in
    IsReached p A → AreGroups p own w groups → EachCanBeMade p own w order →
    EachCanBeMade p lone w (filter has order) × IsSeenAlike p own lone has (world_after p own w order) (world_after p lone w (filter has order))

-- after an order in which a group makes no call, each order of the group by itself can be made
abbrev pub GoesOn : ProfileName → List (List Call) → State → List ℕ → List ℕ → ℕ → List ℕ → List ℕ → Type 0
GoesOn p own A first groups group order more =
    let w = world_after p own (start own A) first in
    let has = is_client_in groups group in
    IsReached p A → AreGroups p own w groups → EachCanBeMade p own w order → filter has order ≡ []
    → EachCanBeMade p (alone own w.made has) w more → Each (λ client. has client ≡ true) more → EachCanBeMade p own w (order ++ more)

-- ---- what all orders tell

-- behind some order that begins in one way stands this answer of a client's call
pub record IsTold (p : ProfileName) (own : List (List Call)) (A : State) (first : List ℕ) (client place : ℕ) (answer : Answer) : Type 0 where
  pub count : ℕ
  pub order : List ℕ
  pub begins : Contains (orders p own (start own A) first count) order
  pub told_with : List ℕ
  pub told : Contains (answers_behind p own (start own A) order) (answered told_with client place answer)

-- at the end of some order that begins in one way, just these calls are left
pub record IsLeft (p : ProfileName) (own : List (List Call)) (A : State) (first : List ℕ) (left : List LeftCall) : Type 0 where
  pub count : ℕ
  pub order : List ℕ
  pub begins : Contains (orders p own (start own A) first count) order
  pub ends : is_end own (world_after p own (start own A) order) ≡ true
  pub left_are : left_calls own (world_after p own (start own A) order).made (shown (world_after p own (start own A) order).kernel) ≡ left

-- the first calls tell the same if of the other clients no more calls are kept than these
abbrev pub FirstTellTheSame : ProfileName → List (List Call) → State → List ℕ → (ℕ → Bool) → Type 0
FirstTellTheSame p own A first has =
    let lone = alone own (world_after p own (start own A) first).made has in
    first_answers p lone (start lone A) [] first ≡ first_answers p own (start own A) [] first

-- the orders of a group's clients by themselves tell of these clients' calls what the orders of all clients tell of them, and
-- nothing else
abbrev pub TellTheSame : ProfileName → List (List Call) → State → List ℕ → List ℕ → ℕ → Type 0
TellTheSame p own A first groups group =
    let w = world_after p own (start own A) first in
    let has = is_client_in groups group in
    let lone = alone own w.made has in
    IsReached p A → AreGroups p own w groups →
    (client place : ℕ) (answer : Answer) → has client ≡ true → IsTold p lone A first client place answer ↔ IsTold p own A first client place answer

-- the orders of a group's clients by themselves leave of these clients' calls at their ends what the orders of all clients leave of
-- them, and nothing else
abbrev pub LeaveTheSame : ProfileName → List (List Call) → State → List ℕ → List ℕ → ℕ → Type 0
LeaveTheSame p own A first groups group =
    let w = world_after p own (start own A) first in
    let has = is_client_in groups group in
    let lone = alone own w.made has in
    IsReached p A → AreGroups p own w groups →
    (left : List LeftCall) → IsLeft p lone A first left ↔ ((all : List LeftCall) × IsLeft p own A first all × (filter (λ (c : LeftCall). has c.client) all ≡ left))
