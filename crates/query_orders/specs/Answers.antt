-- What calls come to in orders.
use Rattle.std.specs.Prelude.{ℕ, zero, suc, ◌-◌, ◌+◌, ◌==◌, ◌&&◌, ◌||◌, not, Bool, cond, List, [], ◌∷◌, ◌++◌, map, filter, length, Option, None, Some, slice_get, unwrap_or}
use Rattle.std.specs.List.{flat_map}
use Rattle.cap_core.specs.declared.profile.ProfileName.{ProfileName}
use Rattle.kernel_abstract.specs.declared.call.Call.{Call}
use Rattle.kernel_abstract.specs.declared.call.Reply.{Reply}
use Rattle.kernel_abstract.specs.declared.call.Reply.TheVariants.{Done, Delivered, Waiting, Dropped, Empty, Refused}
use Rattle.kernel_abstract.specs.Shown.{Shown}
use Rattle.kernel_abstract.specs.State.{shown}
use Rattle.kernel_abstract.specs.Step.{Outcome, step}
use Rattle.query_orders.specs.declared.answer.Answer.{Answer}
use Rattle.query_orders.specs.declared.answer.Answer.TheVariants.{Replied, Served, Cancelled, Waits, NotMade}
use Rattle.query_orders.specs.declared.answer.WaitingCall.{WaitingCall}
use Rattle.query_orders.specs.World.{World, next_client_call, may_call, next_place, is_wait, still_waits, after_call, world_after}
use Rattle.query_orders.specs.Orders.{clients, is_end, found_before}

-- the call of a client at a place of its own list comes to an answer, in an order
pub record Answered : Type 0 where
  pub order : List ℕ
  pub client : ℕ
  pub place : ℕ
  pub answer : Answer

abbrev pub answered : List ℕ → ℕ → ℕ → Answer → Answered
answered order client place answer = record { order = order; client = client; place = place; answer = answer }

-- what a call itself is answered, unless it waits
abbrev pub replied : List ℕ → ℕ → ℕ → Reply → List Answered
replied order client place reply = cond (is_wait reply) [] (answered order client place (Replied reply) ∷ [])

-- what the wait of a thread came to that a call ended, by the call's reply
abbrev pub wait_ended : Reply → ℕ → Answer
wait_ended Done thread = Cancelled
wait_ended (Delivered endpoint from to badge message) thread =
    cond (from == thread || to == thread) (Served (Delivered endpoint from to badge message)) Cancelled
wait_ended Waiting thread = Cancelled
wait_ended Dropped thread = Cancelled
wait_ended Empty thread = Cancelled
wait_ended (Refused refusal) thread = Cancelled

-- the waits that are not shown any more
abbrev pub waits_ended : List ℕ → Shown → List WaitingCall → Reply → List Answered
waits_ended order v waits reply =
    map (λ (call : WaitingCall). answered order call.client call.place (wait_ended reply call.thread)) (filter (λ call. not (still_waits v call)) waits)

-- what a client's call tells, with its outcome: its own answer, and those of the waits that it ended
abbrev pub outcome_answers : World → List ℕ → ℕ → Outcome → List Answered
outcome_answers w order client outcome =
    replied order client (next_place w.made client) outcome.reply ++ waits_ended order (shown outcome.state) w.waits outcome.reply

abbrev pub call_answers : ProfileName → World → List ℕ → ℕ → Option Call → List Answered
call_answers p w order client None = []
call_answers p w order client (Some call) = outcome_answers w (order ++ client ∷ []) client (step p w.kernel call)

-- so many numbers from one on
abbrev pub numbers_from : ℕ → ℕ → List ℕ
numbers_from first zero = []
numbers_from first (suc n) = first ∷ numbers_from (first + 1) n

-- the places of the calls that a client has left
abbrev pub places_left : List (List Call) → List ℕ → ℕ → List ℕ
places_left own made client =
    numbers_from (next_place made client) (length (unwrap_or (slice_get own client) []) - next_place made client)

-- what the calls come to that wait, or are left, where an order ends
abbrev pub end_answers : List (List Call) → World → List ℕ → List Answered
end_answers own w order =
    map (λ (call : WaitingCall). answered order call.client call.place Waits) w.waits
    ++ flat_map (λ client. map (λ place. answered order client place NotMade) (places_left own w.made client)) (clients own)

-- behind an order stand the answers that the next call of each client tells that can make one, and at its end those of the end
abbrev pub answers_behind : ProfileName → List (List Call) → World → List ℕ → List Answered
answers_behind p own w order =
    let v = world_after p own w order in
    flat_map (λ client. call_answers p v order client (next_client_call own v.made client)) (filter (may_call own v) (clients own))
    ++ cond (is_end own v) (end_answers own v order) []

-- two answers are of one kind where one call comes to the same, by a test of what calls come to
abbrev pub same_answer : (Answer → Answer → Bool) → Answered → Answered → Bool
same_answer same a b = (a.client == b.client) && (a.place == b.place) && same a.answer b.answer

-- of the answers behind all orders that begin in one way and have fewer calls more than so many, the first of each kind, each with
-- the first order that tells it
abbrev pub answers_before : (Answer → Answer → Bool) → List Answered → ProfileName → List (List Call) → World → List ℕ → ℕ → List Answered
answers_before same found p own w first n = found_before (same_answer same) (answers_behind p own w) found p own w first n

-- what the calls tell of the way in which orders begin, each call in turn, behind what was made before
abbrev pub first_answers : ProfileName → List (List Call) → World → List ℕ → List ℕ → List Answered
first_answers p own w made [] = []
first_answers p own w made (client ∷ order) =
    call_answers p w made client (next_client_call own w.made client) ++ first_answers p own (after_call p own w client) (made ++ client ∷ []) order
