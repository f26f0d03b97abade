-- What the set-up of a witness is, and what a run of it comes to.
use Rattle.std.specs.Prelude.{◌≡◌, ℕ, ◌==◌, max, Bool, true, false, cond, List, [], ◌∷◌, ◌++◌, map, length, Option, None, Some, slice_get, Ok, ◌⊎◌}
use Rattle.std.specs.List.{flat_map}
use Rattle.toml.specs.Data.{Members, members_are_sorted}
use Rattle.kernel_abstract.specs.declared.call.Call.{Call}
use Rattle.kernel_abstract.specs.declared.call.Reply.{Reply}
use Rattle.kernel_abstract.specs.declared.call.Reply.TheVariants.{Waiting}
use Rattle.kernel_abstract.specs.Boot.{boot}
use Rattle.kernel_abstract.specs.Plan.{IsPlan}
use Rattle.kernel_abstract.specs.Shown.{Shown, state_at}
use Rattle.kernel_abstract.specs.State.{State, shown}
use Rattle.kernel_abstract.specs.Step.{replies_of, state_after}
use Rattle.setup_format.specs.Setups.{setup_of, names_of}
use Rattle.setup_format.specs.Views.{CallView, SetupView}
use Rattle.query_orders.specs.declared.answer.Answer.{Answer}
use Rattle.query_orders.specs.declared.answer.Answer.TheVariants.{Replied, Served, Cancelled, Waits, NotMade}
use Rattle.query_orders.specs.declared.left.LeftCall.{LeftCall}
use Rattle.query_orders.specs.World.{World, call_of_client_at, is_waiting}
use Rattle.query_orders.specs.Orders.{is_end, is_stuck}
use Rattle.query_orders.specs.Answers.{Answered}
use Rattle.query_orders.specs.Ends.{StuckEnd, left_calls}
use Rattle.query_orders.specs.Laws.{calls_of_orders}
use Rattle.command_explore.specs.declared.report.witness.Witness.{Witness}
use Rattle.command_explore.specs.declared.report.witness.Witness.TheVariants as witnesses
use Rattle.command_explore.specs.Clients.{calls_of_each}
use Rattle.command_explore.specs.Laws.{begins}
use Rattle.command_explore.specs.Numbers.{client_numbers_of, order_numbers, view_numbered}
use Rattle.command_explore.specs.Report.{exploration}
use Rattle.command_explore.specs.Views.{ExploredView}
use Rattle.command_explore.specs.Witnesses.{answer_numbered, stuck_numbered, named_order, expecting, witness_of}

-- ---- its calls

-- a call with its expectation or without it
abbrev pub view_as : Bool → CallView → CallView
view_as true call = call
view_as false call = record { call = call.call; client = call.client; expect = None }

abbrev pub view_where : Bool → Option CallView → List CallView
view_where expects None = []
view_where expects (Some call) = view_as expects call ∷ []

-- the calls with these numbers, in this order; only the call with one number keeps its expectation
abbrev pub chosen_views : ℕ → List CallView → List ℕ → List CallView
chosen_views kept calls numbers = flat_map (λ number. view_where (number == kept) (view_numbered calls number)) numbers

-- calls, each with its client
abbrev pub called : List CallView → List (ℕ × Call)
called calls = map (λ (c : CallView). (c.client, c.call)) calls

-- the most entries of a history are as many as in the set-up; where that says no number, they are as many as the calls
abbrev pub HasLimitOf : SetupView → SetupView → Type 0
HasLimitOf setup made = (made.limit ≡ setup.limit) ⊎ ((setup.limit ≡ max 1 (length setup.calls)) × (made.limit ≡ max 1 (length made.calls)))

-- a set-up makes the calls of an order, with the one expectation; all else is as in the set-up whose calls are ordered
pub record MakesOrder (setup : SetupView) (order : List ℕ) (kept : ℕ) (made : SetupView) : Type 0 where
  pub profile : made.profile ≡ setup.profile
  pub plan : made.plan ≡ setup.plan
  pub clients : made.clients ≡ setup.clients
  pub limit : HasLimitOf setup made
  pub numbers : made.calls ≡ chosen_views kept setup.calls (order_numbers (client_numbers_of setup) [] order)
  pub calls : called made.calls ≡ calls_of_orders setup.profile (calls_of_each setup) (begins setup.profile setup) order

-- ---- its run

abbrev pub replayed_calls : SetupView → List Call
replayed_calls setup = map (λ (c : CallView). c.call) setup.calls

-- what the abstract kernel answers to the calls, from the boot on, and its state at their end
abbrev pub run_replies : SetupView → List Reply
run_replies setup = replies_of setup.profile (boot setup.profile setup.plan) (replayed_calls setup)

abbrev pub run_end : SetupView → State
run_end setup = state_after setup.profile (boot setup.profile setup.plan) (replayed_calls setup)

-- how many calls each client has made, and the kernel at the end; of the calls that wait nothing is said
abbrev pub run_world : SetupView → World
run_world setup = record { made = map length (calls_of_each setup); waits = []; kernel = run_end setup }

-- the replies to the calls of one client, in order
abbrev pub client_replies : ℕ → List CallView → List Reply → List Reply
client_replies client [] replies = []
client_replies client (call ∷ calls) [] = []
client_replies client (call ∷ calls) (reply ∷ replies) =
    cond (call.client == client) (reply ∷ client_replies client calls replies) (client_replies client calls replies)

-- the reply to a client's call at a place of its own list, where it is made
abbrev pub reply_at : SetupView → ℕ → ℕ → Option Reply
reply_at made client place = slice_get (client_replies client made.calls (run_replies made)) place

-- the last reply
abbrev pub EndsWith : SetupView → Reply → Type 0
EndsWith made reply = (before : List Reply) × (run_replies made ≡ before ++ reply ∷ [])

-- whether the thread of a call is shown to wait
abbrev pub is_shown_waiting : Shown → Option Call → Bool
is_shown_waiting v None = false
is_shown_waiting v (Some call) = is_waiting (state_at v call.thread)

-- whether the thread of a client's call at a place of its own list waits at the end
abbrev pub waits_at_end : SetupView → SetupView → ℕ → ℕ → Bool
waits_at_end setup made client place = is_shown_waiting (shown (run_end made)) (call_of_client_at (calls_of_each setup) client place)

-- ---- what it comes to

-- a client's call at a place of its own list comes to an answer: it is the last reply; or the call waits, and the last reply serves
-- it; or it waits, and its thread does not wait at the end; or its thread waits there, or it is not made, and no client can go on
abbrev pub ComesToAnswer : SetupView → SetupView → ℕ → ℕ → Answer → Type 0
ComesToAnswer setup made client place (Replied reply) = (reply_at made client place ≡ Some reply) × EndsWith made reply
ComesToAnswer setup made client place (Served reply) = (reply_at made client place ≡ Some Waiting) × EndsWith made reply × (waits_at_end setup made client place ≡ false)
ComesToAnswer setup made client place Cancelled = (reply_at made client place ≡ Some Waiting) × (waits_at_end setup made client place ≡ false)
ComesToAnswer setup made client place Waits =
    (reply_at made client place ≡ Some Waiting) × (waits_at_end setup made client place ≡ true) × (is_end (calls_of_each setup) (run_world made) ≡ true)
ComesToAnswer setup made client place NotMade = (reply_at made client place ≡ None) × (is_end (calls_of_each setup) (run_world made) ≡ true)

-- it ends stuck, with these calls left
abbrev pub EndsStuck : SetupView → SetupView → List LeftCall → Type 0
EndsStuck setup made left =
    (is_stuck (calls_of_each setup) (run_world made) ≡ true) × (left ≡ left_calls (calls_of_each setup) (run_world made).made (shown (run_end made)))

-- it comes to what is told of the witness
abbrev pub ComesToTold : SetupView → ExploredView → Witness → SetupView → Type 0
ComesToTold setup e (witnesses.Answer call place) made =
    (a : Answered) × (answer_numbered (client_numbers_of setup) call place 1 e.answers ≡ Some a) × ComesToAnswer setup made a.client a.place a.answer
ComesToTold setup e (witnesses.Stuck place) made = (s : StuckEnd) × (stuck_numbered place 1 e.stuck ≡ Some s) × EndsStuck setup made s.left

-- ---- the laws

abbrev pub explored : SetupView → ℕ → ℕ → ExploredView
explored setup first limit = exploration setup.profile setup first limit

-- the table of a witness is that of a set-up which makes the calls of the order that is told; the names are the same, and a kernel
-- can be booted from the plan
pub record IsAccepted (setup : SetupView) (first limit : ℕ) (witness : Witness) (document table : Members) : Type 0 where
  pub order : List ℕ
  pub told : named_order (client_numbers_of setup) (explored setup first limit) witness ≡ Some order
  pub made : SetupView
  pub accepted : setup_of table ≡ Ok made
  pub lawful : IsPlan setup.profile setup.plan
  pub names : names_of setup.profile table ≡ names_of setup.profile document
  pub makes : MakesOrder setup order (expecting witness) made

-- in the table of a set-up the keys come in the order of their bytes
abbrev pub IsWitnessAccepted : SetupView → ℕ → ℕ → Witness → Members → Members → Type 0
IsWitnessAccepted setup first limit witness document table =
    members_are_sorted document ≡ true → setup_of document ≡ Ok setup
    → witness_of setup.profile setup first limit witness document ≡ Some table → IsAccepted setup first limit witness document table

-- a set-up that makes the calls of the order that is asked for comes to what is written
abbrev pub IsWitnessReplayed : SetupView → ℕ → ℕ → Witness → List ℕ → SetupView → Type 0
IsWitnessReplayed setup first limit witness order made =
    IsPlan setup.profile setup.plan → named_order (client_numbers_of setup) (explored setup first limit) witness ≡ Some order
    → MakesOrder setup order (expecting witness) made → ComesToTold setup (explored setup first limit) witness made
