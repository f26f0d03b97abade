-- What clients have made of their calls, and what comes of one more.
use Rattle.std.specs.Prelude.{ℕ, ◌+◌, Bool, true, false, cond, nat_lt, List, [], ◌∷◌, filter, length, insert, position, replicate, Option, None, Some, option_and_then, slice_get, slice_set, unwrap_or}
use Rattle.cap_core.specs.declared.profile.ProfileName.{ProfileName}
use Rattle.kernel_abstract.specs.declared.call.Call.{Call}
use Rattle.kernel_abstract.specs.declared.call.Reply.{Reply}
use Rattle.kernel_abstract.specs.declared.call.Reply.TheVariants.{Done, Delivered, Waiting, Dropped, Empty, Refused}
use Rattle.kernel_abstract.specs.declared.call.ThreadState.{ThreadState}
use Rattle.kernel_abstract.specs.declared.call.ThreadState.TheVariants.{Ready, Inactive, Sending, Receiving}
use Rattle.kernel_abstract.specs.Shown.{Shown, state_at}
use Rattle.kernel_abstract.specs.State.{State, shown}
use Rattle.kernel_abstract.specs.Step.{Outcome, step}
use Rattle.query_orders.specs.declared.answer.WaitingCall.{WaitingCall}

-- how many calls each client has made, which of these wait, and the kernel after them
pub record World : Type 0 where
  pub made : List ℕ
  pub waits : List WaitingCall
  pub kernel : State

-- before any call; each client's own calls are a list
abbrev pub start : List (List Call) → State → World
start own A = record { made = replicate (length own) 0; waits = []; kernel = A }

-- a client's call at a place of its own list
abbrev pub call_of_client_at : List (List Call) → ℕ → ℕ → Option Call
call_of_client_at own client place = option_and_then (λ (calls : List Call). slice_get calls place) (slice_get own client)

-- the next call of a client, by how many calls each has made
abbrev pub next_client_call : List (List Call) → List ℕ → ℕ → Option Call
next_client_call own made client = option_and_then (call_of_client_at own client) (slice_get made client)

-- a thread that is ready makes calls, and no other: one that waits, is inactive or is not there runs no code
abbrev pub is_ready : Option ThreadState → Bool
is_ready None = false
is_ready (Some Ready) = true
is_ready (Some Inactive) = false
is_ready (Some (Sending endpoint)) = false
is_ready (Some (Receiving endpoint)) = false

-- a client can make its next call if it has one and that call's thread is ready
abbrev pub can_be_made : Shown → Option Call → Bool
can_be_made v None = false
can_be_made v (Some call) = is_ready (state_at v call.thread)

abbrev pub may_call : List (List Call) → World → ℕ → Bool
may_call own w client = can_be_made (shown w.kernel) (next_client_call own w.made client)

-- ---- one call more

abbrev pub one_more : ℕ → Option ℕ → List ℕ → List ℕ
one_more client None made = made
one_more client (Some n) made = slice_set made client (n + 1)

-- how many calls a client has made, which is the place of its next one
abbrev pub next_place : List ℕ → ℕ → ℕ
next_place made client = unwrap_or (slice_get made client) 0

abbrev pub is_waiting : Option ThreadState → Bool
is_waiting None = false
is_waiting (Some Ready) = false
is_waiting (Some Inactive) = false
is_waiting (Some (Sending endpoint)) = true
is_waiting (Some (Receiving endpoint)) = true

-- whether the thread of a call that waits is shown to wait
abbrev pub still_waits : Shown → WaitingCall → Bool
still_waits v call = is_waiting (state_at v call.thread)

-- whether a call is answered that it waits
abbrev pub is_wait : Reply → Bool
is_wait Done = false
is_wait (Delivered endpoint from to badge message) = false
is_wait Waiting = true
is_wait Dropped = false
is_wait Empty = false
is_wait (Refused refusal) = false

abbrev pub waiting_call : ℕ → ℕ → ℕ → WaitingCall
waiting_call thread client place = record { thread = thread; client = client; place = place }

-- the calls that wait, with one more; they stand in the order of their threads, so that it does not tell which came first
abbrev pub waits_with : List WaitingCall → WaitingCall → List WaitingCall
waits_with waits new = insert waits (unwrap_or (position (λ (call : WaitingCall). nat_lt new.thread call.thread) waits) (length waits)) new

-- the calls that wait after one more, with its reply and what is shown then: those whose threads still wait, and this one where it waits
abbrev pub waits_after : Shown → List WaitingCall → WaitingCall → Reply → List WaitingCall
waits_after v waits new reply = cond (is_wait reply) (waits_with (filter (still_waits v) waits) new) (filter (still_waits v) waits)

abbrev pub with_outcome : World → ℕ → Call → Outcome → World
with_outcome w client call outcome =
    record {
      made = one_more client (slice_get w.made client) w.made;
      waits = waits_after (shown outcome.state) w.waits (waiting_call call.thread client (next_place w.made client)) outcome.reply;
      kernel = outcome.state;
    }

abbrev pub with_call : ProfileName → World → ℕ → Option Call → World
with_call p w client None = w
with_call p w client (Some call) = with_outcome w client call (step p w.kernel call)

-- after the next call of a client
abbrev pub after_call : ProfileName → List (List Call) → World → ℕ → World
after_call p own w client = with_call p w client (next_client_call own w.made client)

-- after the next calls of clients in an order
abbrev pub world_after : ProfileName → List (List Call) → World → List ℕ → World
world_after p own w [] = w
world_after p own w (client ∷ order) = world_after p own (after_call p own w client) order
