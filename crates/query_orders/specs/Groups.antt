-- Which clients share a thread or an endpoint, and the groups that they form.
use Rattle.std.specs.Prelude.{◌≡◌, ◌≤◌, ◌<◌, ◌==◌, ◌||◌, ℕ, Bool, true, false, not, cond, min, List, [], ◌∷◌, ◌++◌, map, filter, length, take, drop, Option, None, Some, Result, Ok, Err, slice_get, unwrap_or}
use Rattle.std.specs.List.{flat_map, list_any}
use Rattle.cap_core.specs.declared.profile.ProfileName.{ProfileName}
use Rattle.cap_core.specs.Numbers.{word_bits}
use Rattle.cspace_core.specs.Bits.{low_bits}
use Rattle.kernel_forest.specs.Forest.{Forest}
use Rattle.kernel_forest.specs.Entries.{Entry, cap_at}
use Rattle.kernel_abstract.specs.declared.call.Call.{Call}
use Rattle.kernel_abstract.specs.declared.call.Op.{Op}
use Rattle.kernel_abstract.specs.declared.call.Op.TheVariants as op
use Rattle.kernel_abstract.specs.declared.call.ThreadState.{ThreadState}
use Rattle.kernel_abstract.specs.declared.call.ThreadState.TheVariants.{Sending, Receiving}
use Rattle.kernel_abstract.specs.declared.reason.Word.TheVariants.{Invoked}
use Rattle.kernel_abstract.specs.declared.reason.Held.{Held}
use Rattle.kernel_abstract.specs.declared.reason.Reason.{Reason}
use Rattle.kernel_abstract.specs.Reasons.{held_at}
use Rattle.kernel_abstract.specs.Decode.{service_word}
use Rattle.kernel_abstract.specs.Lookups.{walked, slot_by_word}
use Rattle.kernel_checks.specs.Laws.{ending}
use Rattle.kernel_abstract.specs.Shown.{Shown, tcb_base, endpoint_base, state_at}
use Rattle.kernel_abstract.specs.State.{shown}
use Rattle.query_orders.specs.declared.answer.WaitingCall.{WaitingCall}
use Rattle.query_orders.specs.declared.groups.objects.CallObject.{CallObject}
use Rattle.query_orders.specs.declared.groups.objects.CallObject.TheVariants.{Thread, Endpoint}
use Rattle.query_orders.specs.World.{World, next_place}
use Rattle.query_orders.specs.Orders.{numbers_below, clients}

-- ---- what calls touch

-- the operations that change no capability: those that send and receive, that suspend and resume a thread, and that cancel sends
abbrev pub keeps_capabilities : Op → Bool
keeps_capabilities (op.Send cap message) = true
keeps_capabilities (op.NbSend cap message) = true
keeps_capabilities (op.Recv cap) = true
keeps_capabilities (op.NbRecv cap) = true
keeps_capabilities (op.Suspend cap) = true
keeps_capabilities (op.Resume cap) = true
keeps_capabilities (op.CancelBadged cap index depth) = true
keeps_capabilities op = false

-- the endpoint whose capability is in the slot that was found
abbrev pub endpoint_found : Forest Entry → Result ℕ Reason → Option ℕ
endpoint_found f (Ok slot) = endpoint_base (cap_at f slot)
endpoint_found f (Err reason) = None

-- the endpoint that a call invokes, where its word leads to one
abbrev pub endpoint_invoked : ProfileName → Forest Entry → Call → Option ℕ
endpoint_invoked p f call = endpoint_found f (slot_by_word p f Invoked call.thread (service_word call.op))

-- where the lookup of an address's low bits, from a slot on, ends or fails
abbrev pub held_at_end : ProfileName → Forest Entry → ℕ → ℕ → ℕ → Held
held_at_end p f slot address bits = ending (cap_at f) (held_at (cap_at f) slot) (walked p (cap_at f) slot (low_bits bits address))

-- the endpoint in the slot that an index and a depth name from the CNode that a thread's word leads to
abbrev pub endpoint_by_index : ProfileName → Forest Entry → ℕ → ℕ → ℕ → ℕ → Option ℕ
endpoint_by_index p f thread word index depth =
    let node = (held_at_end p f thread word (word_bits p)).slot in
    endpoint_base (held_at_end p f node index (min depth (word_bits p))).cap

-- the endpoint on which an operation of a thread cancels sends, where its words lead to one
abbrev pub endpoint_cancelled : ProfileName → Forest Entry → ℕ → Op → Option ℕ
endpoint_cancelled p f thread (op.CancelBadged cap index depth) = endpoint_by_index p f thread cap index depth
endpoint_cancelled p f thread op = None

-- the operations that suspend or resume a thread
abbrev pub suspends_or_resumes : Op → Bool
suspends_or_resumes (op.Suspend cap) = true
suspends_or_resumes (op.Resume cap) = true
suspends_or_resumes op = false

-- the thread whose capability is in the slot that was found
abbrev pub thread_found : Forest Entry → Result ℕ Reason → Option ℕ
thread_found f (Ok slot) = tcb_base (cap_at f slot)
thread_found f (Err reason) = None

-- the thread that a call suspends or resumes, where its word leads to one
abbrev pub thread_invoked : ProfileName → Forest Entry → Call → Option ℕ
thread_invoked p f call =
    cond (suspends_or_resumes call.op) (thread_found f (slot_by_word p f Invoked call.thread (service_word call.op))) None

-- a thread that waits on an endpoint stands for the endpoint, where a call can serve it
abbrev pub object_in : Option ThreadState → ℕ → CallObject
object_in (Some (Sending endpoint)) thread = Endpoint endpoint
object_in (Some (Receiving endpoint)) thread = Endpoint endpoint
object_in state thread = Thread thread

-- what a thread stands for, as it is shown
abbrev pub object_of : Shown → ℕ → CallObject
object_of v thread = object_in (state_at v thread) thread

abbrev pub as_endpoint : Option ℕ → List CallObject
as_endpoint None = []
as_endpoint (Some endpoint) = Endpoint endpoint ∷ []

abbrev pub as_thread : Shown → Option ℕ → List CallObject
as_thread v None = []
as_thread v (Some thread) = object_of v thread ∷ []

-- what a call touches: its thread, the endpoint that it invokes or on which it cancels sends, and the thread that it suspends or
-- resumes
abbrev pub objects_of_call : ProfileName → Shown → Call → List CallObject
objects_of_call p v call =
    object_of v call.thread
    ∷ (as_endpoint (endpoint_invoked p v.derivations call)
    ++ (as_endpoint (endpoint_cancelled p v.derivations call.thread call.op)
    ++ as_thread v (thread_invoked p v.derivations call)))

-- ---- what clients touch

-- the calls that a client has left
abbrev pub calls_left : List (List Call) → List ℕ → ℕ → List Call
calls_left own made client = drop (next_place made client) (unwrap_or (slice_get own client) [])

-- what a client touches from a world on: by the calls that it has left, and by those that wait
abbrev pub objects_of_client : ProfileName → List (List Call) → World → ℕ → List CallObject
objects_of_client p own w client =
    flat_map (objects_of_call p (shown w.kernel)) (calls_left own w.made client)
    ++ map (λ (call : WaitingCall). object_of (shown w.kernel) call.thread) (filter (λ (call : WaitingCall). call.client == client) w.waits)

-- whether two are one thread, or one endpoint
abbrev pub is_same_object : CallObject → CallObject → Bool
is_same_object (Thread a) (Thread b) = a == b
is_same_object (Endpoint a) (Endpoint b) = a == b
is_same_object a b = false

-- whether some object is in both
abbrev pub share : List CallObject → List CallObject → Bool
share xs ys = list_any (λ x. list_any (is_same_object x) ys) xs

-- whether some call that is left may change a capability
abbrev pub capabilities_may_change : List (List Call) → List ℕ → Bool
capabilities_may_change own made = list_any (λ client. list_any (λ (call : Call). not (keeps_capabilities call.op)) (calls_left own made client)) (clients own)

-- two clients touch one object, or capabilities may change
abbrev pub is_together : ProfileName → List (List Call) → World → ℕ → ℕ → Bool
is_together p own w a b = capabilities_may_change own w.made || share (objects_of_client p own w a) (objects_of_client p own w b)

-- ---- groups

-- the group of a client, which is told by its first client
abbrev pub group_of_client : List ℕ → ℕ → ℕ
group_of_client groups client = unwrap_or (slice_get groups client) client

-- clients that are together are in one group; and the groups are the finest of which that holds
pub record AreGroups (p : ProfileName) (own : List (List Call)) (w : World) (groups : List ℕ) : Type 0 where
  pub each : length groups ≡ length own
  pub together : (a b : ℕ) → a < length own → b < length own → is_together p own w a b ≡ true → group_of_client groups a ≡ group_of_client groups b
  pub finest : (other : ℕ → ℕ) → ((a b : ℕ) → a < length own → b < length own → is_together p own w a b ≡ true → other a ≡ other b)
      → (a b : ℕ) → a < length own → b < length own → group_of_client groups a ≡ group_of_client groups b → other a ≡ other b
  pub first : (client : ℕ) → client < length own → (group_of_client groups client ≤ client) × (group_of_client groups (group_of_client groups client) ≡ group_of_client groups client)

-- whether a client is of the group that this client is the first of
abbrev pub is_client_in : List ℕ → ℕ → ℕ → Bool
is_client_in groups group client = group_of_client groups client == group

-- the first client of each group
abbrev pub first_of_groups : List ℕ → List ℕ
first_of_groups groups = filter (λ client. group_of_client groups client == client) (numbers_below (length groups))

-- the calls of one group's clients; of the other clients those that they have made
abbrev pub calls_left_in : List ℕ → (ℕ → Bool) → ℕ → List Call → List Call
calls_left_in made has client calls = cond (has client) calls (take (next_place made client) calls)

abbrev pub alone : List (List Call) → List ℕ → (ℕ → Bool) → List (List Call)
alone own made has = map (λ client. calls_left_in made has client (unwrap_or (slice_get own client) [])) (clients own)
