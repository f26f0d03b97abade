-- What a thread that does not reach a capability cannot do.
use Rattle.std.specs.Prelude.{◌≡◌, ◌≢◌, ℕ, Bool, true, false, ◌==◌, ◌&&◌, ◌^◌, ◌<◌, Ok, List}
use Rattle.std.specs.List.{AllByRecursion as Each}
use Rattle.cap_core.specs.declared.profile.ProfileName.{ProfileName}
use Rattle.cap_core.specs.declared.capability.Cap.{Cap}
use Rattle.cap_core.specs.declared.capability.Cap.TheVariants.{Null, Endpoint}
use Rattle.cap_core.specs.declared.message.Message.{Message}
use Rattle.cap_core.specs.declared.refusal.Refusal.{Refusal}
use Rattle.cap_core.specs.Numbers.{word_bits}
use Rattle.cap_core.specs.Rights.{write_bit, read_bit}
use Rattle.kernel_forest.specs.Forest.{Forest}
use Rattle.kernel_forest.specs.Entries.{Entry, cap_at}
use Rattle.kernel_abstract.specs.declared.call.Op.{Op}
use Rattle.kernel_abstract.specs.declared.call.Op.TheVariants.{Send, NbSend, Recv, NbRecv}
use Rattle.kernel_abstract.specs.declared.call.Reply.TheVariants.{Refused}
use Rattle.kernel_abstract.specs.declared.invocation.Service.{Service}
use Rattle.kernel_abstract.specs.declared.invocation.Invocation.TheVariants as invocation
use Rattle.kernel_abstract.specs.Decode.{has_right, decoded_op}
use Rattle.kernel_abstract.specs.declared.call.Call.{Call}
use Rattle.kernel_abstract.specs.State.{State}
use Rattle.kernel_abstract.specs.Step.{step, state_after}
use Rattle.query_reach.specs.Reaching.{Reaches}

-- an endpoint capability with a right; the same, of one endpoint
abbrev pub endpoint_allows : ℕ → Cap → Bool
endpoint_allows right (Endpoint base badge rights) = has_right right rights
endpoint_allows right cap = false

abbrev pub allows_to : ℕ → ℕ → Cap → Bool
allows_to right e (Endpoint base badge rights) = base == e && has_right right rights
allows_to right e cap = false

-- no word of a thread leads to a capability that passes a test
abbrev pub ReachesNo : ProfileName → Forest Entry → ℕ → (Cap → Bool) → Type 0
ReachesNo p f thread test =
    (word slot : ℕ) → word < 2 ^ word_bits p → Reaches p f thread word slot → test (cap_at f slot) ≡ false

-- a thread's operation is answered a refusal
abbrev pub IsRefused : ProfileName → State → ℕ → Op → Type 0
IsRefused p A thread op = (refusal : Refusal) × ((step p A (record { thread = thread; op = op })).reply ≡ Refused refusal)

-- a thread that reaches no endpoint capability with Write is refused every send, by whatever word
abbrev pub IsRefusedSends : ProfileName → State → ℕ → Type 0
IsRefusedSends p A thread = ReachesNo p A.derivations thread (endpoint_allows write_bit) →
    (word : ℕ) (message : Message) → IsRefused p A thread (Send word message) × IsRefused p A thread (NbSend word message)

-- one that reaches none with Read is refused every receive
abbrev pub IsRefusedReceives : ProfileName → State → ℕ → Type 0
IsRefusedReceives p A thread = ReachesNo p A.derivations thread (endpoint_allows read_bit) →
    (word : ℕ) → IsRefused p A thread (Recv word) × IsRefused p A thread (NbRecv word)

-- of one endpoint: a thread that reaches no capability of it with Write has no send accepted that is one to it, and so for
-- receives and Read
abbrev pub SendsElsewhere : ProfileName → Forest Entry → ℕ → ℕ → Type 0
SendsElsewhere p f thread e = ReachesNo p f thread (allows_to write_bit e) →
    (word : ℕ) (message : Message) (service : Service) →
    (decoded_op p f thread (Send word message) ≡ Ok (invocation.Send service message true) → service.endpoint ≢ e)
    × (decoded_op p f thread (NbSend word message) ≡ Ok (invocation.Send service message false) → service.endpoint ≢ e)

-- a thread that can name no capability to receive on an endpoint receives on no such endpoint
abbrev pub ReceivesElsewhere : ProfileName → Forest Entry → ℕ → ℕ → Type 0
ReceivesElsewhere p f thread e = ReachesNo p f thread (allows_to read_bit e) →
    (word : ℕ) (service : Service) →
    (decoded_op p f thread (Recv word) ≡ Ok (invocation.Receive service true) → service.endpoint ≢ e)
    × (decoded_op p f thread (NbRecv word) ≡ Ok (invocation.Receive service false) → service.endpoint ≢ e)

-- a capability to a region, a CNode or a thread
abbrev pub is_no_endpoint : Cap → Bool
is_no_endpoint Null = false
is_no_endpoint (Endpoint base badge rights) = false
is_no_endpoint cap = true

-- calls of threads that reach no capability but endpoints' leave each slot as it is
abbrev pub LeaveAllSlots : ProfileName → State → List Call → Type 0
LeaveAllSlots p A calls =
    Each (λ (call : Call). ReachesNo p A.derivations call.thread is_no_endpoint) calls → (state_after p A calls).derivations ≡ A.derivations
