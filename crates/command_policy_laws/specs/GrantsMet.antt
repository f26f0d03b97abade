-- By which endpoints one part could hand capabilities to another, where messages and answers carried them.
use Rattle.std.specs.Prelude.{◌≡◌, ⊤, ℕ, ◌&&◌, ◌||◌, Bool, true, false, List, Some}
use Rattle.std.specs.List.{list_any, AllByRecursion as Each}
use Rattle.cap_core.specs.declared.profile.ProfileName.{ProfileName}
use Rattle.cap_core.specs.declared.capability.Cap.{Cap}
use Rattle.cap_core.specs.declared.capability.Cap.TheVariants.{Endpoint}
use Rattle.cap_core.specs.Rights.{write_bit, read_bit, grant_bit, grant_reply_bit}
use Rattle.kernel_forest.specs.Entries.{cap_at}
use Rattle.kernel_abstract.specs.declared.call.Call.{Call}
use Rattle.kernel_abstract.specs.Decode.{has_right}
use Rattle.kernel_abstract.specs.Shown.{Shown}
use Rattle.kernel_abstract.specs.State.{State, shown}
use Rattle.kernel_abstract.specs.Step.{state_after}
use Rattle.kernel_abstract.specs.Reached.{IsReached}
use Rattle.query_parts.specs.declared.listed.PartMemory.{PartMemory}
use Rattle.query_parts.specs.declared.listed.PartUse.{PartUse}
use Rattle.query_parts.specs.Listed.{part_at, parts_listed}
use Rattle.query_parts.specs.Laws.{IsAllowed}
use Rattle.setup_report.specs.State.{is_in}
use Rattle.command_parts.specs.Text.{is_use}
use Rattle.command_never.specs.Waits.{waits}
use Rattle.command_never.specs.Never.{has_bytes, may_receive_on, endpoints_met}

-- a use with Write and Grant
abbrev pub is_giving : ℕ → ℕ → PartUse → Bool
is_giving i e u = is_use write_bit i e u && has_right grant_bit u.rights

-- the part could hand over capabilities by the endpoint: it has bytes of it, or such a use
abbrev pub may_give_by : ProfileName → List PartMemory → List PartUse → ℕ → ℕ → Bool
may_give_by p memory uses i e = has_bytes p memory i e || list_any (is_giving i e) uses

-- and part j may receive there
abbrev pub gives_to : ProfileName → List PartMemory → List PartUse → Shown → ℕ → ℕ → ℕ → Bool
gives_to p memory uses v i j e = may_give_by p memory uses i e && may_receive_on p memory uses (waits p v) j e

-- part i may hand a capability to part j by an endpoint that is met: the one may send with Grant, the other receive
abbrev pub are_given : ProfileName → List PartMemory → List PartUse → Shown → ℕ → ℕ → Bool
are_given p memory uses v i j = list_any (gives_to p memory uses v i j) (endpoints_met uses (waits p v))

-- a capability with Write and Grant is to no endpoint that is met and on which part j may receive
abbrev pub IsKeptIn : ProfileName → List PartMemory → List PartUse → Shown → ℕ → Cap → Type 0
IsKeptIn p memory uses v j (Endpoint base badge rights) =
    has_right write_bit rights ≡ true → has_right grant_bit rights ≡ true → is_in base (endpoints_met uses (waits p v)) ≡ true →
    may_receive_on p memory uses (waits p v) j base ≡ false
IsKeptIn p memory uses v j cap = ⊤

-- so it is of each slot of part i, from each state that is shown, after whatever calls of threads that lie in the parts
abbrev pub AreGrantsKeptEver : ProfileName → List PartMemory → List PartUse → Shown → ℕ → ℕ → Type 0
AreGrantsKeptEver p memory uses v i j =
    (A : State) → IsReached p A → v ≡ shown A → (calls : List Call) → Each (IsAllowed (parts_listed memory uses)) calls →
    (slot : ℕ) → part_at memory slot ≡ Some i → IsKeptIn p memory uses v j (cap_at (state_after p A calls).derivations slot)

-- ---- answers: who receives with Grant could hand capabilities to who calls, by Write with Grant or GrantReply

abbrev pub is_answering : ℕ → ℕ → PartUse → Bool
is_answering i e u = is_use read_bit i e u && has_right grant_bit u.rights

abbrev pub is_calling : ℕ → ℕ → PartUse → Bool
is_calling j e u = is_use write_bit j e u && (has_right grant_bit u.rights || has_right grant_reply_bit u.rights)

abbrev pub may_answer_by : ProfileName → List PartMemory → List PartUse → ℕ → ℕ → Bool
may_answer_by p memory uses i e = has_bytes p memory i e || list_any (is_answering i e) uses

abbrev pub may_call_by : ProfileName → List PartMemory → List PartUse → ℕ → ℕ → Bool
may_call_by p memory uses j e = has_bytes p memory j e || list_any (is_calling j e) uses

abbrev pub answers_to : ProfileName → List PartMemory → List PartUse → ℕ → ℕ → ℕ → Bool
answers_to p memory uses i j e = may_answer_by p memory uses i e && may_call_by p memory uses j e

-- part i may answer a call of part j by an endpoint that is met
abbrev pub are_answered : ProfileName → List PartMemory → List PartUse → Shown → ℕ → ℕ → Bool
are_answered p memory uses v i j = list_any (answers_to p memory uses i j) (endpoints_met uses (waits p v))

-- a capability with Read and Grant is to no endpoint that is met and by which part j may call
abbrev pub IsKeptFromCallers : ProfileName → List PartMemory → List PartUse → Shown → ℕ → Cap → Type 0
IsKeptFromCallers p memory uses v j (Endpoint base badge rights) =
    has_right read_bit rights ≡ true → has_right grant_bit rights ≡ true → is_in base (endpoints_met uses (waits p v)) ≡ true →
    may_call_by p memory uses j base ≡ false
IsKeptFromCallers p memory uses v j cap = ⊤

-- after any calls no slot of part i holds a capability by which part j could be answered
abbrev pub AreAnswersKeptEver : ProfileName → List PartMemory → List PartUse → Shown → ℕ → ℕ → Type 0
AreAnswersKeptEver p memory uses v i j =
    (A : State) → IsReached p A → v ≡ shown A → (calls : List Call) → Each (IsAllowed (parts_listed memory uses)) calls →
    (slot : ℕ) → part_at memory slot ≡ Some i → IsKeptFromCallers p memory uses v j (cap_at (state_after p A calls).derivations slot)
