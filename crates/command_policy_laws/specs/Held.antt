-- What ways let pass between parts, and that nothing else is delivered, whatever calls threads make.
use Rattle.std.specs.Prelude.{◌≡◌, ⊤, ℕ, ◌==◌, ◌&&◌, ◌||◌, Bool, true, not, List, Some}
use Rattle.std.specs.List.{list_any, list_all, AllByRecursion as Each}
use Rattle.cap_core.specs.declared.profile.ProfileName.{ProfileName}
use Rattle.cap_core.specs.Rights.{write_bit}
use Rattle.ipc_core.specs.declared.waiter.Waiter.{Waiter}
use Rattle.ipc_core.specs.declared.waiter.Waiter.TheVariants.{Sender, Receiver}
use Rattle.kernel_abstract.specs.declared.call.Call.{Call}
use Rattle.kernel_abstract.specs.declared.call.Reply.{Reply}
use Rattle.kernel_abstract.specs.declared.call.Reply.TheVariants.{Delivered}
use Rattle.kernel_abstract.specs.Shown.{Shown, waiting_at}
use Rattle.kernel_abstract.specs.State.{State, shown}
use Rattle.kernel_abstract.specs.Step.{replies_of}
use Rattle.kernel_abstract.specs.Reached.{IsReached}
use Rattle.query_parts.specs.declared.listed.PartMemory.{PartMemory}
use Rattle.query_parts.specs.declared.listed.PartUse.{PartUse}
use Rattle.query_parts.specs.Parts.{Parts}
use Rattle.query_parts.specs.Listed.{part_at, parts_listed}
use Rattle.query_parts.specs.Laws.{IsAllowed}
use Rattle.command_parts.specs.declared.ways.Way.{Way}
use Rattle.command_parts.specs.Text.{is_part, is_use}
use Rattle.command_never.specs.Waits.{waits}
use Rattle.command_never.specs.Never.{has_bytes, may_receive_on, endpoints_met}

-- a way is from the one part to the other, by the endpoint, and with this badge, or with any where its badge is 0
abbrev pub is_way : ℕ → ℕ → ℕ → ℕ → Way → Bool
is_way i e badge j w = w.from == i && (w.endpoint == e && (w.to == j && (w.badge == 0 || w.badge == badge)))

abbrev pub lets : List Way → ℕ → ℕ → ℕ → ℕ → Bool
lets ways i e badge j = list_any (is_way i e badge j) ways

-- a use of part i to send to the endpoint has a badge that a way lets pass
abbrev pub use_let : List Way → ℕ → ℕ → ℕ → PartUse → Bool
use_let ways i e j u = not (is_use write_bit i e u) || lets ways i e u.badge.0 j

-- a thread of part i that waits to send has one
abbrev pub waiter_let : List Way → List PartMemory → ℕ → ℕ → ℕ → Waiter → Bool
waiter_let ways memory i e j (Sender thread badge message) = not (is_part i (part_at memory thread)) || lets ways i e badge.0 j
waiter_let ways memory i e j (Receiver thread) = true

-- all that part i may send to the endpoint a way lets pass: where it has bytes of it, any badge
abbrev pub are_sends_let : ProfileName → List PartMemory → List PartUse → Shown → List Way → ℕ → ℕ → ℕ → Bool
are_sends_let p memory uses v ways i j e =
    (not (has_bytes p memory i e) || lets ways i e 0 j)
    && (list_all (use_let ways i e j) uses && list_all (waiter_let ways memory i e j) (waiting_at v e))

-- part j may not receive on the endpoint, or so it is
abbrev pub is_passage_let : ProfileName → List PartMemory → List PartUse → Shown → List Way → ℕ → ℕ → ℕ → Bool
is_passage_let p memory uses v ways i j e =
    not (may_receive_on p memory uses (waits p v) j e) || are_sends_let p memory uses v ways i j e

-- each way from part i to part j by an endpoint that is met is one that a policy lets pass
abbrev pub are_passages_let : ProfileName → List PartMemory → List PartUse → Shown → List Way → ℕ → ℕ → Bool
are_passages_let p memory uses v ways i j = list_all (is_passage_let p memory uses v ways i j) (endpoints_met uses (waits p v))

-- a reply tells of no delivery from a thread of part i to a thread of part j, but by an endpoint and with a badge that a way lets pass
abbrev pub TellsLet : Parts → List Way → ℕ → ℕ → Reply → Type 0
TellsLet parts ways i j (Delivered endpoint from to badge message) =
    parts.part_of from ≡ Some i → parts.part_of to ≡ Some j → lets ways i endpoint badge.0 j ≡ true
TellsLet parts ways i j reply = ⊤

-- so it is from each state that is shown, for whatever calls of threads that lie in the parts
abbrev pub AreWaysHeldEver : ProfileName → List PartMemory → List PartUse → Shown → List Way → ℕ → ℕ → Type 0
AreWaysHeldEver p memory uses v ways i j =
    (A : State) → IsReached p A → v ≡ shown A → (calls : List Call) → Each (IsAllowed (parts_listed memory uses)) calls →
    Each (TellsLet (parts_listed memory uses) ways i j) (replies_of p A calls)
