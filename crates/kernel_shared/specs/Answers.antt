-- The value of a query after a front.
use Rattle.std.specs.Prelude.{◌≡◌, List, length, slice_get}
use Rattle.cap_core.specs.declared.profile.ProfileName.{ProfileName}
use Rattle.kernel_forest.specs.Entries.{cap_at}
use Rattle.kernel_abstract.specs.State.{State, shown}
use Rattle.kernel_abstract.specs.Shown.{Shown, state_at, inbox_at}
use Rattle.kernel_abstract.specs.Step.{state_after}
use Rattle.kernel_abstract.specs.Waiting.{thread_waiting}
use Rattle.kernel_abstract.specs.Reached.{IsReached}
use Rattle.kernel_shared.specs.declared.entry.Entry.{Entry}
use Rattle.kernel_shared.specs.Laws.{entry_calls}
use Rattle.kernel_shared.specs.declared.query.Query.{Query}
use Rattle.kernel_shared.specs.declared.query.Query.TheVariants as q
use Rattle.kernel_shared.specs.declared.query.Answer.{Answer}
use Rattle.kernel_shared.specs.declared.query.Answer.TheVariants as a

-- what is read of what is shown
abbrev pub IsRead : Shown → Query → Answer → Type 0
IsRead v (q.State tcb) (a.State state) = state ≡ state_at v tcb
IsRead v (q.InboxOf tcb) (a.InboxOf inbox) = inbox ≡ inbox_at v tcb
IsRead v (q.CapAt slot) (a.CapAt cap) = cap ≡ cap_at v.derivations slot
IsRead v (q.WaitingAt endpoint place) (a.WaitingAt thread) = thread ≡ thread_waiting v endpoint place
IsRead v _ _ = ⊥

-- The number of the front's entries, the entry at a place of it, or what is shown of the state after its calls, from each
-- reached state that the opening stands for.
abbrev pub IsAnswer : ProfileName → Shown → List Entry → Query → Answer → Type 0
IsAnswer p opening front q.Length (a.Length entries) = entries ≡ length front
IsAnswer p opening front (q.Entry place) (a.Entry entry) = entry ≡ slice_get front place
IsAnswer p opening front query answer =
    (A : State) → IsReached p A → opening ≡ shown A → IsRead (shown (state_after p A (entry_calls front))) query answer
