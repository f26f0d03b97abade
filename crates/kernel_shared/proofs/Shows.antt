-- What a book's kernel shows.
use Rattle.std.proofs.Common.{◌≡◌, ℕ, List, Option, ap, ◌∙◌}
use Rattle.std.proofs.Props.{props}
use mathlib.Core.Logic.{∥∥₁_elim}
use Rattle.cap_core.specs.declared.profile.ProfileName.{ProfileName}
use Rattle.kernel_abstract.specs.declared.call.ThreadState.{ThreadState}
use Rattle.kernel_abstract.specs.declared.call.Inbox.{Inbox}
use Rattle.cap_core.specs.declared.capability.Cap.{Cap}
use Rattle.kernel_abstract.specs.State.{State, shown}
use Rattle.kernel_abstract.specs.Shown.{Shown}
use Rattle.kernel_abstract.specs.Step.{state_after}
use Rattle.kernel_abstract.specs.Reached.{IsReached}
use Rattle.kernel_shared.specs.declared.entry.Entry.{Entry}
use Rattle.kernel_shared.specs.Laws.{entry_calls, StandsAfter}

-- what is read of the kernel is read of each state that the history leads to
pub read_is : {X : Type 0} (set : (x y : X) → IsProp (x ≡ y)) (read : Shown → X) (p : ProfileName) (o k : Shown) (h : List Entry) (x : X) → ∥ StandsAfter p o h k ∥₁ → x ≡ read k
    → (A : State) → IsReached p A → o ≡ shown A → x ≡ read (shown (state_after p A (entry_calls h)))
read_is set read p o k h x b e A r is = ∥∥₁_elim b (set x (read (shown (state_after p A (entry_calls h))))) (λ b. e ∙ ap read (b.stands A r is))

pub state_set : (x y : Option ThreadState) → IsProp (x ≡ y)
state_set x y = hlevel props

pub inbox_set : (x y : Option Inbox) → IsProp (x ≡ y)
inbox_set x y = hlevel props

pub cap_set : (x y : Cap) → IsProp (x ≡ y)
cap_set x y = hlevel props

pub thread_set : (x y : Option ℕ) → IsProp (x ≡ y)
thread_set x y = hlevel props
