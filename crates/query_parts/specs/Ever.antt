-- What holds of closed parts ever, whatever calls their threads make.
use Rattle.std.specs.Prelude.{◌≡◌, List}
use Rattle.std.specs.List.{AllByRecursion as Each}
use Rattle.cap_core.specs.declared.profile.ProfileName.{ProfileName}
use Rattle.kernel_abstract.specs.declared.call.Call.{Call}
use Rattle.kernel_abstract.specs.Shown.{Shown}
use Rattle.kernel_abstract.specs.State.{State, shown}
use Rattle.kernel_abstract.specs.Step.{state_after}
use Rattle.kernel_abstract.specs.Reached.{IsReached}
use Rattle.query_parts.specs.declared.listed.PartMemory.{PartMemory}
use Rattle.query_parts.specs.declared.listed.PartUse.{PartUse}
use Rattle.query_parts.specs.Listed.{parts_listed}
use Rattle.query_parts.specs.Laws.{AreClosed, IsAllowed, SendsOnly, ReceivesOnly}

-- after these calls all parts are closed, and what was sent and received on the way is what they may send and receive
pub record IsConfined (p : ProfileName) (memory : List PartMemory) (uses : List PartUse) (A : State) (calls : List Call) : Type 0 where
  pub closed : AreClosed p (parts_listed memory uses) (state_after p A calls)
  pub sends : SendsOnly p (parts_listed memory uses) A (state_after p A calls)
  pub receives : ReceivesOnly p (parts_listed memory uses) A (state_after p A calls)

-- parts are confined, by whatever calls of threads that lie in the parts, and messages of others, from each state that is shown
abbrev pub AreConfinedEver : ProfileName → List PartMemory → List PartUse → Shown → Type 0
AreConfinedEver p memory uses v =
    (A : State) → IsReached p A → v ≡ shown A → (calls : List Call) → Each (IsAllowed (parts_listed memory uses)) calls →
    IsConfined p memory uses A calls
