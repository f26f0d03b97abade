-- The states that runs reach, and what a step gives.
use Rattle.std.specs.Prelude.{◌≡◌, List}
use Rattle.cap_core.specs.declared.profile.ProfileName.{ProfileName}
use Rattle.kernel_abstract.specs.declared.call.Call.{Call}
use Rattle.kernel_abstract.specs.declared.call.Reply.{Reply}
use Rattle.kernel_abstract.specs.Plan.{Plan, IsPlan}
use Rattle.kernel_abstract.specs.Shown.{Shown}
use Rattle.kernel_abstract.specs.State.{State, shown}
use Rattle.kernel_abstract.specs.Step.{step, state_after}
use Rattle.kernel_abstract.specs.Boot.{boot}

-- some run from the boot of some lawful plan gives this state
pub record IsReached (p : ProfileName) (A : State) : Type 0 where
  pub plan : Plan
  pub lawful : IsPlan p plan
  pub calls : List Call
  pub is : A ≡ state_after p (boot p plan) calls

-- the reply is the step's, and what is shown is its state
pub record StepsTo (p : ProfileName) (A : State) (call : Call) (reply : Reply) (new : Shown) : Type 0 where
  pub reply_is : reply ≡ (step p A call).reply
  pub shows : new ≡ shown (step p A call).state
