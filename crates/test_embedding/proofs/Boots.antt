-- A boot is a state that runs reach, and what is appended to no replies is all of them.
use Rattle.std.proofs.Common.{◌≡◌, List, [], ◌++◌, ◌∙◌, ap, refl}
use Rattle.cap_core.specs.declared.profile.ProfileName.{ProfileName}
use Rattle.kernel_abstract.specs.declared.call.Reply.{Reply}
use Rattle.kernel_abstract.specs.Plan.{Plan, IsPlan}
use Rattle.kernel_abstract.specs.Boot.{boot}
use Rattle.kernel_abstract.specs.Step.{state_after}
use Rattle.kernel_abstract.specs.Reached.{IsReached}

pub boot_reached : (p : ProfileName) (plan : Plan) → IsPlan p plan → IsReached p (boot p plan)
unfolding state_after
boot_reached p plan lawful = record { plan = plan; lawful = lawful; calls = []; is = refl }

pub appended_to_none : (all before more : List Reply) → all ≡ before ++ more → before ≡ [] → all ≡ more
appended_to_none all before more appended none = appended ∙ ap (λ (l : List Reply). l ++ more) none
