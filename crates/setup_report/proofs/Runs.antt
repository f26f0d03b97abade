-- The state behind the first calls of a set-up, and the replies to them.
use Rattle.std.proofs.Common.{◌≡◌, suc, List, [], ◌∷◌, length, refl, ap}
use Rattle.cap_core.specs.declared.profile.ProfileName.{ProfileName}
use Rattle.kernel_abstract.specs.declared.call.Call.{Call}
use Rattle.kernel_abstract.specs.Boot.{boot}
use Rattle.kernel_abstract.specs.Plan.{Plan, IsPlan}
use Rattle.kernel_abstract.specs.Reached.{IsReached}
use Rattle.kernel_abstract.specs.State.{State, shown}
use Rattle.kernel_abstract.specs.Step.{step, replies_of, state_after}

pub boot_reached : (p : ProfileName) (plan : Plan) → IsPlan p plan → IsReached p (boot p plan)
unfolding state_after
boot_reached p plan lawful = record { plan = plan; lawful = lawful; calls = []; is = refl }

pub derivations_shown : (A : State) → (shown A).derivations ≡ A.derivations
unfolding shown
derivations_shown A = refl

pub replies_length : (p : ProfileName) (A : State) (xs : List Call) → length (replies_of p A xs) ≡ length xs
unfolding replies_of
replies_length p A [] = refl
replies_length p A (x ∷ xs) = ap suc (replies_length p (step p A x).state xs)
