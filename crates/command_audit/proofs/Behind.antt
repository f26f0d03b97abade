-- The state behind the first calls of a lawful set-up is reached.
use Rattle.std.proofs.Common.{ℕ, refl}
use Rattle.cap_core.specs.declared.profile.ProfileName.{ProfileName}
use Rattle.kernel_abstract.specs.Plan.{IsPlan}
use Rattle.kernel_abstract.specs.Reached.{IsReached}
use Rattle.setup_format.specs.Views.{SetupView}
use Rattle.setup_report.specs.Behind.{first_calls, state_behind}

pub behind_reached : (p : ProfileName) (setup : SetupView) (made : ℕ) → IsPlan p setup.plan → IsReached p (state_behind p setup made)
behind_reached p setup made lawful = record { plan = setup.plan; lawful = lawful; calls = first_calls setup made; is = refl }
