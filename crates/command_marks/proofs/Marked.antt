-- Whether an expectation is met, by what the report counts of it.
use Rattle.std.proofs.Common.{◌≡◌, ℕ, ◌==◌, List, Bool, true, false, if◌then◌else◌, Some, refl}
use Rattle.setup_report.specs.Report.{one_met}
use Rattle.setup_report.specs.Text.{begins_as}

counts : (met : ℕ) (b : Bool) → met ≡ (if b then 1 else 0) → (met == 1) ≡ b
counts met true is = rw is refl
counts met false is = rw is refl

pub met_is : (expected reply : List ℕ) (met : ℕ) → met ≡ one_met (Some expected) reply → (met == 1) ≡ begins_as reply expected
met_is expected reply met is = counts met (begins_as reply expected) is
