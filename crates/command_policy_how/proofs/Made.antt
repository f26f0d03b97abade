-- No more calls are made than there are.
use Rattle.std.proofs.Common.{◌≡◌, ◌≤◌, ℕ, Bool, true, false, cond, nat_le, Option, Some, None, length, refl, subst, arith}
use Rattle.std.proofs.lemmas.Bool.Decides.{nat_tests}
use Rattle.std.specs.Prelude.{unwrap_or}
use Rattle.setup_format.specs.Views.{SetupView}
use Rattle.setup_report.specs.Behind.{calls_made}

pub made_fits : (setup : SetupView) (o : Option ℕ) (made : ℕ) → calls_made setup o ≡ Some made → made ≤ length setup.calls
made_fits setup None made is = subst (λ (o : Option ℕ). unwrap_or o 0 ≤ length setup.calls) is (omega arith)
made_fits setup (Some count) made is = by (nat_le count (length setup.calls)) refl is
  where
    by : (b : Bool) → nat_le count (length setup.calls) ≡ b → cond b (Some count) None ≡ Some made → made ≤ length setup.calls
    by true fits so = subst (λ (o : Option ℕ). unwrap_or o 0 ≤ length setup.calls) so (grind (arith, nat_tests, fits))
    by false fits so = absurd (let w : None ≡ Some made = so in cc)
