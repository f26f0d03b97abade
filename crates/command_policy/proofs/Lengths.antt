-- No more calls are made than there are, and so no more replies are told.
use Rattle.std.proofs.Common.{◌≡◌, ◌≤◌, ℕ, min, Bool, true, false, cond, nat_le, List, map, take, length, Option, Some, None, refl, sym, subst, ◌∙◌, arith}
use Rattle.std.proofs.lemmas.List.{length-take, length-map}
use Rattle.std.proofs.lemmas.Bool.{leb-true}
use Rattle.std.proofs.lemmas.Option.{none-some, same_Some}
use Rattle.cap_core.specs.declared.profile.ProfileName.{ProfileName}
use Rattle.kernel_abstract.specs.Boot.{boot}
use Rattle.setup_format.specs.Views.{SetupView, CallView}
use Rattle.setup_report.proofs.Runs.{replies_length}
use Rattle.setup_report.specs.Behind.{calls_made, replies_behind}

pub replies_fit : (p : ProfileName) (setup : SetupView) (made : ℕ) → length (replies_behind p setup made) ≤ length setup.calls
replies_fit p setup made =
    let calls = map (λ (c : CallView). c.call) setup.calls in
    let many : length (replies_behind p setup made) ≡ min made (length calls) =
    replies_length p (boot p setup.plan) (take made calls) ∙ length-take made calls in
    let all : length calls ≡ length setup.calls = length-map setup.calls (λ (c : CallView). c.call) in
    omega (arith, many, all)

met_by : (b : Bool) (count made : ℕ) → cond b (Some count) None ≡ Some made → (b ≡ true) × (count ≡ made)
met_by true count made e = (refl, same_Some count made e)
met_by false count made e = absurd (none-some made e)

-- no more calls are made than there are
pub made_fits : (setup : SetupView) (asked : Option ℕ) (made : ℕ) → calls_made setup asked ≡ Some made → made ≤ length setup.calls
made_fits setup None made e = subst (λ (m : ℕ). m ≤ length setup.calls) (same_Some (length setup.calls) made e) (omega arith)
made_fits setup (Some count) made e =
    let met = met_by (nat_le count (length setup.calls)) count made e in
    subst (λ (m : ℕ). m ≤ length setup.calls) met.1 (leb-true count (length setup.calls) met.0)
