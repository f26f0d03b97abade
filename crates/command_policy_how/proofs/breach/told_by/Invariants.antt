-- None of the breaches before a place has the line.
use Rattle.std.proofs.Common.{◌≡◌, ℕ, ◌<◌, Some}
use Rattle.std.specs.Prelude.{slice_get}
use Rattle.command_policy_text.specs.Told.{line_told}
use Rattle.command_policy_text.specs.declared.told.Told.{Told}
use Rattle.command_policy_how.proofs.breach.told_by.Given as goal

abbrev pub invariant-loop-told : goal.invariant-loop-told
invariant-loop-told l =
    (k : ℕ) → k < l.told-index → (other : Told) → slice_get l.breaches k ≡ Some other
    → l.line ≡ line_told l.held.policy.now l.held.layout.now l.held.labels.now l.held.homes.now other → ⊥
