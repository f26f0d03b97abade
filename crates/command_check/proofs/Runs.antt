-- A run has as many replies as calls, and a text with its count is the program's.
use Rattle.std.specs.Prelude.{◌≡◌, ℕ, List, length, Option, Some, None, Result, Ok, Err}
use Rattle.std.proofs.Common.{ap, ap₂, ◌∙◌}
use Rattle.std.proofs.lemmas.List.{length-map}
use Rattle.cap_core.specs.declared.profile.ProfileName.{ProfileName}
use Rattle.kernel_abstract.specs.Boot.{boot}
use Rattle.setup_format.specs.Views.{SetupView, CallView}
use Rattle.setup_format.specs.Faults.{Fault}
use Rattle.setup_format.specs.Setups.{setup_of_bytes}
use Rattle.setup_report.specs.declared.calls.ExpectationCount.{ExpectationCount}
use Rattle.setup_report.proofs.Runs.{replies_length}
use Rattle.command_check.specs.Program.{HasCounts, IsTextOfSetup, program, outcome_in, outcome_of, replies_to, set_up_calls, verdict_in, verdict_of, verdict_on}
use Rattle.command_check.specs.declared.run.CountedText.{CountedText}

pub length_replies_to : (p : ProfileName) (setup : SetupView) → length (replies_to p setup) ≡ length setup.calls
unfolding replies_to
length_replies_to p setup =
    replies_length p (boot p setup.plan) (set_up_calls setup) ∙ length-map setup.calls (λ (c : CallView). c.call)

pub counted_verdict : (p : ProfileName) (setup : SetupView) (count : Option ExpectationCount) → HasCounts p setup count
    → verdict_in count ≡ verdict_of setup.calls (replies_to p setup)
counted_verdict p setup None has = absurd has
counted_verdict p setup (Some count) has = ap₂ verdict_on has.0 has.1

counted_outcome : (setup : Result SetupView Fault) (made : CountedText) → IsTextOfSetup setup made
    → (made.text.items, verdict_in made.count) ≡ outcome_in setup
unfolding outcome_of
counted_outcome (Ok setup) made is = ap₂ (λ t v. (t, v)) is.0 (counted_verdict setup.profile setup made.count is.1)
counted_outcome (Err fault) made is = ap₂ (λ t v. (t, v)) is.0 (ap verdict_in is.1)

pub counted_program : (bytes : List ℕ) (made : CountedText) → IsTextOfSetup (setup_of_bytes bytes) made
    → (made.text.items, verdict_in made.count) ≡ program bytes
unfolding program
counted_program bytes made is = counted_outcome (setup_of_bytes bytes) made is
