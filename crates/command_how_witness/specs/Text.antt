-- A text that is a witness: what it is read as.
use Rattle.std.specs.Prelude.{◌≡◌, ◌≤◌, ℕ, nat_le, Bool, cond, List, map, take, drop, length, slice_get, Ok, Option, Some, None}
use Rattle.cap_core.specs.declared.profile.ProfileName.{ProfileName}
use Rattle.kernel_abstract.specs.declared.call.Call.{Call}
use Rattle.kernel_abstract.specs.declared.call.Reply.{Reply}
use Rattle.kernel_abstract.specs.Boot.{boot}
use Rattle.kernel_abstract.specs.Step.{replies_of}
use Rattle.setup_format.specs.Views.{SetupView, CallView}
use Rattle.setup_format.specs.Setups.{setup_of_bytes}
use Rattle.setup_report.specs.Behind.{state_behind}
use Rattle.setup_report.specs.Report.{met_count, expectation_count}
use Rattle.setup_report.specs.Text.{reply_text}
use Rattle.command_how_witness.specs.Witness.{Asking, IsShown}

abbrev pub witness_calls : SetupView → List Call
witness_calls setup = map (λ (c : CallView). c.call) setup.calls

abbrev pub first_witness_calls : ℕ → SetupView → List Call
first_witness_calls made setup = take made (witness_calls setup)

abbrev pub later_calls : ℕ → SetupView → List Call
later_calls made setup = drop made (witness_calls setup)

abbrev pub witness_replies : ProfileName → SetupView → List Reply
witness_replies p setup = replies_of p (boot p setup.plan) (witness_calls setup)

-- a set-up has the machine, the boot and the first calls of another
pub record BeginsAs (setup other : SetupView) (made : ℕ) : Type 0 where
  pub count : made ≤ length setup.calls
  pub profile : setup.profile ≡ other.profile
  pub plan : setup.plan ≡ other.plan
  pub calls : first_witness_calls made setup ≡ first_witness_calls made other

-- a call after the first ones expects the whole text of its reply, and a first one nothing
abbrev pub later_expectation : Bool → Reply → Option (List ℕ)
later_expectation is_later reply = cond is_later (Some (reply_text reply)) None

-- so does each call of a set-up, with these replies
abbrev pub ExpectLater : ℕ → SetupView → List Reply → Type 0
ExpectLater made setup replies =
    (i : ℕ) (call : CallView) (reply : Reply) → slice_get setup.calls i ≡ Some call → slice_get replies i ≡ Some reply
    → call.expect ≡ later_expectation (nat_le made i) reply

-- all that its calls expect is met
abbrev pub AreMet : ProfileName → SetupView → Type 0
AreMet p setup = met_count setup.calls (witness_replies p setup) ≡ expectation_count setup.calls (witness_replies p setup)

-- a set-up goes on where another stands after so many calls; from there its calls show what is asked, and it meets all that it expects
pub record IsWitness (p : ProfileName) (q : Asking) (other : SetupView) (made : ℕ) (setup : SetupView) : Type 0 where
  pub begins : BeginsAs setup other made
  pub expects : ExpectLater made setup (witness_replies p setup)
  pub shows : IsShown p q (state_behind p other made) (later_calls made setup)
  pub met : AreMet p setup

-- a text is read as such a set-up
abbrev pub IsWitnessText : ProfileName → Asking → SetupView → ℕ → List ℕ → Type 0
IsWitnessText p q other made text = (setup : SetupView) × ((setup_of_bytes text ≡ Ok setup) × IsWitness p q other made setup)
