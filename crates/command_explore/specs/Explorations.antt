-- What the program writes of every order of the calls that the clients of a set-up make, and its verdict.
use Rattle.std.specs.Prelude.{◌≡◌, ℕ, Bool, cond, List}
use Rattle.cap_core.specs.declared.profile.ProfileName.{ProfileName}
use Rattle.setup_values.specs.Names.{Names}
use Rattle.setup_format.specs.Views.{SetupView, ReadView}
use Rattle.command_explore.specs.Report.{explored_report}
use Rattle.command_explore.specs.Groups.{IsGroupsReport}
use Rattle.command_core.specs.declared.fault.Verdict.{Verdict}
use Rattle.command_core.specs.declared.fault.Verdict.TheVariants.{AllMet, NotMet}

abbrev pub explore_verdict : Bool → Verdict
explore_verdict well = cond well AllMet NotMet

abbrev pub with_verdict : List ℕ × Bool → List ℕ × Verdict
with_verdict report = (report.0, explore_verdict report.1)

-- the report on a set-up, by addresses or by names, with the verdict
unfoldable pub explored_in : Bool → ProfileName → Names → ℕ → ℕ → SetupView → List ℕ × Verdict
explored_in by_name p names first states setup = with_verdict (explored_report by_name p names setup first states)

-- a text and a verdict are the report on every order of a set-up's calls; if `by_name` says so, threads and endpoints are written
-- by their names
abbrev pub IsExploration : ℕ → ℕ → Bool → ProfileName → ReadView → List ℕ → Verdict → Type 0
IsExploration first states by_name p read text verdict = (text, verdict) ≡ explored_in by_name p read.names first states read.setup

-- a text and a verdict are the report on the groups of a set-up's clients, by addresses or by names
abbrev pub IsGroupsAnswer : Bool → ProfileName → Names → ℕ → ℕ → SetupView → List ℕ → Verdict → Type 0
IsGroupsAnswer by_name p names first states setup text verdict =
    (well : Bool) × IsGroupsReport by_name p names setup first states (text, well) × (verdict ≡ explore_verdict well)

-- the same of a set-up that was read
abbrev pub IsGroupsExploration : ℕ → ℕ → Bool → ProfileName → ReadView → List ℕ → Verdict → Type 0
IsGroupsExploration first states by_name p read text verdict = IsGroupsAnswer by_name p read.names first states read.setup text verdict
