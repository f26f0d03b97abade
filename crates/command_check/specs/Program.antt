-- What the program writes for the bytes that it reads, and its verdict.
use Rattle.std.specs.Prelude.{◌≡◌, ℕ, ◌==◌, cond, Bool, true, List, map, Option, Some, None, Result, Ok, Err}
use Rattle.cap_core.specs.declared.profile.ProfileName.{ProfileName}
use Rattle.kernel_abstract.specs.declared.call.Call.{Call}
use Rattle.kernel_abstract.specs.declared.call.Reply.{Reply}
use Rattle.kernel_abstract.specs.Boot.{boot}
use Rattle.kernel_abstract.specs.State.{State, shown}
use Rattle.kernel_abstract.specs.Step.{replies_of, state_after}
use Rattle.setup_values.specs.Names.{Names}
use Rattle.setup_format.specs.Views.{SetupView, CallView}
use Rattle.setup_format.specs.Faults.{Fault}
use Rattle.setup_format.specs.Setups.{setup_of_bytes}
use Rattle.setup_format.specs.Refusal.{refusal_line}
use Rattle.setup_report.specs.Naming.{Texts, plain, report_texts}
use Rattle.setup_report.specs.Report.{report_of, report_told, met_count, expectation_count}
use Rattle.setup_report.specs.declared.calls.ExpectationCount.{ExpectationCount}
use Rattle.command_check.specs.declared.run.CountedText.{CountedText}
use Rattle.command_core.specs.declared.fault.Verdict.{Verdict}
use Rattle.command_core.specs.declared.fault.Verdict.TheVariants.{AllMet, NotMet, Refused}

-- the calls of a set-up, in order
abbrev pub set_up_calls : SetupView → List Call
set_up_calls setup = map (λ (c : CallView). c.call) setup.calls

-- what the abstract kernel answers to the calls of a set-up, from its boot on
unfoldable pub replies_to : ProfileName → SetupView → List Reply
replies_to p setup = replies_of p (boot p setup.plan) (set_up_calls setup)

-- the state of the abstract kernel after the calls of a set-up
unfoldable pub end_state : ProfileName → SetupView → State
end_state p setup = state_after p (boot p setup.plan) (set_up_calls setup)

-- all expectations are met, or one is not
abbrev pub verdict_on : ℕ → ℕ → Verdict
verdict_on met expected = cond (met == expected) AllMet NotMet

abbrev pub verdict_of : List CallView → List Reply → Verdict
verdict_of calls replies = verdict_on (met_count calls replies) (expectation_count calls replies)

-- the report of a set-up's run, and its verdict
unfoldable pub outcome_of : ProfileName → SetupView → List ℕ × Verdict
outcome_of p setup =
    (report_of p setup.calls (replies_to p setup) (shown (end_state p setup)), verdict_of setup.calls (replies_to p setup))

abbrev pub outcome_in : Result SetupView Fault → List ℕ × Verdict
outcome_in (Ok setup) = outcome_of setup.profile setup
outcome_in (Err fault) = (refusal_line fault, Refused)

-- what is written about a run: the report, and how many of the expectations are met
abbrev pub HasCounts : ProfileName → SetupView → Option ExpectationCount → Type 0
HasCounts p setup None = ⊥
HasCounts p setup (Some count) =
    (count.met ≡ met_count setup.calls (replies_to p setup)) × (count.expected ≡ expectation_count setup.calls (replies_to p setup))

-- what is written of a run, with objects and slots as `texts` writes them, and these counts
abbrev pub IsTextTold : Texts → ProfileName → SetupView → CountedText → Type 0
IsTextTold texts p setup made =
    (made.text.items ≡ report_told texts p setup.calls (replies_to p setup) (shown (end_state p setup))) × HasCounts p setup made.count

-- the same by addresses
abbrev pub IsTextIn : ProfileName → SetupView → CountedText → Type 0
IsTextIn p setup made = IsTextTold plain p setup made

-- the texts of a set-up's report: addresses, or the names of its objects in the state after its calls
abbrev pub texts_after : Bool → ProfileName → Names → SetupView → Texts
texts_after by_name p names setup = report_texts by_name p names setup.plan (shown (end_state p setup))

-- the report of a set-up's run by the names of its objects
abbrev pub named_report : ProfileName → Names → SetupView → List ℕ
named_report p names setup =
    report_told (texts_after true p names setup) p setup.calls (replies_to p setup) (shown (end_state p setup))

-- what is written of a set-up: that of its run in the profile that it names, or the line by which it is refused, with no count
abbrev pub IsTextOfSetup : Result SetupView Fault → CountedText → Type 0
IsTextOfSetup (Ok setup) made = IsTextIn setup.profile setup made
IsTextOfSetup (Err fault) made = (made.text.items ≡ refusal_line fault) × (made.count ≡ None)

-- the verdict by the count, if there is one
abbrev pub verdict_in : Option ExpectationCount → Verdict
verdict_in None = Refused
verdict_in (Some count) = verdict_on count.met count.expected

-- the report of the set-up that the bytes are, in the profile that it names, or the line by which it is refused
unfoldable pub program : List ℕ → List ℕ × Verdict
program bytes = outcome_in (setup_of_bytes bytes)
