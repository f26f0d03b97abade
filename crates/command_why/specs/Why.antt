-- What is said of the calls of a set-up: of each refused one, or of one that is chosen; objects and slots as `texts` writes them.
use Rattle.std.specs.Prelude.{codes, ℕ, ◌+◌, ◌==◌, List, [], ◌∷◌, ◌++◌, length, Bool, true, false, if◌then◌else◌, Option, None, Some, is_some, option_map}
use Rattle.std.specs.List.{filter}
use Rattle.std.specs.Fmt.{decimal}
use Rattle.toml.specs.Data.{Members}
use Rattle.cap_core.specs.declared.profile.ProfileName.{ProfileName}
use Rattle.kernel_abstract.specs.declared.call.Reply.{Reply}
use Rattle.kernel_abstract.specs.declared.call.Reply.TheVariants.{Refused}
use Rattle.kernel_abstract.specs.Boot.{boot}
use Rattle.kernel_abstract.specs.Shown.{Shown}
use Rattle.kernel_abstract.specs.State.{State, shown}
use Rattle.kernel_abstract.specs.Step.{step}
use Rattle.setup_format.specs.Views.{SetupView, CallView}
use Rattle.setup_report.specs.Naming.{Texts}
use Rattle.setup_report.specs.Report.{terminated, call_text, met_count, expectation_count, count_line}
pub use Rattle.command_check.specs.Program.{replies_to}
use Rattle.kernel_abstract.specs.Decode.{reason_of}
use Rattle.command_why.specs.Text.{reason_line}
use Rattle.command_why.specs.Asked.{AskedView}
use Rattle.command_why.specs.Reasons.{reason_lines}
use Rattle.command_why.specs.Tables.{call_table}

-- the lines of the reason for which a call is refused, in what is shown before it; None if it is not refused
abbrev pub reason_lines_of : Texts → ProfileName → Shown → AskedView → Option (List ℕ)
reason_lines_of texts p v a = option_map (reason_lines texts p v a) (reason_of p v a.call)

-- the call that is chosen is explained, by its number from 1 on; if none is chosen, each that is refused
abbrev pub is_told : Option ℕ → ℕ → Option (List ℕ) → Bool
is_told None number why = is_some why
is_told (Some chosen) number why = chosen == number

abbrev pub why_lines : Option (List ℕ) → List ℕ
why_lines None = reason_line (codes "not refused")
why_lines (Some lines) = lines

-- the text of a call, and why it is refused, if it is explained
abbrev pub explained_lines : Option ℕ → ℕ → List ℕ → Option (List ℕ) → List ℕ
explained_lines chosen number text why = if is_told chosen number why then terminated text ++ why_lines why else codes ""

-- a call: the report's own line, and why it is refused
abbrev pub why_call_lines : Texts → Option ℕ → ℕ → CallView → Reply → Option (List ℕ) → List ℕ
why_call_lines texts chosen number call reply why = explained_lines chosen number (call_text texts number call.call reply call.expect) why

-- the calls of a set-up that its table spells, from the place `i` and from a state on
unfoldable pub calls_lines : Texts → ProfileName → Members → Option ℕ → ℕ → State → List CallView → List ℕ
calls_lines texts p table chosen i A [] = []
calls_lines texts p table chosen i A (call ∷ calls) =
    why_call_lines texts chosen (i + 1) call (step p A call.call).reply
    (reason_lines_of texts p (shown A) (record { call = call.call; table = call_table table i }))
    ++ calls_lines texts p table chosen (i + 1) (step p A call.call).state calls

-- ---- how many calls are refused

-- whether a reply is a refusal
abbrev pub is_refused : Reply → Bool
is_refused (Refused refusal) = true
is_refused reply = false

abbrev pub refused_count : List Reply → ℕ
refused_count replies = length (filter is_refused replies)

-- the last lines, if no call is chosen: of how many calls how many are refused, and the report's last line
abbrev pub why_ending : Option ℕ → ℕ → ℕ → ℕ → ℕ → List ℕ
why_ending (Some chosen) calls refused met expected = codes ""
why_ending None calls refused met expected =
    terminated (codes "refused " ++ (decimal refused ++ (codes " of " ++ decimal calls)))
    ++ count_line met expected

abbrev pub ending_of : Option ℕ → List CallView → List Reply → List ℕ
ending_of chosen calls replies =
    why_ending chosen (length calls) (refused_count replies) (met_count calls replies) (expectation_count calls replies)

-- all that is said of a set-up's calls, by the table that spells it
unfoldable pub why_of : Texts → ProfileName → Members → Option ℕ → SetupView → List ℕ
why_of texts p table chosen setup =
    calls_lines texts p table chosen 0 (boot p setup.plan) setup.calls ++ ending_of chosen setup.calls (replies_to p setup)
