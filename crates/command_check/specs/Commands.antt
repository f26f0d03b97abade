-- What is written of a set-up that was read: the answer of a command, or the line by which it is refused.
use Rattle.std.specs.Prelude.{◌≡◌, ℕ, List, [], Option, Some, None, Result, Ok, Err}
use Rattle.cap_core.specs.declared.profile.ProfileName.{ProfileName}
use Rattle.kernel_abstract.specs.State.{State}
use Rattle.setup_values.specs.Names.{Names}
use Rattle.setup_format.specs.Views.{SetupView, ReadView}
use Rattle.setup_format.specs.Faults.{Fault}
use Rattle.setup_format.specs.Setups.{read_of_bytes}
use Rattle.setup_format.specs.Refusal.{refusal_line}
use Rattle.setup_report.specs.Behind.{state_behind, calls_made}
use Rattle.command_core.specs.declared.fault.Verdict.{Verdict}
use Rattle.command_core.specs.declared.fault.Verdict.TheVariants.{AllMet, Refused, Absent}

-- ---- of a set-up

-- the answer if there is a text; nothing, if the set-up does not have what is asked for
abbrev pub text_or_absent : Option (List ℕ) → List ℕ × Verdict
text_or_absent None = ([], Absent)
text_or_absent (Some text) = (text, AllMet)

abbrev pub IsSetUpAnswer : (ProfileName → ReadView → List ℕ → Verdict → Type 0) → Result ReadView Fault → List ℕ → Verdict → Type 0
IsSetUpAnswer answers (Ok read) text verdict = answers read.setup.profile read text verdict
IsSetUpAnswer answers (Err fault) text verdict = (text ≡ refusal_line fault) × (verdict ≡ Refused)

-- the answer about the set-up that the bytes are, in the profile that it names, or the line of its refusal
abbrev pub IsAnswerTo : (ProfileName → ReadView → List ℕ → Verdict → Type 0) → List ℕ → List ℕ → Verdict → Type 0
IsAnswerTo answers bytes text verdict = IsSetUpAnswer answers (read_of_bytes bytes) text verdict

-- ---- of the state after the first calls of a set-up

abbrev pub IsAnswerAfter : (ℕ → State → List ℕ → Verdict → Type 0) → ProfileName → SetupView → Option ℕ → List ℕ → Verdict → Type 0
IsAnswerAfter answers p setup None text verdict = (text ≡ []) × (verdict ≡ Absent)
IsAnswerAfter answers p setup (Some made) text verdict = answers made (state_behind p setup made) text verdict

-- the answer by the state after so many calls, all if no number is given; nothing, if the set-up has fewer
abbrev pub IsStateAnswer : (ProfileName → Names → SetupView → ℕ → State → List ℕ → Verdict → Type 0) → Option ℕ
    → ProfileName → ReadView → List ℕ → Verdict → Type 0
IsStateAnswer answers after p read text verdict =
    IsAnswerAfter (answers p read.names read.setup) p read.setup (calls_made read.setup after) text verdict
