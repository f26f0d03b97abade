-- What standard error says about a run.
use Rattle.std.specs.Prelude.{ℕ, ◌+◌, ◌||◌, cond, List, [], ◌∷◌, ◌++◌, map, Option, None, Some, Result, Ok, Err}
use Rattle.kernel_abstract.specs.declared.call.Reply.{Reply}
use Rattle.kernel_abstract.specs.declared.call.Reply.TheVariants.{Refused}
use Rattle.setup_format.specs.Expectations.{asks}
use Rattle.setup_format.specs.Faults.{Fault}
use Rattle.setup_format.specs.Views.{SetupView, CallView}
use Rattle.setup_report.specs.Text.{begins_as, reply_text}
use Rattle.command_core.specs.declared.answer.CallNote.{CallNote}
use Rattle.command_check.specs.Program.{replies_to}

-- the number of a call that is refused and of which nothing was expected
abbrev pub unexpected_at : ℕ → Option (List ℕ) → Reply → List ℕ
unexpected_at number None (Refused refusal) = number ∷ []
unexpected_at number expected reply = []

-- the numbers of the calls that are refused and expect nothing, if the first call has this number
abbrev pub unexpected_from : ℕ → List CallView → List Reply → List ℕ
unexpected_from number [] replies = []
unexpected_from number (call ∷ calls) [] = []
unexpected_from number (call ∷ calls) (reply ∷ replies) =
    unexpected_at number call.expect reply ++ unexpected_from (number + 1) calls replies

-- the numbers of such calls in the run of a set-up, in the profile that it names
abbrev pub unexpected_in : Result SetupView Fault → List ℕ
unexpected_in (Ok setup) = unexpected_from 1 setup.calls (replies_to setup.profile setup)
unexpected_in (Err fault) = []

-- the number of a call whose reply is not the expected one; an expectation that asks is not counted
abbrev pub unmet_at : ℕ → Option (List ℕ) → Reply → List ℕ
unmet_at number None reply = []
unmet_at number (Some expected) reply = cond (asks expected || begins_as (reply_text reply) expected) [] (number ∷ [])

-- the numbers of the calls of some notes
abbrev pub noted : List CallNote → List ℕ
noted notes = map (λ (note : CallNote). note.call) notes
