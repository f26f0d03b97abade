-- The calls that were refused if nothing was expected, or answered otherwise than expected.
use Rattle.std.specs.Prelude.{codes, ℕ, ◌+◌, Bool, true, false, cond, List, [], ◌∷◌, ◌++◌, Option, Some, None}
use Rattle.std.specs.Fmt.{decimal}
use Rattle.kernel_abstract.specs.declared.call.Call.{Call}
use Rattle.kernel_abstract.specs.declared.call.Reply.{Reply}
use Rattle.kernel_abstract.specs.declared.call.Reply.TheVariants.{Done, Delivered, Waiting, Dropped, Empty, Refused}
use Rattle.setup_values.specs.Operations.{op_text}
use Rattle.setup_format.specs.Operations.{op_name}
use Rattle.setup_format.specs.Views.{CallView}
use Rattle.setup_report.specs.Text.{begins_as, reply_text}

abbrev pub is_refusal : Reply → Bool
is_refusal Done = false
is_refusal Waiting = false
is_refusal Dropped = false
is_refusal Empty = false
is_refusal (Refused refusal) = true
is_refusal (Delivered endpoint from to badge message) = false

abbrev pub refused_call_text : ℕ → Call → Reply → List ℕ
refused_call_text number call reply =
    codes "breach call " ++ (decimal number ++ (codes " " ++ (op_text (op_name call.op) ++ (codes ": " ++ reply_text reply))))

abbrev pub unmet_text : ℕ → Call → List ℕ → Reply → List ℕ
unmet_text number call expected reply = refused_call_text number call reply ++ (codes ", not met: " ++ expected)

abbrev pub refused : ℕ → Call → Reply → List (List ℕ)
refused number call reply = cond (is_refusal reply) (refused_call_text number call reply ∷ []) []

abbrev pub unmet : ℕ → Call → List ℕ → Reply → List (List ℕ)
unmet number call expected reply = cond (begins_as (reply_text reply) expected) [] (unmet_text number call expected reply ∷ [])

-- of a call with its number, and what it is expected to be answered
abbrev pub call_breach : ℕ → Call → Option (List ℕ) → Reply → List (List ℕ)
call_breach number call None reply = refused number call reply
call_breach number call (Some expected) reply = unmet number call expected reply

-- a line for each call, from one number on, that was refused if nothing was expected, or answered otherwise than expected
abbrev pub call_breaches : ℕ → List CallView → List Reply → List (List ℕ)
call_breaches number [] replies = []
call_breaches number (call ∷ calls) [] = []
call_breaches number (call ∷ calls) (reply ∷ replies) =
    call_breach number call.call call.expect reply ++ call_breaches (number + 1) calls replies
