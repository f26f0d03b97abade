-- What the law of a trace says: the report within it.
use Rattle.std.specs.Prelude.{ℕ, ◌+◌, Bool, List, [], ◌∷◌, ◌++◌}
use Rattle.toml.specs.Data.{Members}
use Rattle.cap_core.specs.declared.profile.ProfileName.{ProfileName}
use Rattle.kernel_abstract.specs.declared.call.Call.{Call}
use Rattle.kernel_abstract.specs.declared.call.Reply.{Reply}
use Rattle.kernel_abstract.specs.State.{State, shown}
use Rattle.kernel_abstract.specs.Step.{step}
use Rattle.setup_format.specs.Views.{CallView}
use Rattle.setup_report.specs.Naming.{Texts}
use Rattle.setup_report.specs.Report.{terminated, call_text}
use Rattle.command_trace.specs.Told.{told_lines, told_changes}
use Rattle.command_trace.specs.Trace.{words_line, why_text, why_at}
use Rattle.command_trace.specs.Ways.{ways_asked}

-- the report's line of each call
abbrev pub report_lines : Texts → ℕ → List CallView → List Reply → List (List ℕ)
report_lines texts number [] replies = []
report_lines texts number (call ∷ calls) [] = []
report_lines texts number (call ∷ calls) (reply ∷ replies) =
    terminated (call_text texts number call.call reply call.expect) ∷ report_lines texts (number + 1) calls replies

-- what a trace says of each call below that line: its words, their ways if these are asked for, why it is refused, and what it changed
abbrev pub call_details : Bool → Texts → ProfileName → Members → ℕ → State → Call → List ℕ
call_details ways texts p table i A call =
    words_line call.op ++ (ways_asked ways texts p (shown A) call ++ (why_text (why_at texts p table i A call) ++ told_changes (told_lines texts p (shown A)) (told_lines texts p (shown (step p A call).state))))

-- what a trace says of each call, below the report's line of it
unfoldable pub details : Bool → Texts → ProfileName → Members → ℕ → State → List CallView → List (List ℕ)
details ways texts p table i A [] = []
details ways texts p table i A (call ∷ calls) =
    call_details ways texts p table i A call.call ∷ details ways texts p table (i + 1) (step p A call.call).state calls

-- each line, followed by its own of some details while there are any
abbrev pub followed : List (List ℕ) → List (List ℕ) → List ℕ
followed [] details = []
followed (line ∷ lines) [] = line ++ followed lines []
followed (line ∷ lines) (detail ∷ details) = line ++ (detail ++ followed lines details)
