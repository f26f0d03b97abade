-- The lines of the calls of a run are the report's, each followed by its details.
use Rattle.std.proofs.Common.{◌≡◌, ℕ, ◌+◌, Bool, List, [], ◌∷◌, ◌++◌, map, refl, ap, ◌∙◌, append_assoc}
use Rattle.toml.specs.Data.{Members}
use Rattle.cap_core.specs.declared.profile.ProfileName.{ProfileName}
use Rattle.kernel_abstract.specs.declared.call.Reply.{Reply}
use Rattle.kernel_abstract.specs.State.{State}
use Rattle.kernel_abstract.specs.Step.{step, replies_of}
use Rattle.setup_format.specs.Views.{CallView}
use Rattle.setup_report.specs.Naming.{Texts}
use Rattle.setup_report.specs.Report.{terminated, call_text, call_lines}
use Rattle.command_trace.specs.Trace.{traced_calls_lines}
use Rattle.command_trace.specs.Laws.{report_lines, call_details, details, followed}

pub report_followed : (texts : Texts) (number : ℕ) (calls : List CallView) (replies : List Reply) → call_lines texts number calls replies ≡ followed (report_lines texts number calls replies) []
report_followed texts number [] replies = refl
report_followed texts number (call ∷ calls) [] = refl
report_followed texts number (call ∷ calls) (reply ∷ replies) =
    ap (λ l. terminated (call_text texts number call.call reply call.expect) ++ l) (report_followed texts (number + 1) calls replies)

pub trace_followed : (ways : Bool) (texts : Texts) (p : ProfileName) (table : Members) (i : ℕ) (A : State) (calls : List CallView) →
    traced_calls_lines ways texts p table i A calls ≡ followed (report_lines texts (i + 1) calls (replies_of p A (map (λ (c : CallView). c.call) calls))) (details ways texts p table i A calls)
unfolding traced_calls_lines replies_of details
trace_followed ways texts p table i A [] = refl
trace_followed ways texts p table i A (call ∷ calls) =
    let B = (step p A call.call).state in
    let first = terminated (call_text texts (i + 1) call.call (step p A call.call).reply call.expect) in
    let more = call_details ways texts p table i A call.call in
    append_assoc first more (traced_calls_lines ways texts p table (i + 1) B calls)
    ∙ ap (λ l. first ++ (more ++ l)) (trace_followed ways texts p table (i + 1) B calls)
