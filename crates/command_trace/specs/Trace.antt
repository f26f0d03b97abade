-- A trace: what the boot gives and what each call changes, told by how the states before and after differ, and why a call
-- is refused; if it is asked for, also the way of each word of a call. Objects and slots stand as `texts` tells them, the same in the whole of it.
use Rattle.std.specs.Prelude.{codes, ℕ, ◌+◌, Bool, List, [], ◌∷◌, ◌++◌, length, Option, None, Some}
use Rattle.std.specs.Fmt.{decimal}
use Rattle.toml.specs.Data.{Members}
use Rattle.cap_core.specs.declared.profile.ProfileName.{ProfileName}
use Rattle.kernel_abstract.specs.declared.call.Call.{Call}
use Rattle.kernel_abstract.specs.declared.call.Op.{Op}
use Rattle.kernel_abstract.specs.declared.call.Reply.{Reply}
use Rattle.kernel_abstract.specs.Boot.{boot}
use Rattle.kernel_abstract.specs.State.{State, shown}
use Rattle.kernel_abstract.specs.Step.{step}
use Rattle.setup_values.specs.Names.{Names}
use Rattle.setup_values.specs.Told.{profile_text}
use Rattle.setup_format.specs.Views.{SetupView, CallView}
use Rattle.setup_report.specs.Naming.{Texts}
pub use Rattle.setup_report.specs.Report.{count_line}
use Rattle.setup_report.specs.Report.{terminated, call_text, met_count, expectation_count}
use Rattle.command_trace.specs.Names.{name_lines}
use Rattle.command_trace.specs.Told.{ToldLines, told_lines, nothing_told, told_changes}
use Rattle.command_why.specs.Tables.{call_table}
pub use Rattle.command_check.specs.Program.{replies_to}
use Rattle.command_check.specs.Program.{texts_after}
use Rattle.command_why.specs.Why.{reason_lines_of}
use Rattle.command_trace.specs.Words.{op_words}
use Rattle.command_trace.specs.Ways.{ways_asked}

-- the first line: the version of the trace's form, and how large the set-up is
abbrev pub trace_head_line : SetupView → List ℕ
trace_head_line setup =
    terminated (codes "trace 2 " ++ (profile_text setup.profile ++ (codes " memory_bits " ++ (decimal setup.plan.memory_bits ++ (codes " calls " ++ decimal (length setup.calls))))))

-- boot is the change from nothing
abbrev pub boot_lines : ToldLines → List ℕ
boot_lines booted = terminated (codes "0 boot") ++ told_changes nothing_told booted

abbrev pub words_line : Op → List ℕ
words_line op = terminated (codes "  with" ++ op_words op)

-- the lines of the reason for which a call is refused, where it is
abbrev pub why_text : Option (List ℕ) → List ℕ
why_text None = []
why_text (Some lines) = lines

-- a call: the report's own line, its words, their ways, why it is refused, and what it changed
abbrev pub traced_call_lines : Texts → ℕ → CallView → Reply → List ℕ → Option (List ℕ) → ToldLines → ToldLines → List ℕ
traced_call_lines texts number call reply ways why old new =
    terminated (call_text texts number call.call reply call.expect) ++ (words_line call.call.op ++ (ways ++ (why_text why ++ told_changes old new)))

-- why the call at the place `i` of a set-up is refused in a state, by the table that spells the set-up
abbrev pub why_at : Texts → ProfileName → Members → ℕ → State → Call → Option (List ℕ)
why_at texts p table i A call = reason_lines_of texts p (shown A) (record { call = call; table = call_table table i })

-- the calls of a set-up that its table spells, from the place `i` and from a state on, with the ways of their words if these are asked for
unfoldable pub traced_calls_lines : Bool → Texts → ProfileName → Members → ℕ → State → List CallView → List ℕ
traced_calls_lines ways texts p table i A [] = []
traced_calls_lines ways texts p table i A (call ∷ calls) =
    traced_call_lines texts (i + 1) call (step p A call.call).reply (ways_asked ways texts p (shown A) call.call) (why_at texts p table i A call.call) (told_lines texts p (shown A)) (told_lines texts p (shown (step p A call.call).state))
    ++ traced_calls_lines ways texts p table (i + 1) (step p A call.call).state calls

-- the trace of a set-up, of the table that spells it, and of the names in it
unfoldable pub trace_told : Bool → Texts → ProfileName → Members → Names → SetupView → List ℕ
trace_told ways texts p table names setup =
    (trace_head_line setup ++ name_lines names)
    ++ (boot_lines (told_lines texts p (shown (boot p setup.plan)))
    ++ (traced_calls_lines ways texts p table 0 (boot p setup.plan) setup.calls
    ++ count_line (met_count setup.calls (replies_to p setup)) (expectation_count setup.calls (replies_to p setup))))

-- the same by addresses, or by the names of the objects that are there after all calls
abbrev pub trace_of : Bool → Bool → ProfileName → Members → Names → SetupView → List ℕ
trace_of by_name ways p table names setup = trace_told ways (texts_after by_name p names setup) p table names setup
