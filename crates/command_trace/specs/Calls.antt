-- What a call changes of what is told of a state.
use Rattle.std.specs.Prelude.{ℕ, List}
use Rattle.cap_core.specs.declared.profile.ProfileName.{ProfileName}
use Rattle.kernel_abstract.specs.declared.call.Call.{Call}
use Rattle.kernel_abstract.specs.State.{State, shown}
use Rattle.kernel_abstract.specs.Step.{step}
use Rattle.setup_report.specs.Naming.{Texts}
use Rattle.command_trace.specs.Changes.{StateLines, lines_of_state, changes}

-- what is written of a state, and of the state after a call
abbrev pub lines_in : Texts → ProfileName → State → StateLines
lines_in texts p A = lines_of_state texts p (shown A)

abbrev pub lines_after : Texts → ProfileName → State → Call → StateLines
lines_after texts p A call = lines_in texts p (step p A call).state

-- what a call changes, as text
abbrev pub call_changes : Texts → ProfileName → State → Call → List ℕ
call_changes texts p A call = changes (lines_in texts p A) (lines_after texts p A call)
