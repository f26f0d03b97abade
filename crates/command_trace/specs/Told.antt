-- All that a trace tells of a state: its lines, and then the order of siblings.
use Rattle.std.specs.Prelude.{ℕ, List, [], ◌++◌}
use Rattle.cap_core.specs.declared.profile.ProfileName.{ProfileName}
use Rattle.kernel_abstract.specs.Shown.{Shown}
use Rattle.setup_report.specs.Naming.{Texts}
use Rattle.command_trace.specs.Lines.{Lines}
use Rattle.command_trace.specs.Siblings.{sibling_lines}
use Rattle.command_trace.specs.Changes.{StateLines, lines_of_state, no_lines, line_changes, changes}

pub record ToldLines : Type 0 where
  pub state : StateLines
  pub siblings : Lines

-- what a trace prints of a state: its lines, and the order of siblings
abbrev pub told_lines : Texts → ProfileName → Shown → ToldLines
told_lines texts p v = record { state = lines_of_state texts p v; siblings = sibling_lines texts v.derivations }

-- of a state that is not there nothing is written
abbrev pub nothing_told : ToldLines
nothing_told = record { state = no_lines; siblings = [] }

-- how what a trace prints of two states differs
abbrev pub told_changes : ToldLines → ToldLines → List ℕ
told_changes old new = changes old.state new.state ++ line_changes old.siblings new.siblings
