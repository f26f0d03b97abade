-- How two states differ: the lines of the old one that are gone, and those of the new one that are not of the old one.
use Rattle.std.specs.Prelude.{codes, ℕ, List, [], ◌∷◌, ◌++◌, map, ◌==◌, cond, if◌then◌else◌, Option, Some, None, nat_eq}
use Rattle.std.specs.List.{flat_map}
use lib.Pointwise.{pointwise}
use Rattle.cap_core.specs.declared.profile.ProfileName.{ProfileName}
use Rattle.kernel_forest.specs.Entries.{derivations_of}
use Rattle.kernel_abstract.specs.Shown.{Shown}
use Rattle.setup_report.specs.State.{rising}
use Rattle.setup_report.specs.Naming.{Texts}
use Rattle.setup_report.specs.Report.{terminated}
use Rattle.command_trace.specs.Lines.{Lines, traced_thread_lines, inbox_lines, traced_endpoint_lines, traced_slot_lines, traced_selfheld_lines}

-- the line at an address, if there is one
abbrev pub text_at : ℕ → Lines → Option (List ℕ)
text_at address [] = None
text_at address (l ∷ lines) = cond (l.0 == address) (Some l.1) (text_at address lines)

abbrev pub removed_line : Option (List ℕ) → List ℕ
removed_line None = []
removed_line (Some text) = terminated (codes "  - " ++ text)

abbrev pub added : Option (List ℕ) → List ℕ
added None = []
added (Some text) = terminated (codes "  + " ++ text)

-- one address: nothing, where its line stays
abbrev pub change : Option (List ℕ) → Option (List ℕ) → List ℕ
change None new = added new
change (Some old) None = removed_line (Some old)
change (Some old) (Some new) = if pointwise nat_eq old new then [] else removed_line (Some old) ++ added (Some new)

-- the addresses of lines
abbrev pub line_addresses : Lines → List ℕ
line_addresses lines = map (λ (l : ℕ × List ℕ). l.0) lines

-- each address of the old lines or of the new ones, in rising order
abbrev pub change_at : Lines → Lines → ℕ → List ℕ
change_at old new address = change (text_at address old) (text_at address new)

-- how two lists of lines differ: for each address of either, in rising order, the old line if it is gone or another
-- one, and the new line
abbrev pub line_changes : Lines → Lines → List ℕ
line_changes old new = flat_map (change_at old new) (rising (line_addresses old ++ line_addresses new))

-- all that is written of a state, kind by kind
pub record StateLines : Type 0 where
  pub threads : Lines
  pub inboxes : Lines
  pub endpoints : Lines
  pub slots : Lines
  pub selfheld : Lines

-- the lines of a state, by address, for each sort of line
abbrev pub lines_of_state : Texts → ProfileName → Shown → StateLines
lines_of_state texts p v =
    record {
      threads = traced_thread_lines texts p v;
      inboxes = inbox_lines texts p v;
      endpoints = traced_endpoint_lines texts p v;
      slots = traced_slot_lines texts (derivations_of v.derivations);
      selfheld = traced_selfheld_lines texts p (derivations_of v.derivations);
    }

-- a state that is not there has no lines
abbrev pub no_lines : StateLines
no_lines = record { threads = []; inboxes = []; endpoints = []; slots = []; selfheld = [] }

-- how two states differ, as text, for each sort of line
abbrev pub changes : StateLines → StateLines → List ℕ
changes old new =
    line_changes old.threads new.threads
    ++ (line_changes old.inboxes new.inboxes
    ++ (line_changes old.endpoints new.endpoints
    ++ (line_changes old.slots new.slots
    ++ line_changes old.selfheld new.selfheld)))
