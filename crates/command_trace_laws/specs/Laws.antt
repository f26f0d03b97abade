-- What the laws of a trace's lines say: changes as data, a state's lines after them, and the report's lines of the state.
use Rattle.std.specs.Prelude.{◌≡◌, ℕ, Bool, true, false, not, ◌==◌, nat_eq, List, [], ◌∷◌, ◌++◌, map, Option, None, Some}
use Rattle.std.specs.List.{filter, flat_map, list_any}
use Rattle.std.specs.List.Sorted.{IsStrictlySortedBy}
use Rattle.std.specs.Ordering.{nat_cmp}
use Rattle.std.specs.BTreeMap.{insert_entry}
use lib.Pointwise.{pointwise}
use Rattle.cap_core.specs.declared.profile.ProfileName.{ProfileName}
use Rattle.cap_core.specs.Objects.{is_null}
use Rattle.kernel_forest.specs.Forest.{Forest}
use Rattle.kernel_forest.specs.Entries.{Entry, slots, cap_at, derivations_of}
use Rattle.kernel_abstract.specs.declared.call.Call.{Call}
use Rattle.kernel_abstract.specs.Boot.{boot}
use Rattle.kernel_abstract.specs.Plan.{Plan}
use Rattle.kernel_abstract.specs.Shown.{Shown, has_child}
use Rattle.kernel_abstract.specs.State.{State, shown}
use Rattle.kernel_abstract.specs.Step.{step}
use Rattle.setup_report.specs.State.{Derived, found, rising}
use Rattle.setup_report.specs.Naming.{Texts}
use Rattle.setup_report.specs.Report.{terminated, thread_line}
use Rattle.setup_report.specs.Report as report
use Rattle.command_trace.specs.Lines.{Lines, traced_thread_lines, traced_endpoint_lines, traced_slot_lines, traced_selfheld_lines}
use Rattle.command_trace.specs.Siblings.{Sibling, siblings, in_front, sibling_lines}
use Rattle.command_trace.specs.Changes.{StateLines, no_lines, line_addresses, text_at, removed_line, added}
use Rattle.command_trace.specs.Told.{told_lines, told_changes}
use Rattle.command_trace.specs.Calls.{lines_in, lines_after}

-- ---- how lines differ

-- an address, the line that it had and the line that it has, where there is one
pub record Difference : Type 0 where
  pub address : ℕ
  pub old : Option (List ℕ)
  pub new : Option (List ℕ)

abbrev pub difference_at : Lines → Lines → ℕ → Difference
difference_at old new address = record { address = address; old = text_at address old; new = text_at address new }

-- whether two lines are the same, or neither is there
abbrev pub is_same_line : Option (List ℕ) → Option (List ℕ) → Bool
is_same_line None None = true
is_same_line None (Some new) = false
is_same_line (Some old) None = false
is_same_line (Some old) (Some new) = pointwise nat_eq old new

abbrev pub is_difference : Difference → Bool
is_difference d = not (is_same_line d.old d.new)

-- each address of the old lines or of the new ones, in rising order, where the line differs
abbrev pub differences : Lines → Lines → List Difference
differences old new = filter is_difference (map (difference_at old new) (rising (line_addresses old ++ line_addresses new)))

-- its text: the old line is removed, and the new one is added
abbrev pub difference_text : Difference → List ℕ
difference_text d = removed_line d.old ++ added d.new

-- ---- differences applied to lines: the line at the address is taken away, and the new one is put in by its address

abbrev pub lines_without : ℕ → Lines → Lines
lines_without address lines = filter (λ (l : ℕ × List ℕ). not (l.0 == address)) lines

abbrev pub with_line : ℕ → Option (List ℕ) → Lines → Lines
with_line address None lines = lines
with_line address (Some text) lines = insert_entry nat_cmp lines address text

abbrev pub apply : Lines → Difference → Lines
apply lines d = with_line d.address d.new (lines_without d.address lines)

-- one after another
abbrev pub applied : Lines → List Difference → Lines
applied lines [] = lines
applied lines (d ∷ ds) = applied (apply lines d) ds

-- the lines are in the order of their addresses, and no address has two
abbrev pub Rise : Lines → Type 0
Rise lines = IsStrictlySortedBy nat_cmp (line_addresses lines)

-- the difference that leads back: the new line is taken away, and the old one is put in
abbrev pub flipped : Difference → Difference
flipped d = record { address = d.address; old = d.new; new = d.old }

-- ---- the same of all that is told of two states

pub record StateDifferences : Type 0 where
  pub threads : List Difference
  pub inboxes : List Difference
  pub endpoints : List Difference
  pub slots : List Difference
  pub selfheld : List Difference

-- how the lines of two states differ, for each sort of line
abbrev pub state_differences : StateLines → StateLines → StateDifferences
state_differences old new =
    record {
      threads = differences old.threads new.threads;
      inboxes = differences old.inboxes new.inboxes;
      endpoints = differences old.endpoints new.endpoints;
      slots = differences old.slots new.slots;
      selfheld = differences old.selfheld new.selfheld;
    }

-- the text of the differences of two states
abbrev pub state_told : StateDifferences → List ℕ
state_told d =
    flat_map difference_text d.threads
    ++ (flat_map difference_text d.inboxes
    ++ (flat_map difference_text d.endpoints
    ++ (flat_map difference_text d.slots
    ++ flat_map difference_text d.selfheld)))

-- the lines of a state with the differences applied, for each sort of line
abbrev pub state_applied : StateLines → StateDifferences → StateLines
state_applied lines d =
    record {
      threads = applied lines.threads d.threads;
      inboxes = applied lines.inboxes d.inboxes;
      endpoints = applied lines.endpoints d.endpoints;
      slots = applied lines.slots d.slots;
      selfheld = applied lines.selfheld d.selfheld;
    }

-- the differences that lead back, for each sort of line
abbrev pub state_flipped : StateDifferences → StateDifferences
state_flipped d =
    record {
      threads = map flipped d.threads;
      inboxes = map flipped d.inboxes;
      endpoints = map flipped d.endpoints;
      slots = map flipped d.slots;
      selfheld = map flipped d.selfheld;
    }

-- ---- runs

-- what a call changes, as data
abbrev pub call_differences : Texts → ProfileName → State → Call → StateDifferences
call_differences texts p A call = state_differences (lines_in texts p A) (lines_after texts p A call)

-- boot changes nothing into its state
abbrev pub boot_differences : Texts → ProfileName → Plan → StateDifferences
boot_differences texts p plan = state_differences no_lines (lines_in texts p (boot p plan))

-- what each call of a run changes
unfoldable pub run_differences : Texts → ProfileName → State → List Call → List StateDifferences
run_differences texts p A [] = []
run_differences texts p A (call ∷ calls) = call_differences texts p A call ∷ run_differences texts p (step p A call).state calls

-- the lines after differences that are applied one after another
abbrev pub replayed : StateLines → List StateDifferences → StateLines
replayed lines [] = lines
replayed lines (d ∷ ds) = replayed (state_applied lines d) ds

-- the differences that lead back, the last one first
abbrev pub backwards : List StateDifferences → List StateDifferences
backwards [] = []
backwards (d ∷ ds) = backwards ds ++ state_flipped d ∷ []

-- ---- the order of siblings

-- the order of siblings in an abstract state
abbrev pub order_in : Texts → State → Lines
order_in texts A = sibling_lines texts (shown A).derivations

-- slots in a row, each with the one before it
abbrev pub in_a_row : Option ℕ → List ℕ → List Sibling
in_a_row before [] = []
in_a_row before (slot ∷ slots) = (slot, before) ∷ in_a_row (Some slot) slots

-- the order tells of some slots that they stand in a row
abbrev pub TellsTheOrder : Forest Entry → List ℕ → Type 0
TellsTheOrder f slots = map (λ (slot : ℕ). (slot, in_front (siblings None f) slot)) slots ≡ in_a_row None slots

-- what each call of a run changes of it, one after another, and before these what boot makes of none
unfoldable pub run_order : Texts → ProfileName → State → List Call → List Difference
run_order texts p A [] = []
run_order texts p A (call ∷ calls) = differences (order_in texts A) (order_in texts (step p A call).state) ++ run_order texts p (step p A call).state calls

-- how boot and the calls of a run change the order of siblings
abbrev pub order_differences : Texts → ProfileName → Plan → List Call → List Difference
order_differences texts p plan calls = differences [] (order_in texts (boot p plan)) ++ run_order texts p (boot p plan) calls

-- all that a call changes, with the order
abbrev pub all_changes : Texts → ProfileName → State → Call → List ℕ
all_changes texts p A call = told_changes (told_lines texts p (shown A)) (told_lines texts p (shown (step p A call).state))

-- of changes one after another, those of the lines of slots
abbrev pub of_slots : List StateDifferences → List (List Difference)
of_slots ds = map (λ (d : StateDifferences). d.slots) ds

-- ---- a state's lines, and the report's

-- the lines of the same kind one below another, as the report has them
abbrev pub lines_text : Lines → List ℕ
lines_text lines = flat_map (λ (l : ℕ × List ℕ). terminated l.1) lines

-- The report's lines of threads are of the threads that the trace has lines of, in that order. The two lines of a
-- thread differ in what follows its state: the trace tells what it waits to send, and the report what it received last.
abbrev pub TellsTheThreads : Texts → ProfileName → Shown → Type 0
TellsTheThreads texts p v = flat_map (thread_line texts v) (line_addresses (traced_thread_lines texts p v)) ≡ report.thread_lines texts p v

-- the lines of endpoints, and those of CNodes that hold themselves, are the report's
abbrev pub TellsTheEndpoints : Texts → ProfileName → Shown → Type 0
TellsTheEndpoints texts p v = lines_text (traced_endpoint_lines texts p v) ≡ report.endpoint_lines texts p v

-- a trace has the same lines as the report of CNodes that only their own slots name
abbrev pub TellsTheSelfheld : Texts → ProfileName → Shown → Type 0
TellsTheSelfheld texts p v = lines_text (traced_selfheld_lines texts p (derivations_of v.derivations)) ≡ report.selfheld_lines texts p v

-- the slots that hold a capability
abbrev pub is_slot_full : Shown → ℕ → Bool
is_slot_full v slot = not (is_null (cap_at v.derivations slot))

abbrev pub full_slots : Shown → List ℕ
full_slots v = filter (is_slot_full v) (slots v.derivations)

-- the slots that have a line are the full ones
abbrev pub TellsTheSlots : Texts → Shown → Type 0
TellsTheSlots texts v = line_addresses (traced_slot_lines texts (derivations_of v.derivations)) ≡ rising (full_slots v)

-- whether some slot stands right below one, which the trace tells by `under`
abbrev pub is_under : ℕ → Option ℕ → Bool
is_under slot None = false
is_under slot (Some parent) = parent == slot

abbrev pub has_slot_under : ℕ → List Derived → Bool
has_slot_under slot list = list_any (λ (d : Derived). is_under slot d.1) list

-- the report's line of a slot, by what the trace tells of it: its capability, and `children` where some slot is under
-- it
abbrev pub slot_line_of : Texts → List Derived → ℕ → Option Derived → List ℕ
slot_line_of texts list slot None = []
slot_line_of texts list slot (Some d) = terminated (report.slot_text texts slot d.0.cap (has_slot_under slot list))

abbrev pub report_slot_line : Texts → List Derived → ℕ → List ℕ
report_slot_line texts list slot = slot_line_of texts list slot (found list slot)

-- the report's lines of slots are those, of the slots that have a line
abbrev pub TellsTheSlotLines : Texts → Shown → Type 0
TellsTheSlotLines texts v =
    flat_map (report_slot_line texts (derivations_of v.derivations)) (line_addresses (traced_slot_lines texts (derivations_of v.derivations))) ≡ report.slot_lines texts v

-- each of them tells the capability that its slot holds, and whether the slot has a child
abbrev pub held_slot_line : Texts → Shown → ℕ → List ℕ
held_slot_line texts v slot = terminated (report.slot_text texts slot (cap_at v.derivations slot) (has_child slot v.derivations))

-- a trace's lines of full slots say which capability each holds, as the report's lines do
abbrev pub TellsTheCapabilities : Texts → Shown → Type 0
TellsTheCapabilities texts v = flat_map (held_slot_line texts v) (rising (full_slots v)) ≡ report.slot_lines texts v
