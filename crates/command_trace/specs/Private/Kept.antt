-- What the code keeps of a state, as lines in the order in which it keeps them, each kind with what it adds to a trace.
use Rattle.std.specs.Prelude.{◌≡◌, ℕ, List, [], ◌∷◌, ◌++◌, None}
use Rattle.std.specs.List.{flat_map}
use Rattle.std.specs.List.Sorted.{IsStrictlySortedBy}
use Rattle.std.specs.Ordering.{nat_cmp}
use Rattle.cap_core.specs.declared.profile.ProfileName.{ProfileName}
use Rattle.kernel_forest.specs.Entries.{derivations_of}
use Rattle.slot_core.specs.declared.derivations.Derivation.{Derivation}
use Rattle.kernel_abstract.specs.Shown.{Shown}
use Rattle.setup_report.specs.Naming.{Texts}
use Rattle.command_trace.specs.Lines.{Lines}
use Rattle.command_trace.specs.Siblings.{siblings, row_view}
use Rattle.command_trace.specs.Changes.{StateLines, line_addresses, line_changes}
use Rattle.command_trace.specs.Told.{ToldLines}
use Rattle.command_trace.specs.Views.{lines_seen, thread_row_line, inbox_line, endpoint_row_line}
use Rattle.command_trace.specs.Private.Listed.{derivation_line}
use Rattle.command_trace.specs.Private.Path.{sibling_line}
use Rattle.command_trace.specs.Private.Rows.{AreLinesApart}
use Rattle.command_trace.specs.declared.lines.messages.ThreadRow.{ThreadRow}
use Rattle.command_trace.specs.declared.lines.messages.InboxRow.{InboxRow}
use Rattle.command_trace.specs.declared.lines.messages.EndpointRow.{EndpointRow}
use Rattle.command_trace.specs.declared.lines.siblings.SiblingRow.{SiblingRow}
use Rattle.command_trace.specs.declared.lines.state.Memory.{Memory}
use Rattle.command_trace.specs.declared.lines.state.Messages.{Messages}
use Rattle.command_trace.specs.declared.lines.state.View.{View}
use Rattle.command_trace.specs.declared.lines.told.Told.{Told}

abbrev pub thread_rows : Texts → Messages → Lines
thread_rows texts m = flat_map (λ (t : ThreadRow). thread_row_line texts t ∷ []) m.threads.items

abbrev pub inbox_rows : Texts → Messages → Lines
inbox_rows texts m = flat_map (λ (i : InboxRow). inbox_line texts i ∷ []) m.inboxes.items

abbrev pub endpoint_rows : Texts → Messages → Lines
endpoint_rows texts m = flat_map (λ (e : EndpointRow). endpoint_row_line texts e ∷ []) m.endpoints.items

abbrev pub kept_slot_lines : Texts → ProfileName → Memory → Lines
kept_slot_lines texts p m = flat_map (λ (d : Derivation). derivation_line texts p d ∷ []) m.slots.items

abbrev pub sibling_rows : Texts → Told → Lines
sibling_rows texts told = flat_map (λ (r : SiblingRow). sibling_line texts (row_view r)) told.siblings.items

abbrev pub message_changes : Texts → Messages → Messages → List ℕ
message_changes texts old new =
    line_changes (thread_rows texts old) (thread_rows texts new)
    ++ (line_changes (inbox_rows texts old) (inbox_rows texts new)
    ++ line_changes (endpoint_rows texts old) (endpoint_rows texts new))

abbrev pub memory_changes : Texts → ProfileName → Memory → Memory → List ℕ
memory_changes texts p old new =
    line_changes (kept_slot_lines texts p old) (kept_slot_lines texts p new) ++ line_changes (lines_seen old.selfheld.items) (lines_seen new.selfheld.items)

abbrev pub view_rows : Texts → ProfileName → View → StateLines
view_rows texts p view =
    record {
      threads = thread_rows texts view.messages;
      inboxes = inbox_rows texts view.messages;
      endpoints = endpoint_rows texts view.messages;
      slots = kept_slot_lines texts p view.memory;
      selfheld = lines_seen view.memory.selfheld.items;
    }

abbrev pub told_rows : Texts → ProfileName → Told → ToldLines
told_rows texts p told = record { state = view_rows texts p told.view; siblings = sibling_rows texts told }

-- no two lines of a kind are of one address
pub record IsApartMemory (texts : Texts) (p : ProfileName) (m : Memory) : Type 0 where
  pub slots : AreLinesApart (kept_slot_lines texts p m)
  pub selfheld : IsStrictlySortedBy nat_cmp (line_addresses (lines_seen m.selfheld.items))

pub record IsApartMessages (texts : Texts) (m : Messages) : Type 0 where
  pub threads : AreLinesApart (thread_rows texts m)
  pub inboxes : AreLinesApart (inbox_rows texts m)
  pub endpoints : AreLinesApart (endpoint_rows texts m)

pub record IsApartView (texts : Texts) (p : ProfileName) (view : View) : Type 0 where
  pub memory : IsApartMemory texts p view.memory
  pub messages : IsApartMessages texts view.messages

pub record IsApartTold (texts : Texts) (p : ProfileName) (told : Told) : Type 0 where
  pub view : IsApartView texts p told.view
  pub siblings : AreLinesApart (sibling_rows texts told)

-- two states have the same full slots, in the same order
pub record HaveSameSlots (v w : Shown) : Type 0 where
  pub list : derivations_of w.derivations ≡ derivations_of v.derivations
  pub order : siblings None w.derivations ≡ siblings None v.derivations
