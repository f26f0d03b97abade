-- What the code keeps of a state, and when that is what is told of it.
use Rattle.std.specs.Prelude.{◌≡◌, ℕ, ◌==◌, List, map, None, string_bytes, ⊤}
use Rattle.std.specs.List.{IsDistinct}
use Rattle.cap_core.specs.declared.profile.ProfileName.{ProfileName}
use Rattle.kernel_forest.specs.Entries.{derivations_of, slots as slots_in}
use Rattle.slot_core.specs.Calls.{derivation_view}
use Rattle.kernel_abstract.specs.declared.call.Reply.{Reply}
use Rattle.kernel_abstract.specs.declared.call.Reply.TheVariants.{Done, Delivered, Waiting, Dropped, Empty, Refused}
use Rattle.kernel_abstract.specs.Shown.{Shown}
use Rattle.setup_report.specs.State.{threads as live_threads, endpoints as live_endpoints}
use Rattle.setup_report.specs.Naming.{Texts}
use Rattle.setup_report.specs.Report.{endpoint_text}
use Rattle.command_trace.specs.Lines.{Lines, traced_thread_text, traced_thread_lines, traced_inbox_text, inbox_lines, traced_endpoint_lines, traced_selfheld_lines}
use Rattle.command_trace.specs.Siblings.{siblings, row_view}
use Rattle.command_trace.specs.declared.lines.messages.ThreadRow.{ThreadRow}
use Rattle.command_trace.specs.declared.lines.messages.InboxRow.{InboxRow}
use Rattle.command_trace.specs.declared.lines.messages.EndpointRow.{EndpointRow}
use Rattle.command_trace.specs.declared.lines.changes.StateLine.{StateLine}
use Rattle.command_trace.specs.declared.lines.state.Memory.{Memory}
use Rattle.command_trace.specs.declared.lines.state.Messages.{Messages}
use Rattle.command_trace.specs.declared.lines.state.View.{View}
use Rattle.command_trace.specs.declared.lines.told.Told.{Told}

abbrev pub line_view : StateLine → ℕ × List ℕ
line_view line = (line.address, string_bytes line.text)

abbrev pub lines_seen : List StateLine → Lines
lines_seen lines = map line_view lines

abbrev pub thread_row_line : Texts → ThreadRow → ℕ × List ℕ
thread_row_line texts t = (t.address, traced_thread_text texts t.address t.state t.offer)

abbrev pub inbox_line : Texts → InboxRow → ℕ × List ℕ
inbox_line texts i = (i.address, traced_inbox_text texts i.address i.inbox)

abbrev pub endpoint_row_line : Texts → EndpointRow → ℕ × List ℕ
endpoint_row_line texts e = (e.address, endpoint_text texts e.address e.sending e.threads.items)

-- the live threads and endpoints, the full slots in the kernel's order, and the lines of selfheld CNodes
pub record ShowsMemory (texts : Texts) (p : ProfileName) (v : Shown) (m : Memory) : Type 0 where
  pub threads : m.threads.keys ≡ live_threads p v
  pub endpoints : m.endpoints.keys ≡ live_endpoints p v
  pub slots : map (derivation_view p) m.slots.items ≡ derivations_of v.derivations
  pub apart : IsDistinct (λ (a b : ℕ). a == b) (slots_in v.derivations)
  pub selfheld : lines_seen m.selfheld.items ≡ traced_selfheld_lines texts p (derivations_of v.derivations)

pub record ShowsMessages (texts : Texts) (p : ProfileName) (v : Shown) (m : Messages) : Type 0 where
  pub threads : map (thread_row_line texts) m.threads.items ≡ traced_thread_lines texts p v
  pub inboxes : map (inbox_line texts) m.inboxes.items ≡ inbox_lines texts p v
  pub endpoints : map (endpoint_row_line texts) m.endpoints.items ≡ traced_endpoint_lines texts p v

pub record IsViewOf (texts : Texts) (p : ProfileName) (v : Shown) (view : View) : Type 0 where
  pub memory : ShowsMemory texts p v view.memory
  pub messages : ShowsMessages texts p v view.messages

-- what is kept is all that is written of a state
pub record IsStateTold (texts : Texts) (p : ProfileName) (v : Shown) (told : Told) : Type 0 where
  pub view : IsViewOf texts p v told.view
  pub siblings : map row_view told.siblings.items ≡ siblings None v.derivations

-- what a reply says of what is shown before and after
abbrev pub FollowsReply : Reply → Shown → Shown → Type 0
FollowsReply Done v w = ⊤
FollowsReply Waiting v w = w.derivations ≡ v.derivations
FollowsReply (Delivered endpoint from to badge message) v w = w.derivations ≡ v.derivations
FollowsReply Dropped v w = w ≡ v
FollowsReply Empty v w = w ≡ v
FollowsReply (Refused refusal) v w = w ≡ v
