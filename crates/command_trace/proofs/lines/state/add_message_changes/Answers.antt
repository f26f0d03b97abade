use Rattle.std.proofs.Common.{◌++◌, List, [], ◌∷◌, string_bytes, ◌∙◌, append_assoc}
use Rattle.std.specs.List.{flat_map}
use Rattle.setup_report.specs.Naming.{naming_view}
use Rattle.command_trace.specs.Changes.{line_changes}
use Rattle.command_trace.specs.Views.{thread_row_line, inbox_line, endpoint_row_line}
use Rattle.command_trace.specs.Private.Kept.{thread_rows, inbox_rows, endpoint_rows}
use Rattle.command_trace.specs.declared.lines.messages.ThreadRow.{ThreadRow}
use Rattle.command_trace.specs.declared.lines.messages.InboxRow.{InboxRow}
use Rattle.command_trace.specs.declared.lines.messages.EndpointRow.{EndpointRow}
use Rattle.command_trace.proofs.Ends.{on_ok}
use Rattle.command_trace.proofs.lines.state.add_message_changes.Goals as goal

pub returns : goal.returns
returns g c =
    let texts = naming_view c.args.naming.now in
    let threads_of = λ (list : List ThreadRow). flat_map (λ (t : ThreadRow). thread_row_line texts t ∷ []) list in
    let inboxes_of = λ (list : List InboxRow). flat_map (λ (i : InboxRow). inbox_line texts i ∷ []) list in
    let endpoints_of = λ (list : List EndpointRow). flat_map (λ (e : EndpointRow). endpoint_row_line texts e ∷ []) list in
    let out = string_bytes c.args.out.now in
    let threads = line_changes (thread_rows texts c.args.old.now) (thread_rows texts c.args.new.now) in
    let inboxes = line_changes (inbox_rows texts c.args.old.now) (inbox_rows texts c.args.new.now) in
    let endpoints = line_changes (endpoint_rows texts c.args.old.now) (endpoint_rows texts c.args.new.now) in
    on_ok _ _
    (λ is. is
    ∙ (λ i. c.in_ok-add_row_changes-2.ensures i ++ line_changes (endpoints_of (c.as_slice-before-3.ensures.value i)) (endpoints_of (c.as_slice-after-3.ensures.value i)))
    ∙ (λ i. (c.in_ok-add_row_changes.ensures i ++ line_changes (inboxes_of (c.as_slice-before-2.ensures.value i)) (inboxes_of (c.as_slice-after-2.ensures.value i))) ++ endpoints)
    ∙ (λ i. ((out ++ line_changes (threads_of (c.as_slice-before.ensures.value i)) (threads_of (c.as_slice-after.ensures.value i))) ++ inboxes) ++ endpoints)
    ∙ append_assoc (out ++ threads) inboxes endpoints
    ∙ append_assoc out threads (inboxes ++ endpoints))
    c.add_row_changes-3.result c.add_row_changes-3.ensures
