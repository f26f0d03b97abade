use Rattle.std.proofs.Common.{◌≡◌, ◌++◌, Some, string_bytes, ap, ◌∙◌}
use Rattle.command_trace.specs.Changes.{changes, lines_of_state}
use Rattle.setup_report.specs.Naming.{naming_view}
use Rattle.command_audit.specs.Text.{audit_head_line}
use Rattle.command_audit.specs.Revokes.{shown_after_revoke, revoke_lines}
use Rattle.command_audit.proofs.Joined.{joined_three}
use Rattle.command_audit.proofs.state.audit_of_slot.Goals as goal

pub returns : goal.returns
returns g c = λ A reached shows.
    let p = g.P.Profile.profile in
    let texts = naming_view c.args.naming.now in
    let setup = c.args.setup.now in
    let made = c.args.made in
    let slot = c.args.slot in
    let new : c.in_ok-new.new ≡ shown_after_revoke p A slot = c.in_ok-new.ensures A reached shows in
    (λ i. (c.into_bytes.ensures.value i).items)
    ∙ (joined_three (string_bytes c.add_head.new.out) (string_bytes c.add_revoke.new.out) (string_bytes c.add_changes_between.new.out)
    _ _ _
    (c.in_ok-add_head.ensures ∙ ap (λ l. l ++ audit_head_line texts setup made (Some slot)) c.new-out.ensures.bytes)
    c.in_ok-add_revoke.ensures
    c.in_ok-add_changes_between.ensures
    ∙ (λ i. audit_head_line texts setup made (Some slot)
    ++ (revoke_lines texts (shows i) (new i) slot ++ changes (lines_of_state texts p (shows i)) (lines_of_state texts p (new i)))))
