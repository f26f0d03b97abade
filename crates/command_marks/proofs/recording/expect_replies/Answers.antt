use Rattle.std.proofs.Common.{codes, sym, ap, ◌∙◌}
use Rattle.toml.specs.View.{members_view}
use Rattle.setup_migrate.proofs.Parts.{view_changed, view_unchanged}
use Rattle.command_marks.specs.Recorded.{calls_expecting}
use Rattle.command_marks.proofs.recording.expect_replies.Goals as goal

pub returns-in_ok-calls : goal.returns-in_ok-calls
returns-in_ok-calls c =
    let new = c.in_ok-calls.field-0 in
    ap members_view (c.get_mut.follows.holds new).0
    ∙ view_changed (codes "call") (calls_expecting c.args.replies.now) c.args.table.now.entries c.in-Some.calls.now new (sym c.in-Some.ensures.value) c.in_ok-calls.ensures

pub returns-in_default : goal.returns-in_default
returns-in_default c =
    ap (λ m. members_view m.entries) (c.get_mut.follows.holds-at-none)
    ∙ view_unchanged (codes "call") (calls_expecting c.args.replies.now) c.args.table.now.entries (sym c.in_default.ensures.value)
