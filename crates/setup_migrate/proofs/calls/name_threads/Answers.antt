use Rattle.std.proofs.Common.{codes, sym, ap, ◌∙◌}
use Rattle.toml.specs.View.{members_view}
use Rattle.setup_migrate.specs.Migration.{named_calls}
use Rattle.setup_migrate.proofs.Parts.{view_changed, view_unchanged}
use Rattle.setup_migrate.proofs.calls.name_threads.Goals as goal

pub returns-in_ok-name_calls : goal.returns-in_ok-name_calls
returns-in_ok-name_calls g c =
    let p = g.P.Profile.profile in
    let plan = c.args.plan.now in
    ap members_view (c.get_mut.follows.holds _).0
    ∙ view_changed (codes "call") (named_calls p plan) c.args.table.now.entries c.in-Some.calls.now _ (sym c.in-Some.ensures.value) c.in_ok-name_calls.ensures

pub returns-in_default : goal.returns-in_default
returns-in_default g c =
    ap (λ m. members_view m.entries) (c.get_mut.follows.holds-at-none) ∙ view_unchanged (codes "call") (named_calls g.P.Profile.profile c.args.plan.now) c.args.table.now.entries (sym c.in_default.ensures.value)
