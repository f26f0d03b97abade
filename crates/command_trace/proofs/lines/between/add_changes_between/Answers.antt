use Rattle.std.proofs.Common.{◌++◌, string_bytes, ap, ◌∙◌}
use Rattle.setup_report.specs.Naming.{naming_view}
use Rattle.command_trace.proofs.Kept.{view_apart, view_changes}
use Rattle.command_trace.proofs.Ends.{on_ok}
use Rattle.command_trace.proofs.lines.between.add_changes_between.Goals as goal

pub add_view_changes-requires : goal.add_view_changes-requires
add_view_changes-requires g c =
    record {
      old = view_apart (naming_view c.args.naming.now) g.P.Profile.profile c.args.old.now c.in_ok-before.before c.in_ok-before.ensures;
      new = view_apart (naming_view c.args.naming.now) g.P.Profile.profile c.args.new.now c.in_ok-after.after c.in_ok-after.ensures;
    }

pub returns : goal.returns
returns g c =
    on_ok _ _
    (λ is. is ∙ ap (λ t. string_bytes c.args.out.now ++ t)
    (view_changes (naming_view c.args.naming.now) g.P.Profile.profile c.args.old.now c.args.new.now c.in_ok-before.before c.in_ok-after.after c.in_ok-before.ensures c.in_ok-after.ensures))
    c.add_view_changes.result c.add_view_changes.ensures
