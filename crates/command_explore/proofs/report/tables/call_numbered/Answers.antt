use Rattle.std.proofs.Common.{sym, ap, ◌∙◌}
use Rattle.toml.specs.View.{items_view}
use Rattle.command_explore.specs.Witnesses as spec
use Rattle.command_explore.proofs.Entries.{view_at, next}
use Rattle.command_explore.proofs.report.tables.call_numbered.Goals as goal

pub returns : goal.returns
returns c =
    let found = c.get.ensures.lookup in
    view_at c.get.result c.args.calls.now c.in_ok-i.i found.1 found.3
    ∙ sym (ap (spec.call_numbered (items_view c.args.calls.now)) (next c.args.number c.in_ok-i.i c.in_ok-i.ensures.0 c.in_ok-i.ensures.1))
