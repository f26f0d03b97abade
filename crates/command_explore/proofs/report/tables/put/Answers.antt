use Rattle.std.proofs.Common.{ap, ◌∙◌}
use Rattle.toml.specs.View.{members_view}
use Rattle.setup_migrate.proofs.Parts.{view_with}
use Rattle.command_explore.proofs.report.tables.put.Goals as goal

pub returns : goal.returns
returns c = ap members_view c.in_ok-insert.ensures.entries ∙ view_with c.args.table.now.entries c.args.key c.args.value
