use Rattle.std.proofs.Common.{codes, ap, ◌∙◌}
use Rattle.toml.specs.View.{members_view}
use Rattle.command_explore.proofs.Entries.{view_without}
use Rattle.command_explore.proofs.report.tables.remove_expectation.Goals as goal

pub returns : goal.returns
returns c = ap members_view c.remove.ensures.entries ∙ view_without (codes "expect") c.args.call.now.entries
