use Rattle.std.proofs.Common.{sym, ap, ◌∙◌}
use Rattle.toml.specs.Data.{table}
use Rattle.toml.proofs.Views.{view-Table}
use Rattle.command_explore.proofs.Entries.{unexpecting_table, unexpecting_none}
use Rattle.command_explore.proofs.report.tables.drop_expectation.Goals as goal

pub returns-in-Some : goal.returns-in-Some
returns-in-Some c = view-Table _ ∙ (ap table c.remove_expectation.ensures ∙ sym (unexpecting_table _ _ c.in-Some.ensures.value))

pub returns-in_default : goal.returns-in_default
returns-in_default c = sym (unexpecting_none _ c.in_default.ensures.value)
