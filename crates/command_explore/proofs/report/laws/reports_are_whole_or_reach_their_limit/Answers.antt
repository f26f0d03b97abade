use Rattle.command_explore.proofs.Limits.{ends_at_limit, on_all_orders}
use Rattle.command_explore.proofs.report.laws.reports_are_whole_or_reach_their_limit.Goals as goal

pub returns-clause-whole : goal.returns-clause-whole
returns-clause-whole c = on_all_orders

pub returns-clause-limit : goal.returns-clause-limit
returns-clause-limit c = ends_at_limit
