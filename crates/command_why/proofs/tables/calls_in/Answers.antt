use Rattle.std.proofs.Common.{codes}
use Rattle.toml.proofs.Views.{table_get}
use Rattle.command_why.proofs.tables.calls_in.Goals as goal

pub returns : goal.returns
returns c = table_get c.get.result (codes "call") c.args.setup.now.entries c.get.ensures.value
