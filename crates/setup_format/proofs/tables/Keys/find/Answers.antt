use Rattle.toml.proofs.Views.{table_get}
use Rattle.setup_format.proofs.tables.Keys.find.Goals as goal

pub returns : goal.returns
returns g c = table_get c.get.result c.args.key.now c.args.self.now.table.now.entries c.get.ensures.value
