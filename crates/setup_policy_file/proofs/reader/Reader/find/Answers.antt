use Rattle.toml.proofs.Views.{table_get}
use Rattle.setup_policy_file.proofs.reader.Reader.find.Goals as goal

pub returns : goal.returns
returns c = table_get c.get.result c.args.key.now c.args.self.table.now.entries c.get.ensures.value
