-- The value at the key `call` is that of the table's entries.
use Rattle.std.proofs.Common.{codes, Some, None, option_and_then, ap, ◌∙◌}
use Rattle.toml.specs.Data.{at}
use Rattle.toml.proofs.Views.{table_get}
use Rattle.command_marks.proofs.differences.spelt_call.Goals as goal

pub returns-in-Some : goal.returns-in-Some
returns-in-Some c =
    c.get-in-Some.ensures ∙ ap (option_and_then (at c.args.i)) (table_get (Some c.in-Some.calls) (codes "call") c.args.table.now.entries c.in-Some.ensures.value)

pub returns-in-None : goal.returns-in-None
returns-in-None c = ap (option_and_then (at c.args.i)) (table_get None (codes "call") c.args.table.now.entries c.in-None.ensures.value)
