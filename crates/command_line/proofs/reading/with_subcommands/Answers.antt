-- The subcommands of the rows are added one by one.
use Rattle.std.proofs.Common.{rules, subst, sym}
use Rattle.std.proofs.lemmas.List.Sums.{fold_more}
use Rattle.std.proofs.lemmas.List.{take_all}
use Rattle.clap.specs.Words.{App}
use Rattle.command_line.specs.CommandLine.{IsCommand, and_subcommand, row_command, with_row_commands}
use Rattle.command_line.specs.declared.table.CommandRow.{CommandRow}
use Rattle.command_line.proofs.reading.with_subcommands.Goals as goal

pub loop-row-preserved : goal.loop-row-preserved
loop-row-preserved c app is =
    subst (λ a. IsCommand a c.in_ok-wider.wider) (sym (fold_more (λ (a : App) (r : CommandRow). and_subcommand (row_command r) a) app c.args.rows.now c.loop-row.row-index _ (search rules)))
    (c.in_ok-wider.ensures _ _ (c.loop-row.invariant app is) c.in_ok-subcommand.ensures)

pub returns : goal.returns
returns c app is =
    subst (λ xs. IsCommand (with_row_commands app xs) c.loop-row.wider) (take_all c.loop-row.row-index c.args.rows.now (search rules)) (c.loop-row.invariant app is)
