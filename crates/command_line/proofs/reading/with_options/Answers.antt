-- The options of the rows are added one by one.
use Rattle.std.proofs.Common.{rules, subst, sym}
use Rattle.std.proofs.lemmas.List.Sums.{fold_more}
use Rattle.std.proofs.lemmas.List.{take_all}
use Rattle.clap.specs.Words.{App, with_rule}
use Rattle.command_line.specs.CommandLine.{IsCommand, option_rule, with_option_rules}
use Rattle.command_line.specs.declared.table.OptionRow.{OptionRow}
use Rattle.command_line.proofs.reading.with_options.Goals as goal

pub loop-row-preserved : goal.loop-row-preserved
loop-row-preserved c app is =
    subst (λ a. IsCommand a c.in_ok-wider.wider) (sym (fold_more (λ (a : App) (row : OptionRow). with_rule a (option_rule row)) app c.args.rows.now c.loop-row.row-index _ (search rules)))
    (c.in_ok-wider.ensures _ _ (c.loop-row.invariant app is) c.option.ensures)

pub returns : goal.returns
returns c app is =
    subst (λ xs. IsCommand (with_option_rules app xs) c.loop-row.wider) (take_all c.loop-row.row-index c.args.rows.now (search rules)) (c.loop-row.invariant app is)
