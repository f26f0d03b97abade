use Rattle.std.proofs.Common.{[], ◌++◌, string_bytes, sym, ap, ◌∙◌, arith}
use Rattle.std.specs.List.{flat_map}
use Rattle.std.proofs.Math.ListN.{drop_of_length-le}
use Rattle.slot_core.specs.Calls.{derivation_view}
use Rattle.setup_report.specs.Naming.{naming_view}
use Rattle.command_tree.specs.Tree.{placed_line}
use Rattle.command_tree.specs.Private.Path.{slots_with_paths}
use Rattle.command_tree.proofs.Rows.{next, last}
use Rattle.command_tree.proofs.Walked.{walked_is}
use Rattle.command_tree.proofs.lines.add_forest.Goals as goal

pub loop-row-preserved : goal.loop-row-preserved
loop-row-preserved g c =
    next (naming_view c.args.naming.now) (derivation_view g.P.Profile.profile) c.args.rows.now c.loop-row.row-index c.row-item.result c.loop-row.path.items c.add_next.new.path.items
    (string_bytes c.loop-row.out) (string_bytes c.add_next.new.out) _
    c.loop-row-test.true c.row-item.is c.loop-row.invariant c.in_ok-add_next.ensures.line c.in_ok-add_next.ensures.path

pub returns : goal.returns
returns g c = λ f distinct are.
    let texts = naming_view c.args.naming.now in
    let view = derivation_view g.P.Profile.profile in
    sym (last texts view c.loop-row.path.items (string_bytes c.loop-row.out) _ (drop_of_length-le c.args.rows.now (omega (arith, c.loop-row-test.false))))
    ∙ (c.loop-row.invariant
    ∙ ap (λ l. string_bytes c.args.out.now ++ flat_map (placed_line texts) l) (ap (slots_with_paths []) are ∙ walked_is f distinct))
