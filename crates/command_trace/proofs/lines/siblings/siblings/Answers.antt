use Rattle.std.proofs.Common.{sym, ◌∙◌, arith}
use Rattle.std.proofs.Math.ListN.{drop_of_length-le}
use Rattle.slot_core.specs.Calls.{derivation_view}
use Rattle.command_trace.specs.Siblings.{row_view}
use Rattle.command_trace.proofs.Walks.Rows.{next, last}
use Rattle.command_trace.proofs.lines.siblings.siblings.Goals as goal

pub loop-derivation-preserved : goal.loop-derivation-preserved
loop-derivation-preserved g c =
    next (derivation_view g.P.Profile.profile) row_view c.args.derivations.now c.loop-derivation.derivation-index c.derivation-item.result c.in_ok-row.row c.loop-derivation.path.items c.sibling_next.new.path.items
    c.loop-derivation.rows.items c.push.new.self.items _
    c.loop-derivation-test.true c.derivation-item.is c.loop-derivation.invariant c.in_ok-push.ensures.items c.in_ok-row.ensures.row c.in_ok-row.ensures.path

pub returns : goal.returns
returns g c =
    let view = derivation_view g.P.Profile.profile in
    sym (last view row_view c.loop-derivation.path.items c.loop-derivation.rows.items _ (drop_of_length-le c.args.derivations.now (omega (arith, c.loop-derivation-test.false))))
    ∙ c.loop-derivation.invariant
