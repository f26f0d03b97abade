use Rattle.std.proofs.Common.{◌++◌, map, sym, ◌∙◌}
use Rattle.slot_core.specs.Calls.{derivation_view}
use Rattle.command_audit.specs.Ends.{where_ended}
use Rattle.command_audit.proofs.Ended.{ended_more}
use Rattle.command_audit.proofs.ends.ended_caps.Goals as goal

pub loop-derivation-preserved : goal.loop-derivation-preserved
loop-derivation-preserved g c =
    let p = g.P.Profile.profile in
    let new = map (derivation_view p) c.args.left.now in
    c.in_ok-add_ended.ensures
    ∙ ((λ k. c.loop-derivation.invariant k ++ where_ended (c.derivation-item.is k).cap new)
    ∙ sym (ended_more p c.args.old.now c.loop-derivation.derivation-index c.derivation-item.result new c.loop-derivation-test.true))
