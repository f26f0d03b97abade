use Rattle.std.proofs.Common.{◌++◌, arith, string_bytes, ap, ◌∙◌}
use Rattle.std.specs.List.{flat_map}
use Rattle.slot_core.specs.declared.derivations.Derivation.{Derivation}
use Rattle.slot_core.specs.Calls.{derivation_view}
use Rattle.setup_report.specs.Naming.{naming_view}
use Rattle.command_trace.proofs.Steps.{take_whole}
use Rattle.command_audit.specs.Revokes.{revoke_lines_at, revoke_lines_of}
use Rattle.setup_report.proofs.Joined.{flat_next}
use Rattle.command_audit.proofs.revokes.add_revokes.Goals as goal

pub loop-row-preserved : goal.loop-row-preserved
loop-row-preserved g c = λ A reached shows.
    let p = g.P.Profile.profile in
    let texts = naming_view c.args.naming.now in
    c.in_ok-add_revoke_at.ensures A reached shows
    ∙ ((λ k. c.loop-row.invariant A reached shows k ++ (ap (revoke_lines_at p texts A) c.address-slot.ensures ∙ ap (λ (d : Derivation). revoke_lines_of p texts A (derivation_view p d)) c.row-item.is) k)
    ∙ flat_next (λ (d : Derivation). revoke_lines_of p texts A (derivation_view p d)) c.args.told.now c.loop-row.row-index c.row-item.result (string_bytes c.args.out.now) c.loop-row-test.true)

pub returns : goal.returns
returns g c = λ A reached shows.
    let p = g.P.Profile.profile in
    let texts = naming_view c.args.naming.now in
    c.loop-row.invariant A reached shows
    ∙ ap (λ l. string_bytes c.args.out.now ++ flat_map (λ (d : Derivation). revoke_lines_of p texts A (derivation_view p d)) l) (take_whole c.args.told.now c.loop-row.row-index (omega (arith, c.loop-row-test.false)))
