-- The tests are those of the definition.
use Rattle.std.proofs.Common.{map, ap, ◌∙◌, sym}
use Rattle.slot_core.specs.Calls.{derivation_view}
use Rattle.command_import.proofs.Passed.{passed}
use Rattle.command_import.proofs.laid_out.is_laid_out.Goals as goal

pub returns : goal.returns
returns g c is =
    let p = g.P.Profile.profile in
    passed p c.args.plan.now c.args.layout.now c.args.kernel.now _ _ _ _
    c.as_slice-objects.ensures.value c.as_slice-slots.ensures.value c.as_slice-derived.ensures.value
    (ap (map (derivation_view p)) c.as_slice.ensures.value ∙ c.in_ok-rows.ensures.list) (sym c.passes.ensures ∙ is)
