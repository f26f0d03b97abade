-- The proof of `part_slots`: the goals that a search leaves open.
use Rattle.std.proofs.Common.{◌∙◌, map, ap, arith}
use Rattle.std.proofs.lemmas.List.{take_all}
use Rattle.slot_core.specs.declared.derivations.Derivation.{Derivation}
use Rattle.slot_core.specs.Calls.{derivation_view}
use Rattle.command_parts.specs.Takes as spec
use Rattle.command_parts.proofs.Given.{told_slots}
use Rattle.command_parts.proofs.takes.part_slots.Goals as goal

pub returns : goal.returns
returns g c =
    let p = g.P.Profile.profile in
    let memory = c.args.memory.now in
    let all = c.deref-derivation-items.result.now in
    c.loop-derivation.invariant
    ∙ ap (map (λ (d : Derivation). spec.part_slot memory (derivation_view p d))) (take_all c.loop-derivation.derivation-index all (omega arith))
    ∙ told_slots p memory all c.args.kernel.now.derivations (ap (map (derivation_view p)) c.deref-derivation-items.ensures.value ∙ c.in_ok-derivations.ensures.list)
