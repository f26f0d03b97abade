-- The proof of `are_parts_closed`: the goals that a search leaves open.
use Rattle.std.proofs.Common.{◌∙◌, sym, ap}
use Rattle.std.specs.List.{list_all}
use Rattle.slot_core.specs.declared.derivations.Derivation.{Derivation}
use Rattle.slot_core.specs.Calls.{derivation_view}
use Rattle.query_parts.specs.Listed.{entry_stands}
use Rattle.query_parts.proofs.Closed.{all_told, confined_ever}
use Rattle.query_parts.proofs.parts.are_parts_closed.Goals as goal

pub returns-clause-value : goal.returns-clause-value
returns-clause-value g c =
    let p = g.P.Profile.profile in
    c.all_stand.ensures
    ∙ ap (list_all (λ (d : Derivation). entry_stands p c.args.memory.now c.args.uses.now (derivation_view p d).0)) c.as_slice.ensures.value
    ∙ all_told (entry_stands p c.args.memory.now c.args.uses.now) p c.args.kernel.now.derivations
    c.in_ok-derivations.derivations.items c.in_ok-derivations.ensures.list

pub returns-clause-ever : goal.returns-clause-ever
returns-clause-ever g c tested =
    confined_ever g.P.Profile.profile c.args.memory.now c.args.uses.now c.args.kernel.now (sym (returns-clause-value g c) ∙ tested)
