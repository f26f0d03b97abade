-- The list of the derivations tells what stands below a slot.
use Rattle.std.proofs.Common.{◌∙◌, map}
use Rattle.slot_core.specs.Calls.{derivation_view}
use Rattle.command_how_witness.proofs.Below.{told_none, told_one}
use Rattle.command_how_witness.proofs.excluded.stands_none_below.Goals as goal

pub returns-clause-none : goal.returns-clause-none
returns-clause-none g c = λ is uses f told distinct.
    told_none c.args.memory.now c.args.part c.args.other (map (derivation_view g.P.Profile.profile) c.args.derivations.now) c.as_slice.result.now
    (c.as_slice.ensures.value ∙ c.in_ok-below.ensures) f told distinct uses c.has_one_of.result c.has_one_of.ensures is

pub returns-clause-one : goal.returns-clause-one
returns-clause-one g c = λ is f told distinct.
    told_one c.args.memory.now c.args.part c.args.other (map (derivation_view g.P.Profile.profile) c.args.derivations.now) c.as_slice.result.now
    (c.as_slice.ensures.value ∙ c.in_ok-below.ensures) f told distinct c.has_one_of.result c.has_one_of.ensures is
