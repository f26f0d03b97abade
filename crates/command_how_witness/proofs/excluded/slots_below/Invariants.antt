-- The slots of the derivations before a place are listed as far as they stand below the part.
use Rattle.std.proofs.Common.{◌≡◌, [], map, take}
use Rattle.slot_core.specs.Calls.{derivation_view}
use Rattle.command_how_witness.specs.Private.{slots_listed}
use Rattle.command_how_witness.proofs.excluded.slots_below.Given as goal

abbrev pub invariant-loop-derivation : goal.invariant-loop-derivation
invariant-loop-derivation g l =
    l.below.items ≡ slots_listed l.memory l.part [] (map (derivation_view g.P.Profile.profile) (take l.derivation-index l.derivations))
