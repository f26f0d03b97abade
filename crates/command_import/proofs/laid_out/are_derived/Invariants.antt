use Rattle.std.proofs.Common.{◌≡◌, true, map, take}
use Rattle.std.specs.List.{list_all}
use Rattle.slot_core.specs.Calls.{derivation_view}
use Rattle.command_import.specs.Laid.{is_derived}
use Rattle.command_import.proofs.laid_out.are_derived.Given as goal

abbrev pub invariant-loop-pair : goal.invariant-loop-pair
invariant-loop-pair g l = list_all (is_derived g.P.Profile.profile l.objects l.slots (map (derivation_view g.P.Profile.profile) l.rows)) (take l.pair-index l.derived) ≡ true
