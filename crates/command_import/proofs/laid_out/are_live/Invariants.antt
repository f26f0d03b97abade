use Rattle.std.proofs.Common.{◌≡◌, true, map, take}
use Rattle.std.specs.List.{list_all}
use Rattle.slot_core.specs.Calls.{derivation_view}
use Rattle.command_import.specs.Laid.{is_object_live}
use Rattle.command_import.proofs.laid_out.are_live.Given as goal

abbrev pub invariant-loop-object : goal.invariant-loop-object
invariant-loop-object g l = list_all (is_object_live (map (derivation_view g.P.Profile.profile) l.rows)) (take l.object-index l.objects) ≡ true
