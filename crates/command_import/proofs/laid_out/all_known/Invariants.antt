use Rattle.std.proofs.Common.{◌≡◌, true, take}
use Rattle.std.specs.List.{list_all}
use Rattle.slot_core.specs.declared.derivations.Derivation.{Derivation}
use Rattle.slot_core.specs.Calls.{derivation_view}
use Rattle.command_import.specs.Laid.{is_known}
use Rattle.command_import.proofs.laid_out.all_known.Given as goal

abbrev pub invariant-loop-row : goal.invariant-loop-row
invariant-loop-row g l = list_all (λ (d : Derivation). is_known g.P.Profile.profile l.end l.loader l.objects l.slots (derivation_view g.P.Profile.profile d).0.slot) (take l.row-index l.rows) ≡ true
