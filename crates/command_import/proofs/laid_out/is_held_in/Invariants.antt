use Rattle.std.proofs.Common.{◌≡◌, false, take}
use Rattle.std.specs.List.{list_any}
use Rattle.slot_core.specs.declared.derivations.Derivation.{Derivation}
use Rattle.slot_core.specs.Calls.{derivation_view}
use Rattle.command_import.specs.Laid.{is_capability_of}
use Rattle.command_import.proofs.laid_out.is_held_in.Given as goal

abbrev pub invariant-loop-row : goal.invariant-loop-row
invariant-loop-row g l = list_any (λ (d : Derivation). is_capability_of l.object.kind (derivation_view g.P.Profile.profile d).0.cap l.object) (take l.row-index l.rows) ≡ false
