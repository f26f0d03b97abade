use Rattle.std.proofs.Common.{◌≡◌, false, take}
use Rattle.std.specs.List.{list_any}
use Rattle.slot_core.specs.declared.derivations.Derivation.{Derivation}
use Rattle.slot_core.specs.Calls.{derivation_view}
use Rattle.command_import.specs.Laid.{is_pair}
use Rattle.command_import.proofs.laid_out.is_pair_in.Given as goal

abbrev pub invariant-loop-row : goal.invariant-loop-row
invariant-loop-row g l = list_any (λ (d : Derivation). is_pair l.above l.below (derivation_view g.P.Profile.profile d)) (take l.row-index l.rows) ≡ false
