use Rattle.std.proofs.Common.{◌≡◌, filter, take}
use Rattle.slot_core.specs.declared.derivations.Derivation.{Derivation}
use Rattle.slot_core.specs.Calls.{derivation_view}
use Rattle.setup_report.specs.State.{slot_of}
use Rattle.command_audit.specs.Revokes.{is_revoke_told}
use Rattle.command_audit.proofs.revokes.told_rows.Given as goal

abbrev pub invariant-loop-row : goal.invariant-loop-row
invariant-loop-row g l =
    l.told.items
    ≡ filter (λ (d : Derivation). is_revoke_told l.trusted l.others (slot_of (derivation_view g.P.Profile.profile d))) (take l.row-index l.rows)
