use Rattle.std.proofs.Common.{◌≡◌, drop}
use Rattle.std.specs.Prelude.{find}
use Rattle.slot_core.specs.declared.derivations.Derivation.{Derivation}
use Rattle.setup_report.specs.Naming as spec
use Rattle.setup_report.proofs.objects.boot_row.Given as goal

abbrev pub invariant-loop-row : goal.invariant-loop-row
invariant-loop-row l =
    find (λ (d : Derivation). spec.names_object l.object d.cap) (drop l.row-index l.boot) ≡ find (λ (d : Derivation). spec.names_object l.object d.cap) l.boot
