use Rattle.std.proofs.Common.{◌≡◌, ◌++◌, take, string_bytes}
use Rattle.std.specs.List.{flat_map}
use Rattle.slot_core.specs.declared.derivations.Derivation.{Derivation}
use Rattle.slot_core.specs.Calls.{derivation_view}
use Rattle.kernel_abstract.specs.Reached.{IsReached}
use Rattle.kernel_abstract.specs.State.{State, shown}
use Rattle.setup_report.specs.Naming.{naming_view}
use Rattle.command_audit.specs.Revokes.{revoke_lines_of}
use Rattle.command_audit.proofs.revokes.add_revokes.Given as goal

abbrev pub invariant-loop-row : goal.invariant-loop-row
invariant-loop-row g l =
    let p = g.P.Profile.profile in
    (A : State) → IsReached p A → l.kernel ≡ shown A →
    string_bytes l.out ≡ string_bytes l.initial.out ++ flat_map (λ (d : Derivation). revoke_lines_of p (naming_view l.naming) A (derivation_view p d)) (take l.row-index l.told)
