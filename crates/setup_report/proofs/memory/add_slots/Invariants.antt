use Rattle.std.proofs.Common.{◌≡◌, ◌++◌, take, string_bytes}
use Rattle.std.specs.List.{flat_map}
use Rattle.slot_core.specs.declared.derivations.Derivation.{Derivation}
use Rattle.slot_core.specs.Calls.{derivation_view}
use Rattle.setup_report.specs.Naming.{naming_view}
use Rattle.setup_report.specs.Report.{slot_line}
use Rattle.setup_report.proofs.memory.add_slots.Given as goal

abbrev pub invariant-loop-slot : goal.invariant-loop-slot
invariant-loop-slot g l = string_bytes l.out ≡ string_bytes l.initial.out ++ flat_map (λ (d : Derivation). slot_line (naming_view l.naming) l.kernel (derivation_view g.P.Profile.profile d)) (take l.slot-index l.slots)
