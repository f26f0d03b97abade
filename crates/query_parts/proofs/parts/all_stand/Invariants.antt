use Rattle.std.proofs.Common.{◌≡◌, true, take}
use Rattle.std.specs.List.{list_all}
use Rattle.slot_core.specs.declared.derivations.Derivation.{Derivation}
use Rattle.slot_core.specs.Calls.{derivation_view}
use Rattle.query_parts.specs.Listed.{entry_stands}
use Rattle.query_parts.proofs.parts.all_stand.Given as goal

abbrev pub invariant-loop-derivation : goal.invariant-loop-derivation
invariant-loop-derivation g l = list_all (λ (d : Derivation). entry_stands g.P.Profile.profile l.memory l.uses (derivation_view g.P.Profile.profile d).0) (take l.derivation-index l.derivations) ≡ true
