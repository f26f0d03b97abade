use Rattle.std.proofs.Common.{◌≡◌, ◌++◌, drop}
use Rattle.std.specs.List.{filter_map}
use Rattle.slot_core.specs.declared.derivations.Derivation.{Derivation}
use Rattle.setup_policy_meaning.specs.Regions.{region_at}
use Rattle.setup_policy_meaning.proofs.regions.regions_at.Given as goal

abbrev pub invariant-loop-row : goal.invariant-loop-row
invariant-loop-row l = l.regions.items ++ filter_map (λ (d : Derivation). region_at l.base d.cap) (drop l.row-index l.rows) ≡ filter_map (λ (d : Derivation). region_at l.base d.cap) l.rows
