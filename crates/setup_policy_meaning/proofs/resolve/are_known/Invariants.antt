use Rattle.std.proofs.Common.{◌≡◌, true, take}
use Rattle.std.specs.List.{list_all}
use Rattle.slot_core.specs.declared.derivations.Derivation.{Derivation}
use Rattle.setup_policy_meaning.specs.Policies.{is_known, names_known}
use Rattle.setup_policy_meaning.proofs.resolve.are_known.Given as goal

abbrev pub invariant-loop-row : goal.invariant-loop-row
invariant-loop-row l = list_all (λ (d : Derivation). names_known (is_known l.members l.actors.silent.now l.actors.messages.now) d.cap) (take l.row-index l.rows) ≡ true
