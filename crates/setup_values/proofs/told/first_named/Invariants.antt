use Rattle.std.proofs.Common.{◌≡◌, ◌==◌, drop}
use Rattle.std.specs.Prelude.{find}
use Rattle.setup_values.specs.declared.names.Name.{Name}
use Rattle.setup_values.proofs.told.first_named.Given as goal

abbrev pub invariant-loop-name : goal.invariant-loop-name
invariant-loop-name l = find (λ (n : Name). n.word == l.value) (drop l.name-index l.names) ≡ find (λ (n : Name). n.word == l.value) l.names
