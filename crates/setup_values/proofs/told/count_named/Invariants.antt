use Rattle.std.proofs.Common.{◌≡◌, ◌==◌, take}
use Rattle.std.specs.List.{count_by}
use Rattle.setup_values.specs.declared.names.Name.{Name}
use Rattle.setup_values.proofs.told.count_named.Given as goal

abbrev pub invariant-loop-name : goal.invariant-loop-name
invariant-loop-name l = l.count ≡ count_by (λ (n : Name). n.word == l.value) (take l.name-index l.names)
