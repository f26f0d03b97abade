use Rattle.std.proofs.Common.{◌≡◌, false, take, string_bytes}
use Rattle.std.specs.List.{list_any}
use Rattle.std.specs.Str.{bytes_eq}
use Rattle.setup_values.specs.declared.names.Name.{Name}
use Rattle.setup_marks.proofs.has_name.Given as goal

abbrev pub invariant-loop-name : goal.invariant-loop-name
invariant-loop-name l = list_any (λ (n : Name). bytes_eq (string_bytes n.text) l.text) (take l.name-index l.names) ≡ false
