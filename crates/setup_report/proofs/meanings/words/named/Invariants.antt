use Rattle.std.proofs.Common.{◌≡◌, drop, string_bytes}
use Rattle.std.specs.Prelude.{find}
use Rattle.std.specs.Str.{bytes_eq}
use Rattle.setup_values.specs.declared.names.Name.{Name}
use Rattle.setup_report.proofs.meanings.words.named.Given as goal

abbrev pub invariant-loop-name : goal.invariant-loop-name
invariant-loop-name l =
    find (λ (n : Name). bytes_eq (string_bytes n.text) l.text) (drop l.name-index l.names) ≡ find (λ (n : Name). bytes_eq (string_bytes n.text) l.text) l.names
