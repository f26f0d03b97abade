-- By which name a set-up says that `import --flows` made it.
use Rattle.std.specs.Prelude.{Bool, codes}
use Rattle.std.specs.Str.{bytes_eq}
use Rattle.std.specs.List.{list_any}
use Rattle.setup_values.specs.Names.{Names}

-- one of the names is the mark, whatever its word
abbrev pub is_for_flows : Names → Bool
is_for_flows = list_any (λ n. bytes_eq n.0 (codes "import_flows"))
