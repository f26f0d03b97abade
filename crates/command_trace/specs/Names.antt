-- The names of a set-up.
use Rattle.std.specs.Prelude.{codes, ℕ, List, ◌++◌}
use Rattle.std.specs.List.{flat_map}
use Rattle.std.specs.Fmt.{decimal}
use Rattle.setup_values.specs.Names.{Names}
use Rattle.setup_report.specs.Report.{terminated}

-- each name of the set-up, and the word that it stands for
abbrev pub name_line : List ℕ × ℕ → List ℕ
name_line name = terminated (codes "name " ++ (name.0 ++ (codes " " ++ decimal name.1)))

-- a line for each name of a set-up
abbrev pub name_lines : Names → List ℕ
name_lines names = flat_map name_line names
