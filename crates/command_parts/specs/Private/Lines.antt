-- Lines about several things.
use Rattle.std.specs.Prelude.{ℕ, List, ◌++◌, is_some}
use Rattle.kernel_abstract.specs.Shown.{Shown, state_at}
use Rattle.setup_report.specs.Naming.{Texts}
use Rattle.setup_report.specs.Report.{terminated}
use Rattle.command_parts.specs.Text.{none_text}

-- a thread that is trusted, after a word that says how
abbrev pub trusted_line : List ℕ → Texts → Shown → ℕ → List ℕ
trusted_line word texts v thread = terminated (word ++ (texts.about thread ++ none_text (is_some (state_at v thread))))
