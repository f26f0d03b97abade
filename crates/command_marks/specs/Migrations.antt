-- What the program writes of a set-up of format 1 that is to be one of format 2.
use Rattle.std.specs.Prelude.{◌≡◌, ℕ, List, Result, Ok, Err}
use Rattle.toml.specs.Data.{Members}
use Rattle.setup_format.specs.Faults.{Fault}
use Rattle.setup_format.specs.Refusal.{refusal_line}
use Rattle.setup_format.specs.Setups.{document_of}
use Rattle.setup_migrate.specs.Migration.{migrated_bytes}
use Rattle.command_check.specs.Program.{program}
use Rattle.command_core.specs.declared.fault.Verdict.{Verdict}
use Rattle.command_core.specs.declared.fault.Verdict.TheVariants.{AllMet, Refused}

-- a TOML text that is read as the table, or the line of the fault
abbrev pub IsTextOf : Result Members Fault → List ℕ → Verdict → Type 0
IsTextOf (Ok table) text verdict = (document_of text ≡ Ok table) × (verdict ≡ AllMet)
IsTextOf (Err fault) text verdict = (text ≡ refusal_line fault) × (verdict ≡ Refused)

-- what `check` writes for the text is what it writes for the input
abbrev pub KeepsReport : List ℕ → List ℕ → Verdict → Type 0
KeepsReport input text verdict = verdict ≡ AllMet → program text ≡ program input

-- the table of format 2 for the set-up of format 1 that the input is, or that set-up's first fault; a migrated set-up has
-- the same report
abbrev pub IsMigration : List ℕ → List ℕ → Verdict → Type 0
IsMigration input text verdict = IsTextOf (migrated_bytes input) text verdict × KeepsReport input text verdict
