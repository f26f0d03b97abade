-- What the program writes of one order of the calls that the clients of a set-up make, and its verdict.
use Rattle.std.specs.Prelude.{◌≡◌, ℕ, List, [], Option, None, Some, Ok}
use Rattle.toml.specs.Data.{Members}
use Rattle.cap_core.specs.declared.profile.ProfileName.{ProfileName}
use Rattle.setup_format.specs.Views.{ReadView}
use Rattle.setup_format.specs.Setups.{document_of}
use Rattle.command_explore.specs.Witnesses.{witness_of}
use Rattle.command_explore.specs.declared.report.witness.Witness.{Witness}
use Rattle.command_core.specs.declared.fault.Verdict.{Verdict}
use Rattle.command_core.specs.declared.fault.Verdict.TheVariants.{AllMet, Absent}

-- a TOML text that is read as the table; no text where there is none
abbrev pub IsTextOfTable : Option Members → List ℕ → Verdict → Type 0
IsTextOfTable (Some table) text verdict = (document_of text ≡ Ok table) × (verdict ≡ AllMet)
IsTextOfTable None text verdict = (text ≡ []) × (verdict ≡ Absent)

-- of the set-up that makes the calls of a witness, or of none if no order is known for it
abbrev pub IsExploreWitness : ℕ → ℕ → Witness → ProfileName → ReadView → List ℕ → Verdict → Type 0
IsExploreWitness first states witness p read text verdict =
    IsTextOfTable (witness_of p read.setup first states witness read.table) text verdict
