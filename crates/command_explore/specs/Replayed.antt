-- What `check` writes for the set-up of a witness.
use Rattle.std.specs.Prelude.{◌≡◌, ℕ, List, Some, Ok}
use Rattle.setup_format.specs.Setups.{read_of_bytes}
use Rattle.setup_format.specs.Views.{ReadView}
use Rattle.command_explore.specs.declared.report.witness.Witness.{Witness}
use Rattle.command_explore.specs.Numbers.{client_numbers_of}
use Rattle.command_explore.specs.Witnesses.{named_order, expecting}
use Rattle.command_explore.specs.Replays.{explored, MakesOrder, run_replies, run_end, ComesToTold}
use Rattle.command_check.specs.Commands.{IsAnswerTo}
use Rattle.command_check.specs.Program.{program, outcome_of, replies_to, end_state}
use Rattle.command_core.specs.declared.fault.Verdict.{Verdict}
use Rattle.command_core.specs.declared.fault.Verdict.TheVariants.{AllMet}
use Rattle.command_explore.specs.Witnessed.{IsExploreWitness}

-- the input is a set-up, an order is told of it for the witness, and the text is a set-up that makes the calls of this order, with
-- the same names; what `check` writes for it is the report on its run, which comes to what is told
pub record IsReplay (first states : ℕ) (witness : Witness) (input text : List ℕ) : Type 0 where
  pub read : ReadView
  pub is_read : read_of_bytes input ≡ Ok read
  pub order : List ℕ
  pub told : named_order (client_numbers_of read.setup) (explored read.setup first states) witness ≡ Some order
  pub made : ReadView
  pub accepted : read_of_bytes text ≡ Ok made
  pub names : made.names ≡ read.names
  pub makes : MakesOrder read.setup order (expecting witness) made.setup
  pub report : program text ≡ outcome_of made.setup.profile made.setup
  pub replies : replies_to made.setup.profile made.setup ≡ run_replies made.setup
  pub ends : end_state made.setup.profile made.setup ≡ run_end made.setup
  pub comes : ComesToTold read.setup (explored read.setup first states) witness made.setup

-- a text that is written for a witness is such a set-up
abbrev pub IsWitnessReplay : ℕ → ℕ → Witness → List ℕ → List ℕ → Verdict → Type 0
IsWitnessReplay first states witness input text verdict =
    IsAnswerTo (IsExploreWitness first states witness) input text verdict → verdict ≡ AllMet → IsReplay first states witness input text
