-- What the text of `--witness` names.
use Rattle.std.specs.Prelude.{◌≡◌, ℕ, codes, true, false, List, Option, Some, unwrap_or}
use Rattle.std.specs.Str.{bytes_eq}
use Rattle.command_line.specs.CommandLine.{Says}
use Rattle.command_core.specs.declared.fault.Verdict.{Verdict}
use Rattle.command_check.specs.Commands.{IsAnswerTo}
use Rattle.command_explore.specs.Witnessed.{IsExploreWitness}
use Rattle.command_explore.specs.declared.report.witness.Witness.{Witness}
use Rattle.command_explore.specs.declared.report.witness.Witness.TheVariants.{Answer, Stuck}
use Rattle.program.specs.Texts.{before_mark, behind_mark}

-- the texts before and after the first dot (46)
abbrev pub before_dot : List ℕ → List ℕ
before_dot text = before_mark 46 text

abbrev pub behind_dot : List ℕ → List ℕ
behind_dot text = behind_mark 46 text

-- the number that a text says, or 0, the number of none, if it says none
abbrev pub Numbers : List ℕ → ℕ → Type 0
Numbers text n = (said : Option ℕ) × Says (Some text) said × (n ≡ unwrap_or said 0)

-- `I.J` names the answer J of call I, and `stuck.J` the J-th way to end stuck; any other text names what the report does not list, since
-- it counts calls, answers and ways from 1 on
abbrev pub NamesWitness : List ℕ → Witness → Type 0
NamesWitness which (Answer call place) =
    (bytes_eq (before_dot which) (codes "stuck") ≡ false) × Numbers (before_dot which) call × Numbers (behind_dot which) place
NamesWitness which (Stuck place) = (bytes_eq (before_dot which) (codes "stuck") ≡ true) × Numbers (behind_dot which) place

-- the set-up with the calls of the order that the text names
abbrev pub IsNamedWitness : List ℕ → ℕ → ℕ → List ℕ → List ℕ → Verdict → Type 0
IsNamedWitness which first states input text verdict =
    (witness : Witness) × NamesWitness which witness × IsAnswerTo (IsExploreWitness first states witness) input text verdict
