-- What was said of the questions so far. No public clause cites it.
use Rattle.std.specs.Prelude.{⊤, ℕ, Bool, true, Option, Some, None}
use Rattle.command_how.specs.declared.line.NoWitness.{NoWitness}
use Rattle.command_how.specs.Line.{says_excluded}
use Rattle.command_policy_how.specs.declared.asking.BreachOutcome.{BreachOutcome}
use Rattle.command_policy_how.specs.declared.asking.BreachOutcome.TheVariants.{Without, NotAsked}
use Rattle.command_policy_how.specs.Asked.{IsOfMost}

-- all that were asked so far are excluded; nothing was said where none was asked
abbrev pub say_excluded : Option NoWitness → Bool
say_excluded None = true
say_excluded (Some answer) = says_excluded answer

abbrev pub AreOfMost : ℕ → Option NoWitness → Type 0
AreOfMost most None = ⊤
AreOfMost most (Some answer) = IsOfMost most answer

abbrev pub without : Option NoWitness → BreachOutcome
without None = NotAsked
without (Some answer) = Without answer
