-- The proof of `lines_tell_the_forest`: the goals that a search leaves open.
use Rattle.command_tree.proofs.Inputs.{same_inputs}
use Rattle.command_tree.proofs.ReadBack.{same_states}
use Rattle.command_tree.proofs.laws.lines_tell_the_forest.Goals as goal

pub returns : goal.returns
returns c = record { states = same_states; inputs = same_inputs }
