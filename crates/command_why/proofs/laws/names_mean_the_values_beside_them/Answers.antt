-- The proof of `names_mean_the_values_beside_them`: the goals that a search leaves open.
use Rattle.command_why.proofs.Meanings.{names_mean}
use Rattle.command_why.proofs.laws.names_mean_the_values_beside_them.Goals as goal

pub returns : goal.returns
returns c = names_mean
