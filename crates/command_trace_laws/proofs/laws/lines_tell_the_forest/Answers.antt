-- The proof of `lines_tell_the_forest`: the goals that a search leaves open.
use Rattle.command_trace_laws.proofs.Standing.{forest_told, forest_replayed}
use Rattle.command_trace_laws.proofs.laws.lines_tell_the_forest.Goals as goal

pub returns : goal.returns
returns c = record { states = forest_told; runs = forest_replayed }
