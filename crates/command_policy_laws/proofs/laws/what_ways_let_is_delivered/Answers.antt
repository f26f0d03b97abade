-- The proof of `what_ways_let_is_delivered`: the goals that a search leaves open.
use Rattle.command_policy_laws.proofs.Held.{ways_held_ever}
use Rattle.command_policy_laws.proofs.laws.what_ways_let_is_delivered.Goals as goal

pub returns : goal.returns
returns c p memory uses v ways i j = ways_held_ever p memory uses ways i j v
