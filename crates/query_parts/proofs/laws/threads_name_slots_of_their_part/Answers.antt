-- The proof of `threads_name_slots_of_their_part`: the goals that a search leaves open.
use Rattle.query_parts.proofs.Same.{names_its_own}
use Rattle.query_parts.proofs.laws.threads_name_slots_of_their_part.Goals as goal

pub returns : goal.returns
returns c = names_its_own
