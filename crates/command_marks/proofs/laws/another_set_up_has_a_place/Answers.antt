-- The proof of `another_set_up_has_a_place`.
use Rattle.command_marks.proofs.Places.{has_place}
use Rattle.command_marks.proofs.laws.another_set_up_has_a_place.Goals as goal

pub returns : goal.returns
returns c = has_place
