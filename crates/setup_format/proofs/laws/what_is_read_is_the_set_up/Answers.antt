-- The proof of `what_is_read_is_the_set_up`: the goals that a search leaves open.
use Rattle.setup_format.proofs.Grammar.Reads.{reads_its_setup}
use Rattle.setup_format.proofs.laws.what_is_read_is_the_set_up.Goals as goal

pub returns : goal.returns
returns c = reads_its_setup
