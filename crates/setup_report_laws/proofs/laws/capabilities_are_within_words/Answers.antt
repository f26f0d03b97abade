-- The proof of `capabilities_are_within_words`: the goals that a search leaves open.
use Rattle.setup_report_laws.proofs.Measured.{reached_words}
use Rattle.setup_report_laws.proofs.laws.capabilities_are_within_words.Goals as goal

pub returns : goal.returns
returns c = reached_words
