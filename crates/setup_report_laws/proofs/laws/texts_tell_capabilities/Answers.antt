-- The proof of `texts_tell_capabilities`: the goals that a search leaves open.
use Rattle.setup_report_laws.proofs.Told.{capability_told}
use Rattle.setup_report_laws.proofs.laws.texts_tell_capabilities.Goals as goal

pub returns : goal.returns
returns c = capability_told
