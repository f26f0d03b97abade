-- The proof of `texts_of_capabilities_end_by_themselves`: the goals that a search leaves open.
use Rattle.setup_report_laws.proofs.Capabilities.{capabilities_apart}
use Rattle.setup_report_laws.proofs.laws.texts_of_capabilities_end_by_themselves.Goals as goal

pub returns : goal.returns
returns c = capabilities_apart
