use Rattle.ipc_core.proofs.Histories.Deliveries.{pairs_go_on}
use Rattle.ipc_core.proofs.law.pairs_go_on_standing.Goals as goal

pub returns : goal.returns
returns c = pairs_go_on
