use Rattle.ipc_core.proofs.Histories.Deliveries.{pairs_are_delivered}
use Rattle.ipc_core.proofs.law.each_pair_is_delivered_once.Goals as goal

pub returns : goal.returns
returns c = pairs_are_delivered
