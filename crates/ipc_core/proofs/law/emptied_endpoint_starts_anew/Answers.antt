use Rattle.ipc_core.proofs.Histories.Deliveries.{starts_anew}
use Rattle.ipc_core.proofs.law.emptied_endpoint_starts_anew.Goals as goal

pub returns : goal.returns
returns c = starts_anew
