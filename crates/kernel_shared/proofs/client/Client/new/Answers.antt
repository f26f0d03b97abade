use Rattle.kernel_shared.proofs.Clients.{new_client}
use Rattle.kernel_shared.proofs.client.Client.new.Goals as goal

pub invariant_of-result : goal.invariant_of-result
invariant_of-result g c = new_client _ _ _ _ _ _ c.requires.reader c.requires.share.0 c.requires.share.1
