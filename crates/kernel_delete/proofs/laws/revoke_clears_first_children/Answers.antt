use Rattle.kernel_delete.proofs.Revoking.{revoke_none, revoke_some, revoke_ends}
use Rattle.kernel_delete.proofs.laws.revoke_clears_first_children.Goals as goal

pub returns : goal.returns
returns c = record { childless = revoke_none; child = revoke_some; ends = revoke_ends }
