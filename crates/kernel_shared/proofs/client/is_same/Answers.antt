use Rattle.std.proofs.Common.{sym, ◌∙◌}
use Rattle.kernel_shared.proofs.Equal.{same_entry}
use Rattle.kernel_shared.proofs.client.is_same.Goals as goal

pub returns : goal.returns
returns c = λ t. same_entry _ _ (sym c.eq.ensures ∙ t)
