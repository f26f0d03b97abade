use Rattle.kernel_lists.proofs.Shares.{each_begins}
use Rattle.kernel_lists.proofs.keyed.keys_carry_beginnings.Goals as goal

pub returns : goal.returns
returns g c = each_begins
