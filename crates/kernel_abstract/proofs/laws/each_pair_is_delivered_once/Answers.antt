-- The proof of `each_pair_is_delivered_once`: the goals that a search leaves open.
use Rattle.kernel_abstract.proofs.Messages.CompletedPairs.{run_grows}
use Rattle.kernel_abstract.proofs.laws.each_pair_is_delivered_once.Goals as goal

pub returns : goal.returns
returns c p A calls reached e = run_grows p A calls reached e
