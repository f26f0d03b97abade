-- The proof of `new_endpoint_starts_empty`: the goals that a search leaves open.
use Rattle.kernel_abstract.proofs.Reached.NewEndpoints.{new_is_empty}
use Rattle.kernel_abstract.proofs.laws.new_endpoint_starts_empty.Goals as goal

pub returns : goal.returns
returns c = new_is_empty
