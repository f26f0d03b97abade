use Rattle.kernel_lists.proofs.Weights.{weight-counted_followers}
use Rattle.kernel_lists.proofs.firsts.weights_of_followers.Goals as goal

pub returns : goal.returns
returns g c = λ same f next xs respects. weight-counted_followers same f next xs respects
