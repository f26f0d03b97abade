use Rattle.kernel_forest.specs.Entries.{slots}
use Rattle.query_orders.proofs.KernelWords.Telling.{apart}
use Rattle.query_orders.proofs.KernelWords.Forests.{derivations_tell}
use Rattle.query_orders.proofs.words.laws.derivations_tell_the_forest.Goals as goal

pub returns : goal.returns
returns c = λ f g fs gs e. derivations_tell f g (apart (slots f) fs) (apart (slots g) gs) e
