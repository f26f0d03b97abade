use Rattle.query_orders.proofs.KernelWords.Telling.{tells}
use Rattle.query_orders.proofs.words.laws.words_tell_what_is_shown.Goals as goal

pub returns : goal.returns
returns c = tells
