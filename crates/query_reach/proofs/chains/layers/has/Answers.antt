use Rattle.std.proofs.Common.{arith, ◌∙◌}
use Rattle.std.proofs.lemmas.Bool.{le-leb}
use Rattle.query_reach.proofs.Wide.{has_wide}
use Rattle.query_reach.proofs.chains.layers.has.Goals as goal

pub returns-then-range-ge64 : goal.returns-then-range-ge64
returns-then-range-ge64 c =
    le-leb 64 c.args.range.bits (omega arith) ∙ has_wide c.args.range.first c.args.range.bits c.args.address (omega arith) (omega arith) (omega arith)
