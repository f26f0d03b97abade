use Rattle.std.proofs.Common.{◌≡◌, ◌++◌, length}
use Rattle.query_orders.specs.Words.{listed}
use Rattle.query_orders.specs.Nodes.{wait_words}
use Rattle.query_orders.proofs.exploring.words.add_waits.Given as goal

abbrev pub invariant-loop-call : goal.invariant-loop-call
invariant-loop-call l = l.words.items ++ listed wait_words l.rest ≡ l.fn.words.items ++ listed wait_words l.waits

abbrev pub decreases-loop-call : goal.decreases-loop-call
decreases-loop-call l = length l.rest
