use Rattle.std.proofs.Common.{◌≡◌, ◌++◌, length}
use Rattle.query_orders.specs.Words.{listed, waiter_words}
use Rattle.query_orders.specs.Private.Waiting.{waiter_shown}
use Rattle.query_orders.proofs.words.waits.add_waiters.Given as goal

abbrev pub invariant-loop-thread : goal.invariant-loop-thread
invariant-loop-thread g l =
    l.words.items ++ listed (λ t. waiter_words (waiter_shown l.kernel t)) l.rest ≡ l.fn.words.items ++ listed (λ t. waiter_words (waiter_shown l.kernel t)) l.threads

abbrev pub decreases-loop-thread : goal.decreases-loop-thread
decreases-loop-thread g l = length l.rest
