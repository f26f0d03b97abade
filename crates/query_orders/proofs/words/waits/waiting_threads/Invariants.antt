use Rattle.std.proofs.Common.{◌≡◌, ◌++◌, ◌-◌, length, drop}
use Rattle.kernel_abstract.specs.Waiting.{thread_waiting}
use Rattle.query_orders.specs.Private.Waiting.{threads_waiting_at}
use Rattle.query_orders.proofs.words.waits.waiting_threads.Given as goal

abbrev pub invariant-loop-next : goal.invariant-loop-next
invariant-loop-next g l =
    record {
      front : threads_waiting_at l.kernel l.endpoint ≡ l.threads.items ++ drop (length l.threads.items) (threads_waiting_at l.kernel l.endpoint);
      next : l.next ≡ thread_waiting l.kernel l.endpoint (length l.threads.items);
    }

abbrev pub decreases-loop-next : goal.decreases-loop-next
decreases-loop-next g l = length (threads_waiting_at l.kernel l.endpoint) - length l.threads.items
