use Rattle.query_reach.proofs.ByEndpoint.{first_by_endpoint, receivers_at}
use Rattle.query_reach.proofs.receivers.first_receivers.Goals as goal

pub returns-clause-order : goal.returns-clause-order
returns-clause-order c = rw c.keep_first.ensures (first_by_endpoint _ c.in_ok-list.ensures.order)

pub returns-clause-receivers : goal.returns-clause-receivers
returns-clause-receivers c e =
    rw c.keep_first.ensures
    (receivers_at e c.args.words.now _ _ c.in_ok-list.ensures.order (rw c.as_slice.ensures.value at (c.in_ok-list.ensures.same e)) c.in_ok-reading.ensures)
