use Rattle.query_reach.proofs.Sending.{IsAdded}
use Rattle.query_reach.proofs.senders.add_channels.Given as goal

abbrev pub invariant-loop-receiver : goal.invariant-loop-receiver
invariant-loop-receiver l = IsAdded l.sender l.fn.channels.items l.receivers l.receiver-index l.channels.items l.alone
