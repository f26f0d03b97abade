use Rattle.std.proofs.Common.{arith}
use Rattle.query_reach.proofs.Sending.{senders_all}
use Rattle.query_reach.proofs.senders.channels.Goals as goal

pub returns : goal.returns
returns c = senders_all c.args.words.now c.loop-word.word-index c.loop-word.list.items (omega (arith, c.loop-word-test.false)) c.loop-word.invariant
