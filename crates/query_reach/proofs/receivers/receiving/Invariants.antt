use Rattle.std.proofs.Common.{◌≡◌, filter, take}
use Rattle.query_reach.specs.ByEndpoint.{may_receive}
use Rattle.query_reach.proofs.receivers.receiving.Given as goal

abbrev pub invariant-loop-word : goal.invariant-loop-word
invariant-loop-word l = l.list.items ≡ filter may_receive (take l.word-index l.words)
