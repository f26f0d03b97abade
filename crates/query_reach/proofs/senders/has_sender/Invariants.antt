use Rattle.std.proofs.Common.{◌≡◌, false, take}
use Rattle.std.specs.List.{list_any}
use Rattle.query_reach.specs.Channels.{is_sender_to}
use Rattle.query_reach.proofs.senders.has_sender.Given as goal

abbrev pub invariant-loop-word : goal.invariant-loop-word
invariant-loop-word l = list_any (is_sender_to l.receiver) (take l.word-index l.words) ≡ false
