use Rattle.std.proofs.Common.{◌≡◌, take, filter}
use Rattle.std.specs.List.{flat_map}
use Rattle.query_reach.specs.Channels.{channels_of, sends_by_word}
use Rattle.query_reach.proofs.senders.channels.Given as goal

abbrev pub invariant-loop-word : goal.invariant-loop-word
invariant-loop-word l = l.list.items ≡ flat_map (channels_of l.words) (filter sends_by_word (take l.word-index l.words))
