use Rattle.std.proofs.Common.{◌≡◌, take}
use Rattle.std.specs.List.{flat_map}
use Rattle.kernel_forest.specs.Forest.{Forest}
use Rattle.kernel_forest.specs.Entries.{Entry}
use Rattle.query_reach.specs.FullSlots.{AreFullSlots}
use Rattle.command_audit.specs.Channels.{endpoint_words_of}
use Rattle.command_audit.proofs.channels.channel_words.Given as goal

abbrev pub invariant-loop-slots : goal.invariant-loop-slots
invariant-loop-slots l = (f : Forest Entry) → AreFullSlots f l.filled → l.words.items ≡ flat_map (endpoint_words_of f l.list) (take l.slots-index l.list)
