use Rattle.std.proofs.Common.{◌≡◌, take}
use Rattle.kernel_forest.specs.Forest.{Forest}
use Rattle.kernel_forest.specs.Entries.{Entry}
use Rattle.query_reach.specs.FullSlots.{AreFullSlots}
use Rattle.query_reach.specs.Endpoints.{endpoint_words}
use Rattle.query_reach.proofs.endpoints.endpoint_words.Given as goal

abbrev pub invariant-loop-r : goal.invariant-loop-r
invariant-loop-r l = (f : Forest Entry) → AreFullSlots f l.filled → l.list.items ≡ endpoint_words f l.thread l.shared (take l.r-index l.reached)
