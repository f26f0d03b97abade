-- The proof of `thread_parts`: the loop's invariant.
use Rattle.std.proofs.Common.{take}
use Rattle.query_parts.specs.Private.Search.{AreAround}
use Rattle.query_parts.proofs.least.thread_parts.Given as goal

abbrev pub invariant-loop-thread : goal.invariant-loop-thread
invariant-loop-thread g l = AreAround g.P.Profile.profile (take l.thread-index l.threads) l.parts.memory.items l.parts.uses.items
