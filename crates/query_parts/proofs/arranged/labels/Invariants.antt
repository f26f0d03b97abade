-- The proof of `labels`: the loop's invariant.
use Rattle.std.proofs.Common.{◌≡◌, drop, []}
use Rattle.query_parts.specs.Private.Arranging.{labels_from}
use Rattle.query_parts.proofs.arranged.labels.Given as goal

abbrev pub invariant-loop-stretch : goal.invariant-loop-stretch
invariant-loop-stretch l = labels_from l.seen.items (drop l.stretch-index l.memory) ≡ labels_from [] l.memory
