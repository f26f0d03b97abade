use Rattle.std.proofs.Common.{◌+◌, length, map}
use Rattle.cap_core.specs.Numbers.{word_bits}
use Rattle.query_reach.specs.Private.Paths.{IsWide}
use Rattle.query_reach.specs.Private.Exploring.{AreStarts}
use Rattle.query_reach.specs.Private.Entries.{HasStarts}
use Rattle.query_reach.proofs.held.start_rows.Given as goal

abbrev pub invariant-loop-r : goal.invariant-loop-r
invariant-loop-r g l = record {
  wide : IsWide (word_bits g.P.Profile.profile + 1) (length l.filled) (map (λ r. r.items) l.rows.items);
  starts : AreStarts (map (λ r. r.items) l.rows.items);
  of : HasStarts l.filled l.reached l.r-index (map (λ r. r.items) l.rows.items);
}
