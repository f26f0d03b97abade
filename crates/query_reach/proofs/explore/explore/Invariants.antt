use Rattle.std.proofs.Common.{◌≡◌, ℕ, ◌+◌, length, map}
use Rattle.cap_core.specs.Numbers.{word_bits}
use Rattle.kernel_forest.specs.Forest.{Forest}
use Rattle.kernel_forest.specs.Entries.{Entry}
use Rattle.query_reach.specs.FullSlots.{AreFullSlots}
use Rattle.query_reach.specs.Private.Paths.{path_at, IsWide, AreWithinBits}
use Rattle.query_reach.specs.Private.Exploring.{IsSpaceExplored}
use Rattle.query_reach.proofs.explore.explore.Given as goal

abbrev pub invariant-loop-read : goal.invariant-loop-read
invariant-loop-read g l = record {
  wide : IsWide (word_bits g.P.Profile.profile + 1) (length l.filled) (map (λ r. r.items) l.rows.items);
  bits : AreWithinBits (map (λ r. r.items) l.rows.items);
  front : (place : ℕ) → path_at (map (λ r. r.items) l.rows.items) 0 place ≡ path_at (map (λ r. r.items) l.fn.rows.items) 0 place;
  explored : (f : Forest Entry) → AreFullSlots f l.filled → IsSpaceExplored g.P.Profile.profile f l.filled (map (λ r. r.items) l.fn.rows.items) (map (λ r. r.items) l.rows.items) l.read;
}
