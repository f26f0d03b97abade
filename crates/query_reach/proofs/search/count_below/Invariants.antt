use Rattle.std.proofs.Common.{◌≡◌, ℕ, ◌-◌, ◌<◌, ◌≤◌, length, Some}
use Rattle.std.specs.List.{slice_get}
use Rattle.query_reach.specs.declared.filled.FullSlot.{FullSlot}
use Rattle.query_reach.proofs.search.count_below.Given as goal

abbrev pub invariant-loop-low : goal.invariant-loop-low
invariant-loop-low l = record {
  order : l.low ≤ l.high;
  within : l.high ≤ length l.filled;
  below : (k : ℕ) (u : FullSlot) → k < l.low → slice_get l.filled k ≡ Some u → u.address < l.address;
  from : (k : ℕ) (u : FullSlot) → l.high ≤ k → slice_get l.filled k ≡ Some u → l.address ≤ u.address;
}

abbrev pub decreases-loop-low : goal.decreases-loop-low
decreases-loop-low l = l.high - l.low
