use Rattle.std.proofs.Common.{◌≡◌, ℕ, ◌<◌, Some, map}
use Rattle.std.specs.List.{slice_get, Contains}
use Rattle.query_reach.specs.declared.filled.FullSlot.{FullSlot}
use Rattle.query_reach.specs.declared.held.Held.{Held}
use Rattle.query_reach.specs.Private.Entries.{IsListed, HasEntry}
use Rattle.query_reach.proofs.held.found.Given as goal

abbrev pub invariant-loop-place : goal.invariant-loop-place
invariant-loop-place g l = record {
  only : (h : Held) → Contains l.list.items h → IsListed (map (λ r. r.items) l.rows) l.filled h;
  all : (place : ℕ) (u : FullSlot) → place < l.place → slice_get l.filled place ≡ Some u → HasEntry (map (λ r. r.items) l.rows) place u.address l.list.items;
}
