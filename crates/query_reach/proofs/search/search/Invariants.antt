use Rattle.std.proofs.Common.{◌≡◌, ℕ, ◌+◌, ◌<◌, ◌≤◌, ◌⊎◌, length, map, vec_len}
use Rattle.cap_core.specs.declared.capability.Cap.TheVariants.{Null}
use Rattle.cap_core.specs.Numbers.{word_bits}
use Rattle.cap_core.specs.Objects.{IsLawful}
use Rattle.kernel_forest.specs.Forest.{Forest}
use Rattle.kernel_forest.specs.Entries.{Entry, cap_at}
use Rattle.query_reach.specs.Private.Tables.{IsWideTable}
use Rattle.query_reach.specs.FullSlots.{AreFullSlots}
use Rattle.query_reach.specs.Private.Search.{IsBounded, IsSearch}
use Rattle.query_reach.proofs.search.search.Given as goal

abbrev pub invariant-loop-alloc : goal.invariant-loop-alloc
invariant-loop-alloc g l = record {
  some : 0 < vec_len l.rows;
  rows : vec_len l.rows ≤ word_bits g.P.Profile.profile + 1;
  bounded : IsBounded g.P.Profile.profile (map (λ r. r.items) l.rows.items);
  wide : IsWideTable (length l.filled) (map (λ r. r.items) l.rows.items);
  found : (memory : ℕ) (f : Forest Entry) (thread : ℕ) → ((s : ℕ) → (cap_at f s ≡ Null) ⊎ IsLawful g.P.Profile.profile memory (cap_at f s)) → AreFullSlots f l.filled
      → IsSearch g.P.Profile.profile f thread l.filled (map (λ r. r.items) l.fn.rows.items) → IsSearch g.P.Profile.profile f thread l.filled (map (λ r. r.items) l.rows.items);
}

abbrev pub decreases-loop-alloc : goal.decreases-loop-alloc
decreases-loop-alloc g l = vec_len l.rows
