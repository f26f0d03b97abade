use Rattle.std.proofs.lemmas.List.Filters.{dedup_is}
use Rattle.std.proofs.lemmas.List.Kept.{Any-dedup, Contains-from_dedup, IsStrictlySortedBy-dedup}
use Rattle.std.proofs.lemmas.List.Sorted.{Contains-permutation, IsPermutation-sym}
use Rattle.query_reach.proofs.reached.put_in_order.Goals as goal

pub returns-clause-kept : goal.returns-clause-kept
returns-clause-kept g c x h =
    rw (dedup_is _ _ _ c.dedup.ensures.filtered) (Any-dedup g.met.T.Eq.laws _ x (Contains-permutation _ _ x c.in_ok-sort.ensures.permutation h))

pub returns-clause-only : goal.returns-clause-only
returns-clause-only g c x h =
    Contains-permutation _ _ x (IsPermutation-sym _ _ c.in_ok-sort.ensures.permutation) (Contains-from_dedup _ _ x (rw (dedup_is _ _ _ c.dedup.ensures.filtered) at h))

pub returns-clause-order : goal.returns-clause-order
returns-clause-order g c =
    rw (dedup_is _ _ _ c.dedup.ensures.filtered) (IsStrictlySortedBy-dedup g.met.T.Ord.total g.met.T.Ord.matches_eq _ c.in_ok-sort.ensures.sorted)
