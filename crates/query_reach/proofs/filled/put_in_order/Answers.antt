use Rattle.std.proofs.Common.{rules, ◌≡◌, ◌==◌}
use Rattle.std.specs.Cmp.{nat_eq_equiv, nat_cmp_total, on_equiv, on_total, unsigned_ties}
use Rattle.std.proofs.lemmas.Fn.{dedup_same}
use Rattle.std.proofs.lemmas.List.Kept.{Any-dedup, Contains-from_dedup, IsStrictlySortedBy-dedup}
use Rattle.std.proofs.lemmas.List.Sorted.{Contains-permutation, IsPermutation-sym, answers_always}
use Rattle.query_reach.specs.declared.filled.FullSlot.{FullSlot}
use Rattle.query_reach.proofs.filled.put_in_order.Goals as goal

pub returns-clause-rising : goal.returns-clause-rising
returns-clause-rising c =
    let is = dedup_same _ (λ (x y : FullSlot). x.address == y.address) _ (λ x y b f' x' y' k. search rules) _ _ c.dedup_by_key.ensures.filtered in
    let sorted = c.in_ok-sort_by_key.ensures.sorted (λ u. u.address) (answers_always _ (λ a r. r ≡ a.0.now.address) _ (λ f a r f' k. search rules)) in
    rw is (IsStrictlySortedBy-dedup (on_total (λ (u : FullSlot). u.address) nat_cmp_total) (λ u v. unsigned_ties u.address v.address) _ sorted)

pub returns-clause-only : goal.returns-clause-only
returns-clause-only c u h =
    let is = dedup_same _ (λ (x y : FullSlot). x.address == y.address) _ (λ x y b f' x' y' k. search rules) _ _ c.dedup_by_key.ensures.filtered in
    Contains-permutation _ _ u (IsPermutation-sym _ _ c.in_ok-sort_by_key.ensures.permutation) (Contains-from_dedup _ _ u (rw is at h))

pub returns-clause-all : goal.returns-clause-all
returns-clause-all c u h =
    let is = dedup_same _ (λ (x y : FullSlot). x.address == y.address) _ (λ x y b f' x' y' k. search rules) _ _ c.dedup_by_key.ensures.filtered in
    rw is (Any-dedup (on_equiv (λ (x : FullSlot). x.address) nat_eq_equiv) _ u (Contains-permutation _ _ u c.in_ok-sort_by_key.ensures.permutation h))
