use Rattle.std.proofs.Common.{rules, ◌≡◌}
use Rattle.std.proofs.lemmas.List.Sorted.{IsNonDecreasingBy-from_sort_by_key, answers_always}
use Rattle.query_revoke.specs.declared.keyed.Keyed.{Keyed}
use Rattle.query_revoke.proofs.Halving.{same_at}
use Rattle.query_revoke.proofs.keyed.put_in_order.Goals as goal

pub returns-clause-order : goal.returns-clause-order
returns-clause-order c =
    IsNonDecreasingBy-from_sort_by_key (λ (v : Keyed). v.key) _ c.in_ok-sort_by_key.ensures.sorted (λ a r q k. search rules)

pub returns-clause-same : goal.returns-clause-same
returns-clause-same c n =
    let stable = c.in_ok-sort_by_key.ensures.stable (λ v. v.key) (answers_always _ (λ a r. r ≡ a.0.now.key) _ (λ f a r f' k. search rules)) in
    same_at n _ _ stable
