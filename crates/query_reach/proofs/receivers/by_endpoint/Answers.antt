use Rattle.std.proofs.Common.{rules, ◌≡◌}
use Rattle.std.proofs.lemmas.List.Sorted.{IsNonDecreasingBy-from_sort_by_key, answers_always}
use Rattle.query_reach.specs.declared.endpoints.EndpointWord.{EndpointWord}
use Rattle.query_reach.proofs.ByEndpoint.{same_at}
use Rattle.query_reach.proofs.receivers.by_endpoint.Goals as goal

pub returns-clause-order : goal.returns-clause-order
returns-clause-order c =
    IsNonDecreasingBy-from_sort_by_key (λ (v : EndpointWord). v.endpoint) _ c.in_ok-sort_by_key.ensures.sorted (λ a r q k. search rules)

pub returns-clause-same : goal.returns-clause-same
returns-clause-same c e =
    let stable = c.in_ok-sort_by_key.ensures.stable (λ v. v.endpoint) (answers_always _ (λ a r. r ≡ a.0.now.endpoint) _ (λ f a r f' k. search rules)) in
    rw c.in_ok-list.ensures.items at (same_at e _ _ stable)
