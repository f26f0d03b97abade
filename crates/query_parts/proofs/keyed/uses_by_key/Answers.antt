-- The proof of `uses_by_key`: the goals that a search leaves open.
use Rattle.std.proofs.Common.{rules, ◌≡◌}
use Rattle.std.proofs.lemmas.Fn.{always_returns_same}
use Rattle.std.proofs.lemmas.List.Sorted.{IsNonDecreasingBy-from_sort_by_key}
use Rattle.query_parts.specs.Keyed.{key_of}
use Rattle.query_parts.proofs.Halving.{same_at}
use Rattle.query_parts.proofs.keyed.uses_by_key.Goals as goal

pub returns-clause-order : goal.returns-clause-order
returns-clause-order c =
    IsNonDecreasingBy-from_sort_by_key (key_of c.args.by) _ c.in_ok-sort_by_key.ensures.sorted (λ a r q k. search rules)

pub returns-clause-same : goal.returns-clause-same
returns-clause-same c n =
    let stable = c.in_ok-sort_by_key.ensures.stable (key_of c.args.by) (always_returns_same _ (λ a r. r ≡ key_of c.args.by a.0.now) _ (λ a r f' k. search rules)) in
    rw c.in_ok-list.ensures.items at (same_at c.args.by n _ _ stable)
