-- The proof of `sort_stretches`: the goals that a search leaves open.
use Rattle.std.proofs.Common.{rules}
use Rattle.std.proofs.lemmas.List.Sorted.{IsNonDecreasingBy-from_sort_by_key}
use Rattle.query_parts.specs.declared.listed.PartMemory.{PartMemory}
use Rattle.query_parts.proofs.arranged.sort_stretches.Goals as goal

pub returns-clause-rising : goal.returns-clause-rising
returns-clause-rising c = IsNonDecreasingBy-from_sort_by_key (λ (m : PartMemory). m.first) _ c.sort_unstable_by_key.ensures.sorted (λ a r q k. search rules)
