use Rattle.std.proofs.Common.{◌≡◌, ℕ, ◌∷◌, [], ◌++◌, length}
use Rattle.query_orders.specs.Words.{listed}
use Rattle.query_orders.proofs.exploring.words.add_made.Given as goal

abbrev pub invariant-loop-count : goal.invariant-loop-count
invariant-loop-count l = l.words.items ++ listed (λ (n : ℕ). n ∷ []) l.rest ≡ l.fn.words.items ++ listed (λ (n : ℕ). n ∷ []) l.made

abbrev pub decreases-loop-count : goal.decreases-loop-count
decreases-loop-count l = length l.rest
