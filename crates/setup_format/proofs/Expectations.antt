-- Whether an expectation asks, by its first byte.
use Rattle.std.proofs.Common.{◌≡◌, ℕ, ◌≤◌, List, [], ◌∷◌, length, nat_eq, slice_index_or, refl, arith}
use Rattle.setup_format.specs.Expectations.{asks}

pub asks_first : (text : List ℕ) → 1 ≤ length text → nat_eq (slice_index_or text 0 0) 63 ≡ asks text
asks_first [] some = absurd (omega arith)
asks_first (c ∷ text) some = refl
