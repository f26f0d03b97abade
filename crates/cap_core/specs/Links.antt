-- Where links between numbers lead.
use Rattle.std.specs.Prelude.{ℕ, zero, suc, List, [], ◌∷◌, Option, Some, None}

-- where next leads, in so many steps at most
abbrev pub walk : (ℕ → Option ℕ) → ℕ → Option ℕ → List ℕ
walk next zero here = []
walk next (suc n) None = []
walk next (suc n) (Some i) = i ∷ walk next n (next i)
