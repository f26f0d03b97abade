-- Queues that lie in links: where the links of a queue lead.
use Rattle.std.specs.Prelude.{◌≡◌, ℕ, ◌==◌, Bool, not, List, [], ◌∷◌, filter, Option, Some, None}
use Rattle.std.specs.List.{list_any}
pub use Rattle.cap_core.specs.Distinct.{Lacks, IsApart}
pub use Rattle.cap_core.specs.Links.{walk}

-- from `here`, behind `before`, next leads along the list to its end, and previous leads back along it
abbrev pub IsChain : (ℕ → Option ℕ) → (ℕ → Option ℕ) → Option ℕ → Option ℕ → List ℕ → Option ℕ → Type 0
IsChain next previous before here [] last = (here ≡ None) × (last ≡ before)
IsChain next previous before here (i ∷ l) last =
    (here ≡ Some i) × (previous i ≡ before) × IsChain next previous (Some i) (next i) l last

-- it is somewhere in the list
abbrev pub has : ℕ → List ℕ → Bool
has i l = list_any (λ j. j == i) l

-- the list without it
abbrev pub removed : ℕ → List ℕ → List ℕ
removed i l = filter (λ j. not (j == i)) l
