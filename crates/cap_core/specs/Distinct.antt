-- Lists of numbers in which none comes twice.
use Rattle.std.specs.Prelude.{◌≢◌, ℕ, List, [], ◌∷◌}
use Rattle.std.specs.List.{AllByRecursion as Each}

-- the number is nowhere in the list
abbrev pub Lacks : ℕ → List ℕ → Type 0
Lacks i l = Each (λ j. j ≢ i) l

-- nothing comes twice
abbrev pub IsApart : List ℕ → Type 0
IsApart [] = Unit {0}
IsApart (i ∷ l) = Lacks i l × IsApart l
