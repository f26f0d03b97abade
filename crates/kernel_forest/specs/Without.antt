-- A forest that several leave at once.
use Rattle.std.specs.Prelude.{Bool, cond}
use Rattle.kernel_forest.specs.Forest.{Forest, none, tree, join}

-- all that pass the test are taken out at once, and what is below one of them takes its place
abbrev pub without : {A : Type 0} → (A → Bool) → Forest A → Forest A
without is none = none
without is (tree a under others) =
    cond (is a) (join (without is under) (without is others)) (tree a (without is under) (without is others))
