-- A loop that reads each element of a list in turn ends at the first fault.
use Rattle.std.proofs.Common.{◌≡◌, ℕ, ◌+◌, ◌<◌, List, length, get_or, drop, map, Result}
use Rattle.setup_values.specs.Kinds.{each}
use Rattle.setup_values.proofs.Loops.{with_front, ends}
use Rattle.setup_format.specs.declared.fault.SetupFault.{SetupFault}
use Rattle.setup_format.specs.declared.fault.SetupFault.TheVariants as faults
use Rattle.setup_format.specs.Faults.{Fault, Fails}

pub fails : {X A B : Type 0} (v : X → A) (read : ℕ → A → Result B Fault) (front : List B) (n i : ℕ) (xs : List X) (d : X) (e : SetupFault) (total : Result (List B) Fault) → i < length xs
    → Fails e (read (n + i) (v (get_or xs i d))) → with_front front (each read (n + i) (map v (drop i xs))) ≡ total → Fails e total
fails v read front n i xs d faults.Memory total lt h so_far = tt
fails v read front n i xs d faults.Text total lt h so_far = ends v read front n i xs d _ total lt h so_far
fails v read front n i xs d (faults.At w p k) total lt h so_far = ends v read front n i xs d _ total lt h so_far
fails v read front n i xs d (faults.Layout f) total lt h so_far = ends v read front n i xs d _ total lt h so_far
