-- The forest after a slot was cleared, and which objects end with it.
use Rattle.std.specs.Prelude.{ℕ, Bool, not, ◌&&◌, List, [], ◌∷◌}
use Rattle.cap_core.specs.declared.profile.ProfileName.{ProfileName}
use Rattle.cap_core.specs.declared.capability.Cap.{Cap}
use Rattle.kernel_forest.specs.Forest.{Forest, preorder}
use Rattle.kernel_forest.specs.Entries.{Entry}
use Rattle.kernel_forest.specs.Derivation.{emptied, is_named}
use Rattle.kernel_delete.specs.Least.{cleared}
use Rattle.kernel_forest.specs.Without.{without}

-- a forest after a slot is cleared: the least set that leaves with it is taken out
abbrev pub clear : ProfileName → ℕ → Forest Entry → Forest Entry
clear p s f = without (λ (e : Entry). cleared p (preorder f) s e.slot) f

-- the slots are emptied one after another
abbrev pub all_emptied : List ℕ → Forest Entry → Forest Entry
all_emptied [] f = f
all_emptied (n ∷ ns) f = all_emptied ns (emptied n f)

-- the object that a capability names was live before, and is live no more
abbrev pub ended : Forest Entry → Forest Entry → Cap → Bool
ended before after c = is_named c before && not (is_named c after)
