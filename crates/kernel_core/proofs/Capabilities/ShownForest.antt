-- What every kernel shows of its derivations.
use Rattle.std.proofs.Common.{◌≡◌, ℕ, List, Option, All, subst}
use Rattle.cap_core.specs.declared.profile.ProfileName.{ProfileName}
use Rattle.kernel_forest.specs.Forest.{Forest}
use Rattle.kernel_forest.specs.Entries.{Entry, slots}
use Rattle.ipc_core.specs.Waits.{Waits}
use Rattle.kernel_abstract.specs.Shown.{Shown}
use Rattle.kernel_abstract.specs.Memory.{IsSlotAddress, IsAligned}
use Rattle.kernel_core.specs.Rows.{IsKernel, kernel_shown}
use Rattle.kernel_core.specs.declared.rows.ThreadRow.{ThreadRow}
use Rattle.kernel_abstract.specs.Regions.{IsForest}

-- the slots of a kernel are aligned
pub all_aligned : (p : ProfileName) (memory : ℕ) (f : Forest Entry) → All (IsSlotAddress p memory) (slots f) → All (IsAligned p) (slots f)
all_aligned p memory f h = λ i d lt. (h i d lt).aligned

-- what a kernel shows of its derivations
pub kernel_forest : (p : ProfileName) (memory store_memory waiters_memory : ℕ) (f : Forest Entry) (rows : List (Option ThreadRow)) (w : Waits) (v : Shown) →
    IsKernel p memory store_memory waiters_memory f rows w → kernel_shown p f rows w ≡ v → IsForest p v.derivations
kernel_forest p memory store_memory waiters_memory f rows w v kernel view =
    subst (λ (u : Shown). IsForest p u.derivations) view (record { distinct = kernel.slots_distinct; disjoint = kernel.disjoint; regions = kernel.regions })
