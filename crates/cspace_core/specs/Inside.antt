-- Where a slot that is found lies.
use Rattle.std.specs.Prelude.{ℕ, ◌≡◌, ◌^◌, ◌<◌, ◌⊎◌}
use Rattle.cap_core.specs.declared.profile.ProfileName.{ProfileName}
use Rattle.cap_core.specs.declared.capability.Cap.{Cap}
use Rattle.cap_core.specs.declared.capability.Cap.TheVariants.{CNode}
use Rattle.cspace_core.specs.Resolution.{slot_of}

-- the address is that of a slot of the CNode that a capability names
abbrev pub IsSlotOf : ProfileName → Cap → ℕ → Type 0
IsSlotOf p (CNode base radix guard) slot = (i : ℕ) × ((i < 2 ^ radix) × (slot ≡ slot_of p base i))
IsSlotOf p _ slot = ⊥

-- the CNode is named by the root or by what some slot holds
abbrev pub LiesInCNode : ProfileName → (ℕ → Cap) → Cap → ℕ → Type 0
LiesInCNode p cap_in root slot = (cap : Cap) × (((cap ≡ root) ⊎ ((holder : ℕ) × (cap ≡ cap_in holder))) × IsSlotOf p cap slot)
