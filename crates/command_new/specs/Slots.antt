-- The slots of the root CNode that a boot fills.
use Rattle.std.specs.Prelude.{ℕ, ◌+◌, List, ◌∷◌}
use Rattle.cap_core.specs.declared.profile.ProfileName.{ProfileName}
use Rattle.cap_core.specs.declared.capability.Cap.{Cap}
use Rattle.cap_core.specs.declared.capability.Cap.TheVariants.{Null}
use Rattle.kernel_abstract.specs.Plan.{Plan}
use Rattle.kernel_abstract.specs.Boot.{boot_caps}

-- the number of the slot of a thread's capability, of an endpoint's and of an untyped region's: slot 0 stays empty, and slot 1 has the root CNode's
abbrev pub tcb_slot : ℕ → ℕ
tcb_slot i = 2 + i

-- the slot of the root CNode that holds the capability of the endpoint j at boot
abbrev pub endpoint_slot : Plan → ℕ → ℕ
endpoint_slot plan j = 2 + plan.threads + j

-- the slot of the root CNode that holds the capability of the region k at boot
abbrev pub untyped_slot : Plan → ℕ → ℕ
untyped_slot plan k = 2 + plan.threads + plan.endpoints + k

-- the capabilities of the root CNode's slots at boot, from slot 0 on: a boot puts `boot_caps` into the slots from 1 on
abbrev pub root_slots : ProfileName → Plan → List Cap
root_slots p plan = Null ∷ boot_caps p plan
