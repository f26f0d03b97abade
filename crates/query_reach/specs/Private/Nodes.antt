-- How a search goes on from one CNode.
use Rattle.std.specs.Prelude.{◌≡◌, ℕ, zero, suc, ◌+◌, ◌-◌, ◌*◌, ◌^◌, ◌<◌, ◌≤◌, cond, Result, Ok}
use Rattle.cap_core.specs.declared.profile.ProfileName.{ProfileName}
use Rattle.cap_core.specs.declared.capability.Guard.{Guard}
use Rattle.cap_core.specs.declared.capability.Cap.{Cap}
use Rattle.cap_core.specs.declared.capability.Cap.TheVariants.{CNode}
use Rattle.cap_core.specs.declared.refusal.LookupFault.{LookupFault}
use Rattle.kernel_forest.specs.Forest.{Forest}
use Rattle.kernel_forest.specs.Entries.{Entry, cap_at}
use Rattle.cspace_core.specs.Bits.{low_bits}
use Rattle.cspace_core.specs.Resolution.{is_cnode, slot_of, resolution}
use Rattle.kernel_abstract.specs.Lookups.{slot_found}

-- if `left` bits of a word are left at a slot: with none left the slot is found, and else its CNode is entered
abbrev pub found_from : ProfileName → Forest Entry → ℕ → ℕ → ℕ → Result ℕ LookupFault
found_from p f zero slot word = Ok slot
found_from p f (suc left) slot word = slot_found (resolution p (cap_at f) (cap_at f slot) (low_bits (suc left) word))

-- from a capability that is entered with `left` bits, by the word `entered` whose low `left` bits are 0, the slot at `slot`,
-- which holds `to`, is chosen by the word `next`. A CNode is entered with the bits that are left; at any other capability
-- resolution ends, so that no more bits are used
pub record IsNext (p : ProfileName) (from : Cap) (left entered slot : ℕ) (to : Cap) (more next : ℕ) : Type 0 where
  pub base : ℕ
  pub radix : ℕ
  pub guard : Guard
  pub index : ℕ
  pub node : from ≡ CNode base radix guard
  pub fits : guard.size + radix ≤ left
  pub within : index < 2 ^ radix
  pub chosen : slot ≡ slot_of p base index
  pub bits : more ≡ cond (is_cnode to) (left - (guard.size + radix)) 0
  pub word : next ≡ entered + (guard.value * 2 ^ radix + index) * 2 ^ (left - (guard.size + radix))
