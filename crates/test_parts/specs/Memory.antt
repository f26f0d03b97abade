-- The derivation forest of the tests, in a memory of 2^16 bytes: a CNode of sixteen slots at 0, an endpoint at 6144 and a CNode
-- of four slots at 16384, with and without a guard.
use Rattle.std.specs.Prelude.{ℕ, ◌+◌, ◌-◌, ◌*◌}
use Rattle.cap_core.specs.declared.profile.ProfileName.{ProfileName}
use Rattle.cap_core.specs.declared.capability.Cap.{Cap}
use Rattle.cap_core.specs.declared.capability.Cap.TheVariants.{Endpoint, CNode}
use Rattle.cap_core.specs.Numbers.{slot_size, word_bits}
use Rattle.cap_core.specs.Rights.{all_rights}
use Rattle.kernel_forest.specs.Forest.{Forest, none}
use Rattle.kernel_forest.specs.Entries.{Entry}
use Rattle.kernel_forest.specs.Derivation.{derived, rooted}

abbrev pub memory_bits : ℕ
memory_bits = 16

-- the CNode of sixteen slots, with the guard that it has at boot
abbrev pub root_cnode : ProfileName → Cap
root_cnode p = CNode 0 4 (record { value = 0; size = word_bits p - 4 })

abbrev pub endpoint : Cap
endpoint = Endpoint 6144 (record { 0 = 0 }) all_rights

-- the CNode of four slots
abbrev pub node : ℕ → ℕ → Cap
node value size = CNode 16384 2 (record { value = value; size = size })

-- the address of a slot of either CNode
abbrev pub in_root : ProfileName → ℕ → ℕ
in_root p i = i * slot_size p

abbrev pub in_node : ProfileName → ℕ → ℕ
in_node p i = 16384 + i * slot_size p

abbrev pub with_root : ProfileName → Forest Entry
with_root p = rooted (in_root p 1) (root_cnode p) none

abbrev pub with_endpoint : ProfileName → Forest Entry
with_endpoint p = rooted (in_root p 4) endpoint (with_root p)

abbrev pub with_node : ProfileName → Forest Entry
with_node p = rooted (in_root p 8) (node 0 0) (with_endpoint p)

abbrev pub with_guarded : ProfileName → Forest Entry
with_guarded p = derived (in_root p 8) (in_root p 9) (node 5 3) (with_node p)

abbrev pub with_copy : ProfileName → Forest Entry
with_copy p = derived (in_root p 4) (in_node p 3) endpoint (with_guarded p)

abbrev pub with_itself : ProfileName → Forest Entry
with_itself p = derived (in_root p 8) (in_node p 0) (node 0 0) (with_copy p)
