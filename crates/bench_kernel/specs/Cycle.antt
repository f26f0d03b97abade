-- The derivation forests of a round: an endpoint's capability, and those that are derived from it.
use Rattle.std.specs.Prelude.{ℕ, zero, suc, ◌+◌, ◌*◌}
use Rattle.cap_core.specs.declared.profile.ProfileName.TheVariants.{Wide}
use Rattle.cap_core.specs.declared.capability.Cap.{Cap}
use Rattle.cap_core.specs.declared.capability.Cap.TheVariants.{Endpoint}
use Rattle.cap_core.specs.Numbers.{slot_size}
use Rattle.cap_core.specs.Rights.{all_rights}
use Rattle.kernel_forest.specs.Forest.{Forest, none}
use Rattle.kernel_forest.specs.Entries.{Entry}
use Rattle.kernel_forest.specs.Derivation.{derived, rooted}

abbrev pub bench_memory_bits : ℕ
bench_memory_bits = 16

-- a capability of the endpoint at 8192
abbrev pub bench_endpoint : ℕ → Cap
bench_endpoint badge = Endpoint 8192 (record { 0 = badge }) all_rights

abbrev pub at : ℕ → ℕ
at place = place * slot_size Wide

abbrev pub whole : Forest Entry
whole = rooted (at 1) (bench_endpoint 0) none

-- with so many that are derived from it, the newest first
abbrev pub family : ℕ → Forest Entry
family zero = whole
family (suc k) = derived (at 1) (at (k + 2)) (bench_endpoint 5) (family k)
