-- A number for each object and each untyped region.
use Rattle.std.specs.Prelude.{ℕ, ◌+◌, ◌*◌, ◌^◌}
use Rattle.cap_core.specs.declared.capability.Cap.{Cap}
use Rattle.cap_core.specs.declared.capability.Cap.TheVariants.{Null, Untyped, Endpoint, CNode, Tcb}

-- the bits of a region's size, and those by which a CNode chooses a slot
abbrev pub size_in : Cap → ℕ
size_in Null = 0
size_in (Untyped base bits free) = bits
size_in (Endpoint base badge rights) = 0
size_in (CNode base radix guard) = radix
size_in (Tcb base) = 0

abbrev pub key_of_object : ℕ → ℕ → ℕ → ℕ
key_of_object base kind size = base * 2 ^ 64 + kind * 2 ^ 32 + size

abbrev pub object_number : Cap → ℕ
object_number Null = key_of_object 0 0 0
object_number (Untyped base bits free) = key_of_object base 1 bits
object_number (Endpoint base badge rights) = key_of_object base 2 0
object_number (CNode base radix guard) = key_of_object base 3 radix
object_number (Tcb base) = key_of_object base 4 0
