-- The kinds of objects: their numbers, their sizes, and the capability of a new one.
use Rattle.std.specs.Prelude.{ℕ, ◌+◌, ◌==◌, ◌&&◌, cond, nat_lt, nat_le, Option, Some, None}
use Rattle.cap_core.specs.declared.profile.ProfileName.{ProfileName}
use Rattle.cap_core.specs.declared.capability.Kind.{Kind}
use Rattle.cap_core.specs.declared.capability.Kind.TheVariants as Kinds
use Rattle.cap_core.specs.declared.capability.Cap.{Cap}
use Rattle.cap_core.specs.declared.capability.Cap.TheVariants as Caps
use Rattle.cap_core.specs.Numbers.{word_bits, slot_bits, tcb_bits, endpoint_bits, max_object_bits}
use Rattle.cap_core.specs.Rights.{all_rights}

-- the number of a kind, as a retype names it
abbrev pub number_of : Kind → ℕ
number_of Kinds.Untyped = 0
number_of Kinds.Tcb = 1
number_of Kinds.Endpoint = 2
number_of Kinds.CNode = 4

-- the kind that a number names
abbrev pub kind_numbered : ℕ → Option Kind
kind_numbered n =
    cond (n == 0) (Some Kinds.Untyped)
    (cond (n == 1) (Some Kinds.Tcb) (cond (n == 2) (Some Kinds.Endpoint) (cond (n == 4) (Some Kinds.CNode) None)))

-- the bits of an object's size in bytes, if `size_bits` is asked for
abbrev pub size_of : ProfileName → Kind → ℕ → ℕ
size_of p Kinds.Untyped size_bits = size_bits
size_of p Kinds.Tcb size_bits = tcb_bits p
size_of p Kinds.Endpoint size_bits = endpoint_bits p
size_of p Kinds.CNode size_bits = slot_bits p + size_bits

-- the same, if what is asked for and the object's size are within the profile
abbrev pub size_within : ProfileName → Kind → ℕ → Option ℕ
size_within p kind size_bits =
    cond (nat_lt size_bits (word_bits p) && nat_le (size_of p kind size_bits) (max_object_bits p)) (Some (size_of p kind size_bits)) None

-- the kind of the object that a capability names
abbrev pub kind_named : Cap → Option Kind
kind_named Caps.Null = None
kind_named (Caps.Untyped base bits free) = Some Kinds.Untyped
kind_named (Caps.Endpoint base badge rights) = Some Kinds.Endpoint
kind_named (Caps.CNode base radix guard) = Some Kinds.CNode
kind_named (Caps.Tcb base) = Some Kinds.Tcb

-- the capability of a new object: nothing of an untyped is used, an endpoint's has no badge and all rights, a CNode's has
-- no guard
abbrev pub new_cap : Kind → ℕ → ℕ → Cap
new_cap Kinds.Untyped base size_bits = Caps.Untyped base size_bits 0
new_cap Kinds.Tcb base size_bits = Caps.Tcb base
new_cap Kinds.Endpoint base size_bits = Caps.Endpoint base (record { 0 = 0 }) all_rights
new_cap Kinds.CNode base size_bits = Caps.CNode base size_bits (record { value = 0; size = 0 })
