-- The shape of the objects that a retype asks for.
use Rattle.std.specs.Prelude.{ℕ, Bool, false, ◌≡◌, ◌≤◌, ◌==◌, cond, nat_lt, Option, Some, None, Result, Ok, Err}
use Rattle.cap_core.specs.declared.profile.ProfileName.{ProfileName}
use Rattle.cap_core.specs.declared.capability.Kind.{Kind}
use Rattle.cap_core.specs.declared.capability.Kind.TheVariants.{Untyped, Tcb, Endpoint, CNode}
use Rattle.cap_core.specs.declared.refusal.Refusal.{Refusal}
use Rattle.cap_core.specs.declared.refusal.Refusal.TheVariants.{InvalidArgument, RangeError}
use Rattle.cap_core.specs.Numbers.{min_untyped_bits, max_object_bits}
use Rattle.cap_core.specs.Objects.{IsWithinProfile}
use Rattle.cap_core.specs.Kinds.{kind_numbered, size_of, size_within, new_cap}
use Rattle.mem_core.specs.declared.objects.Shape.{Shape}

-- a CNode without slots, or an untyped region below the least size
abbrev pub is_too_small : ProfileName → Kind → ℕ → Bool
is_too_small p Untyped size_bits = nat_lt size_bits (min_untyped_bits p)
is_too_small p Tcb size_bits = false
is_too_small p Endpoint size_bits = false
is_too_small p CNode size_bits = size_bits == 0

-- the size is within the profile, and then it is large enough
abbrev pub shape_sized : ProfileName → Kind → ℕ → Option ℕ → Result Shape Refusal
shape_sized p kind size_bits None = Err RangeError
shape_sized p kind size_bits (Some bits) =
    cond (is_too_small p kind size_bits) (Err InvalidArgument) (Ok (record { kind = kind; size_bits = size_bits; bits = bits }))

-- the kind is known, and then its size is looked at
abbrev pub shape_named : ProfileName → ℕ → Option Kind → Result Shape Refusal
shape_named p size_bits None = Err InvalidArgument
shape_named p size_bits (Some kind) = shape_sized p kind size_bits (size_within p kind size_bits)

-- what a retype asks for by the number of a kind and a size, or why that is refused
abbrev pub shape_of : ProfileName → ℕ → ℕ → Result Shape Refusal
shape_of p number size_bits = shape_named p size_bits (kind_numbered number)

-- a shape that some retype asks for, in either profile
pub record IsShape (shape : Shape) : Type 0 where
  pub profile : ProfileName
  pub number : ℕ
  pub size_bits : ℕ
  pub asked : shape_of profile number size_bits ≡ Ok shape

-- the bits are those of the object's size, within the profile, and so is what a new capability of that shape holds
pub record IsLawfulShape (p : ProfileName) (shape : Shape) : Type 0 where
  pub bits : shape.bits ≡ size_of p shape.kind shape.size_bits
  pub most : shape.bits ≤ max_object_bits p
  pub holds : (base : ℕ) → IsWithinProfile p (new_cap shape.kind base shape.size_bits)
