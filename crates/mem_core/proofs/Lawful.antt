-- What a shape promises.
use Rattle.std.proofs.Common.{◌≡◌, ℕ, false, ◌<◌, ◌≤◌, ◌&&◌, nat_lt, nat_le, refl, ap, arith, inl, inr, Option, Some, None, Result, Ok, Err, is_ok, subst}
use Rattle.std.proofs.lemmas.Nat.{pow_pos}
use Rattle.std.proofs.lemmas.Bool.{cases_Bool, and_parts, leb-true, ltb-true, ltb-false, eqb-false, false≢true}
use Rattle.cap_core.specs.declared.profile.ProfileName.{ProfileName}
use Rattle.cap_core.specs.declared.profile.ProfileName.TheVariants.{Wide, Narrow}
use Rattle.cap_core.specs.declared.capability.Kind.{Kind}
use Rattle.cap_core.specs.declared.capability.Kind.TheVariants.{Untyped, Tcb, Endpoint, CNode}
use Rattle.cap_core.specs.declared.refusal.Refusal.{Refusal}
use Rattle.cap_core.specs.Numbers.{word_bits, max_object_bits}
use Rattle.cap_core.specs.Objects.{IsWithinProfile}
use Rattle.cap_core.specs.Kinds.{kind_numbered, size_of, size_within, new_cap}
use Rattle.mem_core.specs.declared.objects.Shape.{Shape}
use Rattle.mem_core.specs.Shapes.{is_too_small, shape_sized, shape_named, shape_of, IsShape, IsLawfulShape}

pub holds-within : (p : ProfileName) (kind : Kind) (size_bits base : ℕ) → size_bits < word_bits p → size_of p kind size_bits ≤ max_object_bits p →
    is_too_small p kind size_bits ≡ false → IsWithinProfile p (new_cap kind base size_bits)
holds-within p Untyped size_bits base low most large =
    record { least = ltb-false _ _ large; most = most; free_within = omega (arith, pow_pos size_bits) }
holds-within p Tcb size_bits base low most large = tt
holds-within p Endpoint size_bits base low most large = tt
holds-within p CNode size_bits base low most large =
    let some : size_bits ≡ 0 → ⊥ = eqb-false size_bits 0 large in
    record { some = grind (arith, some); both = omega arith; cut = pow_pos 0 }

shape_or : Shape → Result Shape Refusal → Shape
shape_or other (Ok shape) = shape
shape_or other (Err refusal) = other

lawful-sized : (p : ProfileName) (kind : Kind) (size_bits bits : ℕ) (shape : Shape) → bits ≡ size_of p kind size_bits → size_bits < word_bits p →
    bits ≤ max_object_bits p → shape_sized p kind size_bits (Some bits) ≡ Ok shape → IsLawfulShape p shape
unfolding shape_or
lawful-sized p kind size_bits bits shape is low most e =
    elim (cases_Bool (is_too_small p kind size_bits)) [
      | inl small ↦ absurd (false≢true (ap is_ok (rw small at e)))
      | inr large ↦
          let made : record { kind = kind; size_bits = size_bits; bits = bits } ≡ shape = ap (shape_or shape) (rw large at e) in
          subst (λ s. IsLawfulShape p s) made
          (record { bits = is; most = most; holds = λ base. holds-within p kind size_bits base low (rw (← is) most) large })
    ]

lawful-named : (p : ProfileName) (kind : Kind) (size_bits : ℕ) (shape : Shape) → shape_sized p kind size_bits (size_within p kind size_bits) ≡ Ok shape →
    IsLawfulShape p shape
lawful-named p kind size_bits shape e =
    elim (cases_Bool (nat_lt size_bits (word_bits p) && nat_le (size_of p kind size_bits) (max_object_bits p))) [
      | inl within ↦
          let parts = and_parts _ _ within in
          lawful-sized p kind size_bits (size_of p kind size_bits) shape refl (ltb-true _ _ parts.0) (leb-true _ _ parts.1) (rw within at e)
      | inr out ↦ absurd (false≢true (ap is_ok (rw out at e)))
    ]

lawful-numbered : (p : ProfileName) (size_bits : ℕ) (kind : Option Kind) (shape : Shape) → shape_named p size_bits kind ≡ Ok shape → IsLawfulShape p shape
lawful-numbered p size_bits None shape e = absurd (false≢true (ap is_ok e))
lawful-numbered p size_bits (Some kind) shape e = lawful-named p kind size_bits shape e

pub lawful_shape : (p : ProfileName) (number size_bits : ℕ) (shape : Shape) → shape_of p number size_bits ≡ Ok shape → IsLawfulShape p shape
lawful_shape p number size_bits shape e = lawful-numbered p size_bits (kind_numbered number) shape e

most-wide : (p : ProfileName) → max_object_bits p ≤ max_object_bits Wide
most-wide Wide = omega arith
most-wide Narrow = omega arith

pub shape_bits-most : (shape : Shape) → IsShape shape → shape.bits ≤ max_object_bits Wide
shape_bits-most shape is =
    omega (arith, (lawful_shape is.profile is.number is.size_bits shape is.asked).most, most-wide is.profile)
