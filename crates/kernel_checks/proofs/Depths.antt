-- A search of depths, one by one.
use Rattle.std.proofs.Common.{◌≡◌, ℕ, suc, ◌+◌, ◌-◌, ◌<◌, ◌≤◌, refl, sym, ap, ◌∙◌, arith, Option, None, Some}
use Rattle.cap_core.specs.declared.profile.ProfileName.{ProfileName}
use Rattle.cap_core.specs.declared.capability.Cap.{Cap}
use Rattle.kernel_checks.specs.declared.hints.Hint.{Hint}
use Rattle.kernel_checks.specs.declared.hints.Hint.TheVariants.{Depth}
use Rattle.kernel_checks.specs.Hints.{slot_at_depth, depth_or, depth_from}

-- one more depth, which is looked at first
more : (p : ProfileName) (cap_in : ℕ → Cap) (root index depth top count : ℕ) → top - depth ≡ suc count →
    depth_from p cap_in root index depth (top - depth) ≡ depth_or depth (slot_at_depth p cap_in root index depth) (depth_from p cap_in root index (depth + 1) (top - (depth + 1)))
unfolding depth_from
more p cap_in root index depth top count e =
    let less : top - (depth + 1) ≡ count = omega arith in
    rw (e, less) refl

one_more : (p : ProfileName) (cap_in : ℕ → Cap) (root index depth top : ℕ) → depth < top →
    depth_from p cap_in root index depth (top - depth) ≡ depth_or depth (slot_at_depth p cap_in root index depth) (depth_from p cap_in root index (depth + 1) (top - (depth + 1)))
one_more p cap_in root index depth top h = more p cap_in root index depth top (top - (depth + 1)) (omega arith)

pub depth_found : (p : ProfileName) (cap_in : ℕ → Cap) (root index depth top slot : ℕ) (all : Option Hint) → depth < top →
    depth_from p cap_in root index depth (top - depth) ≡ all → Some slot ≡ slot_at_depth p cap_in root index depth → Some (Depth depth slot) ≡ all
depth_found p cap_in root index depth top slot all h e is =
    ap (λ o. depth_or depth o (depth_from p cap_in root index (depth + 1) (top - (depth + 1)))) is ∙ sym (one_more p cap_in root index depth top h) ∙ e

pub depth_missed : (p : ProfileName) (cap_in : ℕ → Cap) (root index depth top : ℕ) (all : Option Hint) → depth < top →
    depth_from p cap_in root index depth (top - depth) ≡ all → None ≡ slot_at_depth p cap_in root index depth →
    depth_from p cap_in root index (depth + 1) (top - (depth + 1)) ≡ all
depth_missed p cap_in root index depth top all h e is =
    ap (λ o. depth_or depth o (depth_from p cap_in root index (depth + 1) (top - (depth + 1)))) is ∙ sym (one_more p cap_in root index depth top h) ∙ e

pub depths_end : (p : ProfileName) (cap_in : ℕ → Cap) (root index depth top : ℕ) (all : Option Hint) → top ≤ depth →
    depth_from p cap_in root index depth (top - depth) ≡ all → None ≡ all
unfolding depth_from
depths_end p cap_in root index depth top all h e =
    let none : top - depth ≡ 0 = omega arith in
    rw none at e

-- what is none, by its cases
pub none_there : (o there : Option ℕ) → ((slot : ℕ) → o ≡ Some slot → ⊥) → o ≡ there → None ≡ there
none_there None there other e = e
none_there (Some slot) there other e = absurd (other slot refl)
