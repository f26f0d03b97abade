-- An empty slot that is cleared, and what a revocation keeps.
use Rattle.std.proofs.Common.{◌≡◌, inl, inr, ℕ, false, List, sym, ◌∙◌}
use Rattle.std.proofs.lemmas.Bool.{eqb-true}
use Rattle.cap_core.specs.declared.profile.ProfileName.{ProfileName}
use Rattle.kernel_forest.specs.Entries.{Entry, is_at}
use Rattle.kernel_delete.specs.Least.{full}
use Rattle.kernel_delete.specs.Members.{In}
use Rattle.kernel_delete.specs.Work.{held, IsClearable}
use Rattle.cap_core.specs.declared.capability.Cap.{Cap}
use Rattle.cap_core.specs.declared.capability.Cap.TheVariants.{Null}
use Rattle.kernel_delete.proofs.Members.{any_of, tells}
use Rattle.kernel_delete.proofs.Orders.{one_only}
use Rattle.kernel_delete.proofs.Lookups.{cap_at_only, cap_at_empty}

-- a slot that is not empty is one of the memory
pub slot_within : (p : ProfileName) (l : List Entry) (size s : ℕ) (r : Cap) → IsClearable p size l → r ≡ held l s → (r ≡ Null → ⊥) → (a : Entry) × (In a l × (a.slot ≡ s))
slot_within p l size s r law e h = elim (tells (full l s)) [
  | inl t ↦ let w = any_of (is_at s) l t in (w.0, (w.1.0, eqb-true w.0.slot s w.1.1))
  | inr t ↦ absurd (h (e ∙ cap_at_empty l s t))
]

pub empty_slot : (p : ProfileName) (l : List Entry) (size s : ℕ) (r : Cap) → IsClearable p size l → r ≡ held l s → r ≡ Null → full l s ≡ false
empty_slot p l size s r law e h = elim (tells (full l s)) [
  | inl t ↦ absurd (let w = any_of (is_at s) l t in law.no_null w.0 w.1.0 (sym (cap_at_only l s w.0 w.1.0 w.1.1 (λ b i u. one_only (is_at s) l (law.apart s) w.0 b w.1.0 i w.1.1 u)) ∙ sym e ∙ h))
  | inr t ↦ t
]
