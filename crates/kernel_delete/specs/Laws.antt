-- What the laws of deletion and revocation say.
use Rattle.std.specs.Prelude.{◌≡◌, ◌==◌, ℕ, Bool, false, eqb, List, Some}
use Rattle.std.specs.List.{list_any, IsDistinct}
use Rattle.cap_core.specs.declared.profile.ProfileName.{ProfileName}
use Rattle.kernel_forest.specs.Forest.{Forest, preorder}
use Rattle.kernel_forest.specs.Entries.{Entry, slots, first_child}
use Rattle.kernel_forest.specs.Slots.{slots_of}
use Rattle.kernel_delete.specs.Members.{In}
use Rattle.kernel_delete.specs.Least.{IsLeast, cleared}
use Rattle.kernel_delete.specs.Clear.{clear, all_emptied}
use Rattle.kernel_delete.specs.Revoke.{revoke}
use Rattle.kernel_delete.specs.Work.{IsClearable}

-- whatever is the least set is what is cleared
abbrev pub IsTheOnly : ProfileName → List Entry → ℕ → (ℕ → Bool) → Type 0
IsTheOnly p l s X = IsLeast p l s X → X ≡ cleared p l s

-- if slots are distinct, and the list has those that are cleared, they leave one after another as all at once
abbrev pub LeaveInOrder : ProfileName → Forest Entry → ℕ → List ℕ → Type 0
LeaveInOrder p f s ns =
    IsDistinct eqb (slots f) → ((n : ℕ) → list_any (λ m. m == n) ns ≡ cleared p (preorder f) s n) →
    all_emptied ns f ≡ clear p s f

-- an object whose capability is in one of its own slots, and not in the one that is cleared, stays, and so does this
-- capability
abbrev pub StaysInItself : ProfileName → ℕ → List Entry → ℕ → Entry → Type 0
StaysInItself p size l s b =
    IsClearable p size l → In b l → In b.slot (slots_of p b.cap) → (b.slot ≡ s → ⊥) → cleared p l s b.slot ≡ false

-- a revoke of a slot clears its first child, and goes on with what that leaves
abbrev pub GoesOnFrom : ProfileName → ℕ → ℕ → Forest Entry → Type 0
GoesOnFrom p s c f = first_child s f ≡ Some c → revoke p s f ≡ revoke p s (clear p c f)
