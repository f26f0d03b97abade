-- What stands below a slot, and what a revoke of the slot takes along if no object with slots ends with it.
use Rattle.std.specs.Prelude.{◌≡◌, ℕ, ◌==◌, Bool, true, false, List, count_by, map, All}
use Rattle.std.specs.List.{list_any, Contains, IsDistinct}
use Rattle.cap_core.specs.declared.profile.ProfileName.{ProfileName}
use Rattle.cap_core.specs.declared.capability.Cap.{Cap}
use Rattle.cap_core.specs.Objects.{is_null}
use Rattle.kernel_forest.specs.Forest.{Forest, preorder, descendants}
use Rattle.kernel_forest.specs.Entries.{Entry, is_at, slots, caps, derivations_of}
use Rattle.kernel_forest.specs.Derivation.{names_same}
use Rattle.kernel_forest.specs.Without.{without}
use Rattle.slot_core.specs.declared.derivations.Derivation.{Derivation}
use Rattle.slot_core.specs.Calls.{derivation_view}
use Rattle.kernel_delete.specs.Revoke.{revoke}
use Rattle.query_revoke.specs.declared.revoked.Revoked.{Revoked}

-- derivations are those of a forest in which each slot stands once and holds a capability
pub record TellBelow (p : ProfileName) (list : List Derivation) (f : Forest Entry) : Type 0 where
  pub told : map (derivation_view p) list ≡ derivations_of f
  pub apart : IsDistinct (λ (a b : ℕ). a == b) (slots f)
  pub full : All (λ (cap : Cap). is_null cap ≡ false) (caps f)

-- a slot stands below another one
abbrev pub is_below : ℕ → Forest Entry → ℕ → Bool
is_below s f n = list_any (is_at n) (descendants (is_at s) f)

-- what a capability names is named by what stands below the slot, and by nothing else
abbrev pub IsNamedBelow : ℕ → Forest Entry → Cap → Type 0
IsNamedBelow s f cap = (b : Entry) → Contains (preorder f) b → is_below s f b.slot ≡ false → names_same b.cap cap ≡ false

-- a revoke of a slot clears what stands below it and nothing else: how many slots that are, and the capabilities in them
-- whose objects, or regions, end
pub record IsRevokedAlone (p : ProfileName) (f : Forest Entry) (s : ℕ) (r : Revoked) : Type 0 where
  pub forest : revoke p s f ≡ without (λ (e : Entry). is_below s f e.slot) f
  pub count : r.cleared ≡ count_by (is_below s f) (slots f)
  pub only : (cap : Cap) → Contains r.ended.items cap →
      (a : Entry) × (Contains (preorder f) a × ((is_below s f a.slot ≡ true) × ((a.cap ≡ cap) × IsNamedBelow s f cap)))
  pub all : (a : Entry) → Contains (preorder f) a → is_below s f a.slot ≡ true → IsNamedBelow s f a.cap → Contains r.ended.items a.cap
