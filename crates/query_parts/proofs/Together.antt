-- Closed parts that are joined are closed.
use Rattle.std.proofs.Common.{◌≡◌, ℕ, inl, inr, Option, Some, None, refl, subst, ap, ◌∙◌}
use Rattle.std.specs.Prelude.{option_map}
use Rattle.cap_core.specs.declared.profile.ProfileName.{ProfileName}
use Rattle.cap_core.specs.declared.capability.Cap.{Cap}
use Rattle.cap_core.specs.declared.capability.Cap.TheVariants.{Null, Untyped, Endpoint, CNode, Tcb}
use Rattle.kernel_forest.specs.Entries.{cap_at}
use Rattle.kernel_abstract.specs.State.{State}
use Rattle.query_parts.specs.Parts.{Parts, IsOwned, IsWithin}
use Rattle.query_parts.specs.Laws.{AreJoined, JoinedAreClosed}

module _ (p : ProfileName) (to : ℕ → ℕ) (parts joined : Parts) (are : AreJoined to parts joined) (i : ℕ) where
  owned_joined : (cap : Cap) → IsOwned p parts i cap → IsOwned p joined (to i) cap
  owned_joined cap owned address low high = are.memory address ∙ ap (option_map to) (owned address low high)

  within_joined : (cap : Cap) → IsWithin p parts i cap → IsWithin p joined (to i) cap
  within_joined Null within = tt
  within_joined (Untyped base bits free) owned = owned_joined (Untyped base bits free) owned
  within_joined (Endpoint base badge rights) (inl owned) = inl (owned_joined (Endpoint base badge rights) owned)
  within_joined (Endpoint base badge rights) (inr (u, (there, covers))) = inr (u, (are.uses i u there, covers))
  within_joined (CNode base radix guard) owned = owned_joined (CNode base radix guard) owned
  within_joined (Tcb base) owned = owned_joined (Tcb base) owned

pub joined_closed : (p : ProfileName) (to : ℕ → ℕ) (parts joined : Parts) (A : State) → JoinedAreClosed p to parts joined A
joined_closed p to parts joined A are closed j slot here = by (parts.part_of slot) refl (are.memory slot)
  where
    by : (o : Option ℕ) → parts.part_of slot ≡ o → joined.part_of slot ≡ option_map to o → IsWithin p joined j (cap_at A.derivations slot)
    by None own is = let e : Some j ≡ None = subst (λ (x : Option ℕ). x ≡ None) here is in cc
    by (Some i) own is =
        let e : Some j ≡ Some (to i) = subst (λ (x : Option ℕ). x ≡ Some (to i)) here is in
        let same : to i ≡ j = cc in
        subst (λ k. IsWithin p joined k (cap_at A.derivations slot)) same (within_joined p to parts joined are i (cap_at A.derivations slot) (closed i slot own))
