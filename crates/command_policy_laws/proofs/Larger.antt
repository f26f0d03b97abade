-- What may stand in a part may stand in each part in which it lies.
use Rattle.std.proofs.Common.{◌≡◌, ℕ, ◌⊎◌, inl, inr, subst, ◌∙◌}
use Rattle.cap_core.specs.declared.profile.ProfileName.{ProfileName}
use Rattle.cap_core.specs.declared.capability.Badge.{Badge}
use Rattle.cap_core.specs.declared.capability.Cap.{Cap}
use Rattle.cap_core.specs.declared.capability.Cap.TheVariants.{Null, Untyped, Endpoint, CNode, Tcb}
use Rattle.cap_core.specs.declared.rights.Rights.{Rights}
use Rattle.query_parts.specs.Parts.{Use, Parts, IsOwned, IsWithin, Covers}
use Rattle.query_parts.specs.Least.{LiesIn}
use Rattle.command_policy_laws.specs.Larger.{HoldsNoLess, HoldNoLess}

module _ (p : ProfileName) (parts : Parts) (i : ℕ) (others : Parts) (j : ℕ) (lies : LiesIn p parts i others j) where
  owned_there : (cap : Cap) → IsOwned p parts i cap → IsOwned p others j cap
  owned_there cap owned address low high = lies.memory address (owned address low high)

  either_badge : (a b c : ℕ) → (a ≡ b) ⊎ (a ≡ 0) → (b ≡ c) ⊎ (b ≡ 0) → (a ≡ c) ⊎ (a ≡ 0)
  either_badge a b c (inr none) second = inr none
  either_badge a b c (inl same) (inl other) = inl (same ∙ other)
  either_badge a b c (inl same) (inr none) = inr (same ∙ none)

  covers_there : (u w : Use) (base : ℕ) (badge : Badge) (rights : Rights) → Covers w u.endpoint u.badge u.rights → Covers u base badge rights → Covers w base badge rights
  covers_there u w base badge rights large small = record {
    endpoint_is = large.endpoint_is ∙ small.endpoint_is;
    badge_fits = either_badge w.badge.0 u.badge.0 badge.0 large.badge_fits small.badge_fits;
    rights_fit = λ right has. large.rights_fit right (small.rights_fit right has);
  }

  used_there : (u : Use) (base : ℕ) (badge : Badge) (rights : Rights) → Covers u base badge rights → IsWithin p others j (Endpoint u.endpoint u.badge u.rights) →
      IsWithin p others j (Endpoint base badge rights)
  used_there u base badge rights covers (inl owned) = inl (subst (λ e. IsOwned p others j (Endpoint e badge rights)) covers.endpoint_is owned)
  used_there u base badge rights covers (inr (w, (there, large))) = inr (w, (there, covers_there u w base badge rights large covers))

  within_there : (cap : Cap) → IsWithin p parts i cap → IsWithin p others j cap
  within_there Null within = tt
  within_there (Untyped base bits free) owned = owned_there (Untyped base bits free) owned
  within_there (Endpoint base badge rights) (inl owned) = inl (owned_there (Endpoint base badge rights) owned)
  within_there (Endpoint base badge rights) (inr (u, (there, covers))) = used_there u base badge rights covers (lies.uses u there)
  within_there (CNode base radix guard) owned = owned_there (CNode base radix guard) owned
  within_there (Tcb base) owned = owned_there (Tcb base) owned

  holds_no_less : HoldsNoLess p parts i others j
  holds_no_less = record {
    holds = within_there;
    uses = λ right endpoint badge may. (may.0, (within_there (Endpoint endpoint badge may.0) may.1.0, may.1.1));
  }

pub hold_no_less : (p : ProfileName) (parts : Parts) (i : ℕ) (others : Parts) (j : ℕ) → HoldNoLess p parts i others j
hold_no_less p parts i others j lies = holds_no_less p parts i others j lies
