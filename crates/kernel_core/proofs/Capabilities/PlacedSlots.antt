-- What a store is asked of the slots of a derivation and of a move: the slot 0 of a node stands where the node does.
use Rattle.std.proofs.Common.{◌≡◌, ◌<◌, ◌+◌, ◌*◌, ◌^◌, ℕ, Bool, true, false, cond, None, ◌⊎◌, refl, sym, ◌∙◌, ap, subst}
use Rattle.cap_core.specs.declared.profile.ProfileName.{ProfileName}
use Rattle.cap_core.specs.declared.capability.Cap.{Cap}
use Rattle.cap_core.specs.declared.capability.Cap.TheVariants.{Null, Untyped, Endpoint, CNode, Tcb}
use Rattle.cap_core.specs.Numbers.{slot_size}
use Rattle.cap_core.specs.Objects.{is_untyped, bits_of, badge_of}
use Rattle.kernel_forest.specs.Forest.{Forest}
use Rattle.kernel_forest.specs.Entries.{Entry, cap_at, is_full, first_child}
use Rattle.kernel_forest.specs.Derivation.{derived, moved, freed, names_same}
use Rattle.kernel_abstract.specs.declared.invocation.CapPlacement.{CapPlacement}
use Rattle.kernel_abstract.specs.Private.Stores.{IsKernelStore}
use Rattle.kernel_abstract.specs.Private.Invocations.{IsPlacement, IsDerivation, IsMove}
use Rattle.kernel_abstract.specs.CNodes.{with_derived, with_moved}
use Rattle.kernel_abstract.proofs.Capabilities.PlacementSteps.{first_slot}

no_untyped : (cap : Cap) → ((base bits free : ℕ) → cap ≡ Untyped base bits free → ⊥) → is_untyped cap ≡ false
no_untyped Null h = refl
no_untyped (Untyped base bits free) h = absurd (h base bits free refl)
no_untyped (Endpoint base badge rights) h = refl
no_untyped (CNode base radix guard) h = refl
no_untyped (Tcb base) h = refl

module _ (p : ProfileName) (memory : ℕ) (f : Forest Entry) (placement : CapPlacement) (a b : ℕ) (source_is : a ≡ placement.source + 0 * slot_size p)
    (slot_is : b ≡ placement.slot + 0 * slot_size p) where
  source_here : placement.source ≡ a
  source_here = sym (first_slot p a placement.source source_is)

  slot_here : placement.slot ≡ b
  slot_here = sym (first_slot p b placement.slot slot_is)

  module _ (store : IsKernelStore p memory f) (ends : IsPlacement p f placement) where
    pub source_full : is_full a f ≡ true
    source_full = subst (λ (i : ℕ). is_full i f ≡ true) source_here ends.full

    pub slot_within : b < 2 ^ memory
    slot_within = subst (λ (i : ℕ). i < 2 ^ memory) slot_here (ends.placed memory store.lawful).within

    pub slot_empty : is_full b f ≡ false
    slot_empty = subst (λ (i : ℕ). is_full i f ≡ false) slot_here ends.empty

    pub same_object : names_same (cap_at f a) placement.cap ≡ true
    same_object = subst (λ (i : ℕ). names_same (cap_at f i) placement.cap ≡ true) source_here ends.same

  pub kept_badge : IsDerivation p f placement → (badge_of placement.cap ≡ badge_of (cap_at f a)) ⊎ (badge_of (cap_at f a) ≡ 0)
  kept_badge derivation =
      subst (λ (i : ℕ). (badge_of placement.cap ≡ badge_of (cap_at f i)) ⊎ (badge_of (cap_at f i) ≡ 0)) source_here derivation.badge

  pub no_child : IsDerivation p f placement → is_untyped placement.cap ≡ true → first_child a f ≡ None
  no_child derivation = subst (λ (i : ℕ). is_untyped placement.cap ≡ true → first_child i f ≡ None) source_here derivation.childless

  pub same_badge : IsMove p f placement → badge_of placement.cap ≡ badge_of (cap_at f a)
  same_badge move = subst (λ (i : ℕ). badge_of placement.cap ≡ badge_of (cap_at f i)) source_here move.badge

  pub put : (g : Forest Entry) → g ≡ derived a b placement.cap f → ((base bits free : ℕ) → placement.cap ≡ Untyped base bits free → ⊥) → g ≡ with_derived p placement f
  put g is other =
      is ∙ sym (λ i. derived (source_here i) (slot_here i) placement.cap f)
      ∙ sym (ap (λ (t : Bool). cond t (freed placement.source (2 ^ bits_of p placement.cap) (derived placement.source placement.slot placement.cap f)) (derived placement.source placement.slot placement.cap f)) (no_untyped placement.cap other))

  pub put_elsewhere : (g : Forest Entry) → g ≡ moved a b placement.cap f → g ≡ with_moved placement f
  put_elsewhere g is = is ∙ sym (λ i. moved (source_here i) (slot_here i) placement.cap f)
