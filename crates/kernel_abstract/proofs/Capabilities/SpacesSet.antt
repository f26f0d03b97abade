-- A thread's new space keeps what holds of the store of every kernel, and no object becomes live by it.
use Rattle.std.proofs.Common.{◌≡◌, ℕ, ◌^◌, Bool, true, false, cond, ◌==◌, ◌&&◌, eqb, Option, inr, refl, sym, ap, subst, ◌∙◌}
use Rattle.std.specs.List.{list_any, filter_map, IsDistinct}
use Rattle.std.proofs.lemmas.Bool.{false≢true}
use Rattle.cap_core.specs.declared.profile.ProfileName.{ProfileName}
use Rattle.cap_core.specs.declared.capability.Cap.{Cap}
use Rattle.cap_core.specs.declared.capability.Cap.TheVariants.{Null, Untyped, Endpoint, CNode, Tcb}
use Rattle.cap_core.specs.Objects.{is_null, is_untyped, badge_of, bits_of, IsLawful}
use Rattle.kernel_forest.specs.Forest.{Forest}
use Rattle.kernel_forest.specs.Entries.{Entry, caps, slots, cap_at, is_full}
use Rattle.kernel_forest.specs.Derivation.{derived, freed, names_same}
use Rattle.cspace_core.specs.Resolution.{is_cnode}
use Rattle.kernel_delete.specs.Members.{In}
use Rattle.kernel_forest.specs.Slots.{slots_of}
use Rattle.kernel_delete.specs.Clear.{clear}
use Rattle.kernel_abstract.specs.declared.invocation.NewSpace.{NewSpace}
use Rattle.kernel_abstract.specs.declared.invocation.CapPlacement.{CapPlacement}
use Rattle.kernel_abstract.specs.CNodes.{with_derived}
use Rattle.kernel_abstract.specs.Threads.{with_space}
use Rattle.kernel_abstract.specs.Private.Invocations.{IsDerivation, IsSpace}
use Rattle.kernel_abstract.specs.Private.Stores.{IsKernelStore}
use Rattle.kernel_abstract.proofs.Checks.FoundSlots.{lawful_at, lawful_full}
use Rattle.kernel_abstract.proofs.Checks.PassedSpaceChecks.{tcb_placed}
use Rattle.kernel_abstract.proofs.Housed.FoundSlots.{housed_by, root_slot_in}
use Rattle.kernel_abstract.proofs.Capabilities.StoresKept.{store-derived}
use Rattle.kernel_abstract.proofs.Capabilities.StoresCleared.{cap-clear, empty-clear, store-clear, live-clear}
use Rattle.kernel_abstract.proofs.Capabilities.LiveAfter.{IsBase, live-derived}

-- a CNode's capability is no untyped one, and neither it nor another of its object has a badge
cnode_typed : (cap : Cap) → is_cnode cap ≡ true → is_untyped cap ≡ false
cnode_typed Null node = refl
cnode_typed (Untyped base bits free) node = absurd (false≢true node)
cnode_typed (Endpoint base badge rights) node = refl
cnode_typed (CNode base radix guard) node = refl
cnode_typed (Tcb base) node = refl

cnode_badge : (a b : Cap) → names_same a b ≡ true → is_cnode b ≡ true → badge_of a ≡ 0
cnode_badge (Endpoint base badge rights) Null same node = absurd (false≢true node)
cnode_badge (Endpoint base badge rights) (Untyped i bits free) same node = absurd (false≢true node)
cnode_badge (Endpoint base badge rights) (Endpoint i badge' rights') same node = absurd (false≢true node)
cnode_badge (Endpoint base badge rights) (CNode i radix guard) same node = absurd (false≢true same)
cnode_badge (Endpoint base badge rights) (Tcb i) same node = absurd (false≢true node)
cnode_badge Null b same node = refl
cnode_badge (Untyped base bits free) b same node = refl
cnode_badge (CNode base radix guard) b same node = refl
cnode_badge (Tcb base) b same node = refl

-- a capability of some object is not Null
same_full : (a b : Cap) → names_same a b ≡ true → is_null a ≡ false
same_full Null b same = absurd (false≢true same)
same_full (Untyped base bits free) b same = refl
same_full (Endpoint base badge rights) b same = refl
same_full (CNode base radix guard) b same = refl
same_full (Tcb base) b same = refl

-- the capability that is derived into a thread's root slot
abbrev pub space_placement : NewSpace → CapPlacement
space_placement new = record { source = new.source; slot = new.tcb; cap = new.cap }

module _ (p : ProfileName) (f : Forest Entry) (distinct : IsDistinct eqb (slots f)) (new : NewSpace)
    (is : IsSpace p f new) where
  -- once the root slot is cleared the capability can be derived, where the source and the invoked slot are still full
  pub space_derives : is_full new.source (clear p new.tcb f) ≡ true → is_full new.invoked (clear p new.tcb f) ≡ true →
      IsDerivation p (clear p new.tcb f) (space_placement new)
  space_derives full invoked =
      let g = clear p new.tcb f in
      let source : cap_at g new.source ≡ cap_at f new.source = cap-clear p new.tcb new.source f distinct full in
      let tcb : cap_at g new.invoked ≡ Tcb new.tcb = cap-clear p new.tcb new.invoked f distinct invoked ∙ is.names in
      let same : names_same (cap_at g new.source) new.cap ≡ true =
      ap (λ cap. names_same cap new.cap) source ∙ is.same in
      record {
        ends = record {
          full = full;
          empty = empty-clear p new.tcb f;
          placed = tcb_placed p g new.invoked new.tcb tcb;
          housed =
              housed_by p g new.invoked new.tcb
              (subst (λ cap. In new.tcb (slots_of p cap)) (sym tcb) (root_slot_in p new.tcb));
          lawful = λ memory all. is.remade memory (subst (IsLawful p memory) source
              (lawful_full p memory (cap_at g new.source) (same_full (cap_at g new.source) new.cap same)
              (lawful_at p memory g all new.source)));
          same = same;
        };
        badge = inr (cnode_badge (cap_at g new.source) new.cap same is.node);
        childless = λ untyped. absurd (false≢true (sym (cnode_typed new.cap is.node) ∙ untyped));
      }

  -- what holds once the root slot is cleared, and where the capability is then derived
  pub space_kept : (P : Forest Entry → Type 0) → P (clear p new.tcb f) →
      (IsDerivation p (clear p new.tcb f) (space_placement new) →
      P (derived new.source new.tcb new.cap (clear p new.tcb f))) → P (with_space p new f)
  space_kept P left put =
      by (is_full new.source (clear p new.tcb f)) (is_full new.invoked (clear p new.tcb f)) refl refl
    where
      by : (a b : Bool) → is_full new.source (clear p new.tcb f) ≡ a → is_full new.invoked (clear p new.tcb f) ≡ b →
          P (cond (a && b) (derived new.source new.tcb new.cap (clear p new.tcb f)) (clear p new.tcb f))
      by true true full invoked = put (space_derives full invoked)
      by true false full invoked = left
      by false b full invoked = left

  pub space_put : (g : Forest Entry) → with_derived p (space_placement new) g ≡ derived new.source new.tcb new.cap g
  space_put g =
      ap
      (λ b. cond b (freed new.source (2 ^ bits_of p new.cap) (derived new.source new.tcb new.cap g))
      (derived new.source new.tcb new.cap g)) (cnode_typed new.cap is.node)

  pub live-space : (base_of : Cap → Option ℕ) → IsBase base_of → (q : ℕ) →
      list_any (λ k. q == k) (filter_map base_of (caps (with_space p new f))) ≡ true →
      list_any (λ k. q == k) (filter_map base_of (caps f)) ≡ true
  live-space base_of base q =
      let IsNoMore : Forest Entry → Type 0 =
      λ g. list_any (λ k. q == k) (filter_map base_of (caps g)) ≡ true →
      list_any (λ k. q == k) (filter_map base_of (caps f)) ≡ true in
      space_kept IsNoMore (live-clear base_of q p new.tcb f)
      (λ d. subst IsNoMore (space_put (clear p new.tcb f))
      (λ h. live-clear base_of q p new.tcb f
      (sym (live-derived base_of base p (space_placement new) (clear p new.tcb f) d.ends.full d.ends.same q) ∙ h)))

pub store-space : (p : ProfileName) (memory : ℕ) (f : Forest Entry) (new : NewSpace) → IsSpace p f new →
    IsKernelStore p memory f → IsKernelStore p memory (with_space p new f)
store-space p memory f new is store =
    let cleared = store-clear p memory new.tcb f store in
    space_kept p f store.slots_distinct new is (IsKernelStore p memory) cleared
    (λ d. subst (IsKernelStore p memory) (space_put p f store.slots_distinct new is (clear p new.tcb f))
    (store-derived p memory (clear p new.tcb f) cleared (space_placement new) d))
