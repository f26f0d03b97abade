-- A clear and a revocation keep what holds of the store of every kernel, and no object becomes live by them.
use Rattle.std.proofs.Common.{◌≡◌, ℕ, ◌+◌, ◌≤◌, Bool, true, false, not, cond, ◌==◌, ◌||◌, List, [], ◌∷◌, map, filter, Option, Some, None, All, eqb, inl, inr, refl, sym, ap, subst, ◌∙◌}
use Rattle.std.specs.List.{list_any, filter_map, cons_option, Contains, IsDistinct}
use Rattle.std.proofs.lemmas.Bool.{false≢true, eqb-true}
use Rattle.cap_core.specs.declared.profile.ProfileName.{ProfileName}
use Rattle.cap_core.specs.declared.capability.Cap.{Cap}
use Rattle.cap_core.specs.Objects.{is_untyped, in_region, base_of, end_of, IsLawful}
use Rattle.kernel_forest.specs.Forest.{Forest, preorder}
use Rattle.kernel_forest.specs.Entries.{Entry, is_at, is_full, cap_at, caps, slots}
use Rattle.kernel_forest.proofs.Slots.Edits.{entry_at}
use Rattle.kernel_forest.proofs.Slots.Holding.{cap-entry}
use Rattle.kernel_delete.specs.Least.{cleared}
use Rattle.kernel_delete.specs.Clear.{clear}
use Rattle.kernel_delete.specs.Revoke.{revoke}
use Rattle.kernel_delete.proofs.Members.{any_in, any_of, tells}
use Rattle.kernel_delete.proofs.Rounds.{cleared_least}
use Rattle.kernel_delete.proofs.Without.{preorder-without}
use Rattle.kernel_delete.proofs.Kept.{in_without, contains-without, all-without, distinct-without, disjoint-without, below-without, kept-revoke}
use Rattle.kernel_abstract.specs.Regions.{free_of}
use Rattle.kernel_abstract.specs.Memory.{IsSlotAddress}
use Rattle.kernel_abstract.specs.Private.Stores.{IsKernelStore}

pub slots-clear : (p : ProfileName) (memory s : ℕ) (f : Forest Entry) → All (IsSlotAddress p memory) (slots f) →
    All (IsSlotAddress p memory) (slots (clear p s f))
slots-clear p memory s f h =
    all-without (IsSlotAddress p memory) (λ (e : Entry). e.slot) (λ (e : Entry). cleared p (preorder f) s e.slot) f h

pub caps-clear : (p : ProfileName) (memory s : ℕ) (f : Forest Entry) → All (IsLawful p memory) (caps f) →
    All (IsLawful p memory) (caps (clear p s f))
caps-clear p memory s f h =
    all-without (IsLawful p memory) (λ (e : Entry). e.cap) (λ (e : Entry). cleared p (preorder f) s e.slot) f h

pub store-clear : (p : ProfileName) (memory s : ℕ) (f : Forest Entry) → IsKernelStore p memory f →
    IsKernelStore p memory (clear p s f)
store-clear p memory s f store = record {
  memory_most = store.memory_most;
  slots_distinct = distinct-without (λ (e : Entry). cleared p (preorder f) s e.slot) f store.slots_distinct;
  slots_placed = slots-clear p memory s f store.slots_placed;
  lawful = caps-clear p memory s f store.lawful;
  disjoint = disjoint-without (cleared p (preorder f) s) f store.slots_distinct p store.disjoint;
  regions = record {
    original =
        λ u m is. store.regions.original u (contains-without (λ (e : Entry). cleared p (preorder f) s e.slot) f u m) is;
    below =
        below-without (cleared p (preorder f) s) f store.slots_distinct
        (λ a d. in_region p a.cap d.cap ≡ true) store.regions.below;
    used =
        λ u d m is n. below-without (cleared p (preorder f) s) f store.slots_distinct
        (λ a d. is_untyped a.cap ≡ true → end_of p d.cap ≤ base_of a.cap + free_of a.cap)
        (λ a d here below untyped. store.regions.used a d here untyped below) u d m n is;
  };
}

pub store-revoke : (p : ProfileName) (memory s : ℕ) (f : Forest Entry) → IsKernelStore p memory f →
    IsKernelStore p memory (revoke p s f)
store-revoke p memory s f store = kept-revoke p (IsKernelStore p memory) (λ c g h. store-clear p memory c g h) s f store

-- a slot that stays full holds what it held
pub cap-clear : (p : ProfileName) (s n : ℕ) (f : Forest Entry) → IsDistinct eqb (slots f) →
    is_full n (clear p s f) ≡ true → cap_at (clear p s f) n ≡ cap_at f n
cap-clear p s n f distinct full =
    let e : (e : Entry) × Contains (preorder (clear p s f)) e × (e.slot ≡ n) × (e.cap ≡ cap_at (clear p s f) n) =
    entry_at n (clear p s f) full in
    sym e.3
    ∙ sym
    (cap-entry f e.0 distinct (contains-without (λ (x : Entry). cleared p (preorder f) s x.slot) f e.0 e.1))
    ∙ ap (cap_at f) e.2

-- the slot that is cleared is empty
pub empty-clear : (p : ProfileName) (s : ℕ) (f : Forest Entry) → is_full s (clear p s f) ≡ false
empty-clear p s f = elim (tells (is_full s (clear p s f))) [
  | inl there ↦
      let e = any_of (is_at s) (preorder (clear p s f)) there in
      let kept = in_without (λ (x : Entry). cleared p (preorder f) s x.slot) f e.0 e.1.0 in
      let gone : cleared p (preorder f) s s ≡ true =
      (cleared_least p (preorder f) s).has_it (any_in (is_at s) (preorder f) e.0 kept.0 e.1.1) in
      absurd (false≢true (sym kept.1 ∙ ap (cleared p (preorder f) s) (eqb-true e.0.slot s e.1.1) ∙ gone))
  | inr none ↦ none
]

-- the objects that are live are among those that were
module _ (base_of : Cap → Option ℕ) (q : ℕ) where
  any_more : (o : Option ℕ) (rest : List ℕ) → list_any (λ k. q == k) rest ≡ true →
      list_any (λ k. q == k) (cons_option o rest) ≡ true
  any_more None rest h = h
  any_more (Some b) rest h = either (q == b) (list_any (λ k. q == k) rest) h
    where
      either : (b c : Bool) → c ≡ true → (b || c) ≡ true
      either true c h = refl
      either false c h = h

  any_kept : (o : Option ℕ) (rest less : List ℕ) →
      (list_any (λ k. q == k) less ≡ true → list_any (λ k. q == k) rest ≡ true) →
      list_any (λ k. q == k) (cons_option o less) ≡ true → list_any (λ k. q == k) (cons_option o rest) ≡ true
  any_kept None rest less more h = more h
  any_kept (Some b) rest less more h =
      elim (q == b) as (λ c. (c || list_any (λ k. q == k) less) ≡ true → (c || list_any (λ k. q == k) rest) ≡ true) [
        | true ↦ λ k. refl
        | false ↦ λ k. more k
      ] h

  fewer : (stays : Entry → Bool) (es : List Entry) →
      list_any (λ k. q == k) (filter_map base_of (map (λ (e : Entry). e.cap) (filter stays es))) ≡ true →
      list_any (λ k. q == k) (filter_map base_of (map (λ (e : Entry). e.cap) es)) ≡ true
  fewer stays [] h = h
  fewer stays (e ∷ es) h =
      elim (stays e) as
      (λ b. list_any (λ k. q == k)
      (filter_map base_of (map (λ (x : Entry). x.cap) (cond b (e ∷ filter stays es) (filter stays es)))) ≡ true →
      list_any (λ k. q == k) (cons_option (base_of e.cap) (filter_map base_of (map (λ (x : Entry). x.cap) es)))
      ≡ true) [
        | true ↦
            λ k. any_kept (base_of e.cap) (filter_map base_of (map (λ (x : Entry). x.cap) es))
            (filter_map base_of (map (λ (x : Entry). x.cap) (filter stays es))) (fewer stays es) k
        | false ↦ λ k. any_more (base_of e.cap) (filter_map base_of (map (λ (x : Entry). x.cap) es)) (fewer stays es k)
      ] h

  pub live-clear : (p : ProfileName) (s : ℕ) (f : Forest Entry) →
      list_any (λ k. q == k) (filter_map base_of (caps (clear p s f))) ≡ true →
      list_any (λ k. q == k) (filter_map base_of (caps f)) ≡ true
  live-clear p s f h = fewer (λ (e : Entry). not (cleared p (preorder f) s e.slot)) (preorder f)
      (subst
      (λ (es : List Entry). list_any (λ k. q == k) (filter_map base_of (map (λ (e : Entry). e.cap) es)) ≡ true)
      (preorder-without (λ (e : Entry). cleared p (preorder f) s e.slot) f) h)

  pub live-revoke : (p : ProfileName) (s : ℕ) (f : Forest Entry) →
      list_any (λ k. q == k) (filter_map base_of (caps (revoke p s f))) ≡ true →
      list_any (λ k. q == k) (filter_map base_of (caps f)) ≡ true
  live-revoke p s f =
      kept-revoke p
      (λ g. list_any (λ k. q == k) (filter_map base_of (caps g)) ≡ true →
      list_any (λ k. q == k) (filter_map base_of (caps f)) ≡ true)
      (λ c g h live. h (live-clear p c g live)) s f (λ live. live)
