-- The layers of slots: in which of them the slots stand that a slot leads to, and from which a slot comes.
use Rattle.std.proofs.Common.{◌≡◌, ◌≤◌, ◌<◌, ◌⊎◌, inl, inr, ℕ, zero, suc, ◌+◌, true, false, not, List, [], ◌∷◌, ◌++◌, length, map, Some, refl, sym, ap, subst, arith}
use Rattle.std.specs.List.{slice_get}
use Rattle.std.proofs.lemmas.Bool.{cases_lt}
use Rattle.std.proofs.lemmas.List.{append-nil}
use Rattle.std.proofs.lemmas.List.Filters.{length-filter_both}
use Rattle.cap_core.specs.declared.profile.ProfileName.{ProfileName}
use Rattle.query_reach.specs.declared.filled.FullSlot.{FullSlot}
use Rattle.kernel_delete.specs.Members.{In}
use Rattle.query_reach.specs.declared.chains.chain.Target.{Target}
use Rattle.query_reach.specs.Private.Layers.{is_sought_in, HasNoneSought, leads_to_layer, is_next, next_layer, others_of, IsLaid, layer_at}
use Rattle.kernel_delete.proofs.Members.{any_in, tells}
use Rattle.query_reach.proofs.Filtered.{some_same, in_filter, of_filter}

-- a slot stands in one of the layers up to one
abbrev pub UpTo : ℕ → List (List FullSlot) → FullSlot → Type 0
UpTo k [] t = ⊥
UpTo zero (l ∷ ls) t = In t l
UpTo (suc k) (l ∷ ls) t = In t l ⊎ UpTo k ls t

from_first : (k : ℕ) (ls : List (List FullSlot)) (t : FullSlot) → UpTo zero ls t → UpTo k ls t
from_first k [] t i = absurd i
from_first zero (l ∷ ls) t i = i
from_first (suc k) (l ∷ ls) t i = inl i

pub up_to_at : (k : ℕ) (ls : List (List FullSlot)) (t : FullSlot) → UpTo k ls t → (j : ℕ) × ((j ≤ k) × In t (layer_at ls j))
up_to_at k [] t i = absurd i
up_to_at zero (l ∷ ls) t i = (0, (omega arith, i))
up_to_at (suc k) (l ∷ ls) t i = elim i [
  | inl here ↦ (0, (omega arith, here))
  | inr more ↦ let r = up_to_at k ls t more in (suc r.0, (omega (arith, r.1.0), r.1.1))
]

pub layer_within : (ls : List (List FullSlot)) (k : ℕ) (t : FullSlot) → In t (layer_at ls k) → k < length ls
layer_within [] k t i = absurd i
layer_within (l ∷ ls) zero t i = omega arith
layer_within (l ∷ ls) (suc k) t i = let h = layer_within ls k t i in omega (arith, h)

module _ (p : ProfileName) where
  split : (layer rest : List FullSlot) (t : FullSlot) → In t rest → In t (next_layer p layer rest) ⊎ In t (others_of p layer rest)
  split layer rest t i = elim (tells (is_next p layer t)) [
    | inl next ↦ inl (in_filter (is_next p layer) rest t i next)
    | inr other ↦ inr (in_filter (λ (u : FullSlot). not (is_next p layer u)) rest t i (ap not other))
  ]

  pub in_first : (layer rest : List FullSlot) (ls : List (List FullSlot)) (t : FullSlot) → IsLaid p layer rest ls → In t layer → UpTo zero ls t
  in_first layer rest [] t laid i = subst (In t) laid i
  in_first layer rest (l ∷ ls) t laid i = subst (In t) (sym laid.0) i

  next_first : (layer rest : List FullSlot) (ls : List (List FullSlot)) (s t : FullSlot) → IsLaid p (next_layer p layer rest) (others_of p layer rest) ls →
      In s layer → leads_to_layer p s t ≡ true → In t rest → UpTo zero ls t
  next_first layer rest ls s t laid i h j =
      in_first (next_layer p layer rest) (others_of p layer rest) ls t laid
      (in_filter (is_next p layer) rest t j (any_in (λ (u : FullSlot). leads_to_layer p u t) layer s i h))

  -- what a slot leads to stands in its layer, in the next one or in one before
  pub one_more : (ls : List (List FullSlot)) (layer rest : List FullSlot) (k : ℕ) (s t : FullSlot) → IsLaid p layer rest ls →
      UpTo k ls s → leads_to_layer p s t ≡ true → In t layer ⊎ In t rest → UpTo (suc k) ls t
  one_more [] layer rest k s t laid u h i = absurd u
  one_more (l ∷ ls) layer rest zero s t laid u h i = elim i [
    | inl here ↦ inl (subst (In t) (sym laid.0) here)
    | inr there ↦ inr (next_first layer rest ls s t laid.1 (subst (In s) laid.0 u) h there)
  ]
  one_more (l ∷ ls) layer rest (suc k) s t laid u h i = elim i [
    | inl here ↦ inl (subst (In t) (sym laid.0) here)
    | inr there ↦ inr (elim u [
      | inl from ↦ from_first (suc k) ls t (next_first layer rest ls s t laid.1 (subst (In s) laid.0 from) h there)
      | inr more ↦ one_more ls (next_layer p layer rest) (others_of p layer rest) k s t laid.1 more h (split layer rest t there)
    ])
  ]

  pub laid_first : (layer rest : List FullSlot) (ls : List (List FullSlot)) (t : FullSlot) → IsLaid p layer rest ls → In t (layer_at ls 0) → In t layer
  laid_first layer rest [] t laid i = absurd i
  laid_first layer rest (l ∷ ls) t laid i = subst (In t) laid.0 i

  -- to a slot of a layer some slot of the layer before leads
  pub stepped : (ls : List (List FullSlot)) (layer rest : List FullSlot) → IsLaid p layer rest ls → (k : ℕ) (t : FullSlot) →
      In t (layer_at ls (suc k)) → is_next p (layer_at ls k) t ≡ true
  stepped [] layer rest laid k t i = absurd i
  stepped (l ∷ ls) layer rest laid zero t i =
      let first = laid_first (next_layer p layer rest) (others_of p layer rest) ls t laid.1 i in
      subst (λ (m : List FullSlot). is_next p m t ≡ true) (sym laid.0) (of_filter (is_next p layer) rest t first).1
  stepped (l ∷ ls) layer rest laid (suc k) t i = stepped ls (next_layer p layer rest) (others_of p layer rest) laid.1 k t i

  -- the slots of layers are those that were laid
  pub laid_in : (ls : List (List FullSlot)) (layer rest : List FullSlot) → IsLaid p layer rest ls → (k : ℕ) (t : FullSlot) →
      In t (layer_at ls k) → In t layer ⊎ In t rest
  laid_in [] layer rest laid k t i = absurd i
  laid_in (l ∷ ls) layer rest laid zero t i = inl (subst (In t) laid.0 i)
  laid_in (l ∷ ls) layer rest laid (suc k) t i = elim (laid_in ls (next_layer p layer rest) (others_of p layer rest) laid.1 k t i) [
    | inl next ↦ inr (of_filter (is_next p layer) rest t next).0
    | inr other ↦ inr (of_filter (λ (u : FullSlot). not (is_next p layer u)) rest t other).0
  ]

-- a layer by its place
pub layer_shown : {A : Type 0} (shows : A → List FullSlot) (xs : List A) (k : ℕ) (x : A) → slice_get xs k ≡ Some x → layer_at (map shows xs) k ≡ shows x
layer_shown shows [] k x e = cc
layer_shown shows (y ∷ ys) zero x e = ap shows (some_same y x e)
layer_shown shows (y ∷ ys) (suc k) x e = layer_shown shows ys k x e

module _ (p : ProfileName) (target : Target) (ls : List (List FullSlot)) where
  -- no layer up to one more
  pub none_more : (d k : ℕ) → HasNoneSought p target ls d → is_sought_in p target (layer_at ls d) ≡ false → k < d + 1 → is_sought_in p target (layer_at ls k) ≡ false
  none_more d k none last h = elim (cases_lt k d) [
    | inl before ↦ none k before
    | inr after ↦ let same : d ≡ k = omega (arith, h, after) in subst (λ (n : ℕ). is_sought_in p target (layer_at ls n) ≡ false) same last
  ]

-- what is laid behind one more layer
module _ (p : ProfileName) {A : Type 0} (shows : A → List FullSlot) where
  shown_more : (xs : List A) (x : A) (more : List (List FullSlot)) → map shows (xs ++ x ∷ []) ++ more ≡ map shows xs ++ shows x ∷ more
  shown_more [] x more = refl
  shown_more (y ∷ ys) x more = ap (λ (l : List (List FullSlot)). shows y ∷ l) (shown_more ys x more)

  pub laid_more : (first elsewhere layer rest next others : List FullSlot) (xs ys : List A) (x : A) (more : List (List FullSlot)) →
      ((m : List (List FullSlot)) → IsLaid p layer rest m → IsLaid p first elsewhere (map shows xs ++ m)) →
      shows x ≡ layer → ys ≡ xs ++ x ∷ [] → next ≡ next_layer p layer rest → others ≡ others_of p layer rest →
      IsLaid p next others more → IsLaid p first elsewhere (map shows ys ++ more)
  laid_more first elsewhere layer rest next others xs ys x more so_far is e n o laid =
      let behind : IsLaid p (next_layer p layer rest) (others_of p layer rest) more =
      subst (λ (l : List FullSlot). IsLaid p l (others_of p layer rest) more) n (subst (λ (l : List FullSlot). IsLaid p next l more) o laid) in
      subst (λ (l : List A). IsLaid p first elsewhere (map shows l ++ more)) (sym e)
      (subst (IsLaid p first elsewhere) (sym (shown_more xs x more)) (so_far (shows x ∷ more) (is, behind)))

  pub laid_done : (first elsewhere layer rest : List FullSlot) (xs : List A) →
      ((m : List (List FullSlot)) → IsLaid p layer rest m → IsLaid p first elsewhere (map shows xs ++ m)) → layer ≡ [] → IsLaid p first elsewhere (map shows xs)
  laid_done first elsewhere layer rest xs so_far none = subst (IsLaid p first elsewhere) (append-nil (map shows xs)) (so_far [] none)

-- one layer is taken from what is left
pub fewer_left : (p : ProfileName) (layer rest next others : List FullSlot) → next ≡ next_layer p layer rest → others ≡ others_of p layer rest → 0 < length layer →
    length next + length others < length layer + length rest
fewer_left p layer rest next others n o some =
    let both = length-filter_both (is_next p layer) (λ (t : FullSlot). not (is_next p layer t)) (λ t. refl) rest in
    omega (arith, some, both, ap length n, ap length o)

pub no_length : (l : List FullSlot) → length l ≡ 0 → l ≡ []
no_length [] e = refl
no_length (x ∷ l) e = absurd (omega (arith, e))
