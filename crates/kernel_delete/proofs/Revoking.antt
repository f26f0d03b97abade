-- Revocation by first children.
use Rattle.std.proofs.Common.{◌≡◌, ◌⊎◌, inl, inr, ℕ, zero, suc, ◌-◌, ◌≤◌, ◌<◌, Bool, true, false, not, cond, ◌||◌, ◌&&◌, List, [], ◌∷◌, ◌++◌, length, Option, Some, None, refl, sym, ◌∙◌, ap, subst, arith}
use Rattle.std.specs.List.{filter}
use Rattle.cap_core.specs.declared.profile.ProfileName.{ProfileName}
use Rattle.kernel_forest.specs.Entries.{Entry, is_at, first_slot, first_child}
use Rattle.cap_core.specs.Objects.{same_object}
use Rattle.kernel_forest.specs.Forest.{Forest, none, tree, preorder, join, tops, below_those, children}
use Rattle.kernel_delete.specs.Clear.{clear}
use Rattle.kernel_delete.specs.Least.{full, cleared}
use Rattle.kernel_delete.specs.Members.{In}
use Rattle.kernel_delete.specs.Work.{named, ended_in, IsClearable}
use Rattle.kernel_delete.specs.Revoke.{revoked, revoke}
use Rattle.cap_core.specs.declared.capability.Cap.{Cap}
use Rattle.kernel_delete.proofs.Members.{any_in, any_of, in_append, in_left, in_right, in_filter, eqb_self}
use Rattle.kernel_delete.proofs.Without.{preorder-without}
use Rattle.kernel_forest.proofs.Trees.Forests.{preorder-join}
use Rattle.kernel_delete.proofs.Rounds.{cleared_least}
use Rattle.kernel_delete.proofs.Orders.{one-filter}

pub in_join : {A : Type 0} (a : A) (f g : Forest A) → In a (preorder (join f g)) → (In a (preorder f)) ⊎ (In a (preorder g))
in_join a f g i = in_append a (preorder f) (preorder g) (let P : _ → Type 0 = λ q. In a q in subst P (preorder-join f g) i)

tops_in : {A : Type 0} (a : A) (f : Forest A) → In a (tops f) → In a (preorder f)
tops_in a none i = i
tops_in a (tree b k r) i = elim i [ inl e ↦ inl e | inr j ↦ inr (in_right a (preorder k) (preorder r) (tops_in a r j)) ]

below_in : {A : Type 0} (p : A → Bool) (a : A) (f : Forest A) → In a (preorder (below_those p f)) → In a (preorder f)
below_in p a none i = i
below_in {A} p a (tree b k r) i =
    elim (p b) as (λ t. In a (preorder (cond t k (join (below_those p k) (below_those p r)))) → In a (b ∷ (preorder k ++ preorder r))) [
      | true ↦ λ j. inr (in_left a (preorder k) (preorder r) j)
      | false ↦ λ j. elim (in_join a (below_those p k) (below_those p r) j) [
        | inl u ↦ inr (in_left a (preorder k) (preorder r) (below_in p a k u))
        | inr u ↦ inr (in_right a (preorder k) (preorder r) (below_in p a r u))
      ]
    ] i

first_in : (l : List Entry) (c : ℕ) → first_slot l ≡ Some c → (a : Entry) × (In a l × (a.slot ≡ c))
first_in [] c e = cc
first_in (a ∷ l) c e = (a, (inl refl, cc))

-- a slot's first child stands in the forest
pub child_in : (s c : ℕ) (f : Forest Entry) → first_child s f ≡ Some c → (a : Entry) × (In a (preorder f) × (a.slot ≡ c))
child_in s c f e =
    let w = first_in (children (is_at s) f) c e in
    (w.0, (below_in (is_at s) w.0 f (tops_in w.0 (below_those (is_at s) f) w.1.0), w.1.1))

filter_le : {A : Type 0} (p : A → Bool) (l : List A) → length (filter p l) ≤ length l
filter_le p [] = omega arith
filter_le {A} p (x ∷ l) = let ih : length (filter p l) ≤ length l = filter_le p l in elim (p x) as (λ b. length (cond b (x ∷ filter p l) (filter p l)) ≤ suc (length l)) [ true ↦ omega arith | false ↦ omega arith ]

filter_less : {A : Type 0} (p : A → Bool) (l : List A) (a : A) → In a l → p a ≡ false → length (filter p l) < length l
filter_less p [] a i e = absurd i
filter_less {A} p (x ∷ l) a i e =
    let le : length (filter p l) ≤ length l = filter_le p l in
    elim (p x) as (λ b. p x ≡ b → length (cond b (x ∷ filter p l) (filter p l)) < suc (length l)) [
      | true ↦ λ t. elim i [ inl s ↦ absurd (let z : true ≡ false = sym t ∙ ap p (sym s) ∙ e in cc) | inr j ↦ let ih : length (filter p l) < length l = filter_less p l a j e in omega arith ]
      | false ↦ λ t. omega arith
    ] refl

-- to clear a full slot leaves less
pub clear_less : (p : ProfileName) (s : ℕ) (f : Forest Entry) (a : Entry) → In a (preorder f) → a.slot ≡ s → length (preorder (clear p s f)) < length (preorder f)
clear_less p s f a i e =
    let P : ℕ → Type 0 = λ k. full (preorder f) k ≡ true in
    let Q : ℕ → Type 0 = λ k. cleared p (preorder f) s k ≡ true in
    let h : full (preorder f) s ≡ true = subst P e (any_in (is_at a.slot) (preorder f) a i (eqb_self a.slot)) in
    let g : cleared p (preorder f) s a.slot ≡ true = subst Q (sym e) ((cleared_least p (preorder f) s).has_it h) in
    let x : length (preorder (clear p s f)) ≡ length (filter (λ e. not (cleared p (preorder f) s e.slot)) (preorder f)) = ap length (preorder-without (λ e. cleared p (preorder f) s e.slot) f) in
    let y : length (filter (λ e. not (cleared p (preorder f) s e.slot)) (preorder f)) < length (preorder f) = filter_less (λ e. not (cleared p (preorder f) s e.slot)) (preorder f) a i (ap not g) in
    omega (arith, x, y)

pub child_less : (p : ProfileName) (s c : ℕ) (f : Forest Entry) → first_child s f ≡ Some c → length (preorder (clear p c f)) < length (preorder f)
child_less p s c f e = let w = child_in s c f e in clear_less p c f w.0 w.1.0 w.1.1

pub revoked_none : (p : ProfileName) (k s : ℕ) (f : Forest Entry) → first_child s f ≡ None → revoked p k s f ≡ f
revoked_none p zero s f e = refl
revoked_none p (suc k) s f e = ap (λ (o : Option ℕ). elim o [ None ↦ f | Some c ↦ revoked p k s (clear p c f) ]) e

pub revoked_some : (p : ProfileName) (k s c : ℕ) (f : Forest Entry) → first_child s f ≡ Some c → revoked p (suc k) s f ≡ revoked p k s (clear p c f)
revoked_some p k s c f e = ap (λ (o : Option ℕ). elim o [ None ↦ f | Some c ↦ revoked p k s (clear p c f) ]) e

-- one of two
pub child_or_none : (o : Option ℕ) → (o ≡ None) ⊎ ((c : ℕ) × (o ≡ Some c))
child_or_none None = inl refl
child_or_none (Some c) = inr (c, refl)

-- more turns than there are full slots change nothing
revoked_enough : (p : ProfileName) (j k s : ℕ) (f : Forest Entry) → length (preorder f) ≤ j → length (preorder f) ≤ k → revoked p j s f ≡ revoked p k s f
revoked_enough p zero k s f h g = elim (child_or_none (first_child s f)) [
  | inl e ↦ sym (revoked_none p k s f e)
  | inr w ↦ absurd (let x = child_less p s w.0 f w.1 in omega arith)
]
revoked_enough p (suc j) zero s f h g = elim (child_or_none (first_child s f)) [
  | inl e ↦ revoked_none p (suc j) s f e
  | inr w ↦ absurd (let x = child_less p s w.0 f w.1 in omega arith)
]
revoked_enough p (suc j) (suc k) s f h g = elim (child_or_none (first_child s f)) [
  | inl e ↦ revoked_none p (suc j) s f e ∙ sym (revoked_none p (suc k) s f e)
  | inr w ↦
      let x = child_less p s w.0 f w.1 in
      revoked_some p j s w.0 f w.1 ∙ revoked_enough p j k s (clear p w.0 f) (omega arith) (omega arith) ∙ sym (revoked_some p k s w.0 f w.1)
]

-- revocation, as two equations
pub revoke_none : (p : ProfileName) (s : ℕ) (f : Forest Entry) → first_child s f ≡ None → revoke p s f ≡ f
unfolding revoke
revoke_none p s f e = revoked_none p (length (preorder f)) s f e

pub revoke_some : (p : ProfileName) (s c : ℕ) (f : Forest Entry) → first_child s f ≡ Some c → revoke p s f ≡ revoke p s (clear p c f)
unfolding revoke
revoke_some p s c f e =
    let x = child_less p s c f e in
    let n : ℕ = length (preorder f) - 1 in
    let y : length (preorder f) ≡ suc n = omega arith in
    ap (λ k. revoked p k s f) y ∙ revoked_some p n s c f e ∙ revoked_enough p n (length (preorder (clear p c f))) s (clear p c f) (omega arith) (omega arith)

-- what stays is lawful
pub clearable-clear : (p : ProfileName) (s size : ℕ) (f : Forest Entry) → IsClearable p size (preorder f) → IsClearable p size (preorder (clear p s f))
clearable-clear p s size f law =
    let kept = preorder-without (λ e. cleared p (preorder f) s e.slot) f in
    let P : List Entry → Type 0 = λ q. IsClearable p size q in
    let q : Entry → Bool = λ e. not (cleared p (preorder f) s e.slot) in
    subst P (sym kept) (record {
      apart = λ n. one-filter (is_at n) q (preorder f) (law.apart n);
      no_null = λ a i. law.no_null a (in_filter q (preorder f) a i).0;
      objects = λ a b i j. law.objects a b (in_filter q (preorder f) a i).0 (in_filter q (preorder f) b j).0;
      distinct = λ a i. law.distinct a (in_filter q (preorder f) a i).0;
      within = λ a i. law.within a (in_filter q (preorder f) a i).0;
      slots = λ a i. law.slots a (in_filter q (preorder f) a i).0;
    })

pub named-clear : (p : ProfileName) (s : ℕ) (f : Forest Entry) (c : Cap) → named (preorder (clear p s f)) c ≡ true → named (preorder f) c ≡ true
named-clear p s f c h =
    let q : Entry → Bool = λ e. not (cleared p (preorder f) s e.slot) in
    let w = any_of (λ (b : Entry). same_object b.cap c) (preorder (clear p s f)) h in
    let i : In w.0 (filter q (preorder f)) = let P : List Entry → Type 0 = λ l. In w.0 l in subst P (preorder-without (λ e. cleared p (preorder f) s e.slot) f) w.1.0 in
    any_in (λ (b : Entry). same_object b.cap c) (preorder f) w.0 (in_filter q (preorder f) w.0 i).0 w.1.1

-- what ended_in in two steps
pub ended-both : (a b d : List Entry) → ((c : Cap) → named b c ≡ true → named a c ≡ true) → ((c : Cap) → named d c ≡ true → named b c ≡ true) →
    (λ (c : Cap). ended_in a b c || ended_in b d c) ≡ ended_in a d
ended-both a b d h g = λ i c. step (named a c) (named b c) (named d c) (h c) (g c) i
  where
    step : (x y z : Bool) → (y ≡ true → x ≡ true) → (z ≡ true → y ≡ true) → (x && not y) || (y && not z) ≡ x && not z
    step x y z h g = grind arith

-- with as many turns as there are full slots, no child is left
revoked_ends : (p : ProfileName) (k s : ℕ) (f : Forest Entry) → length (preorder f) ≤ k → first_child s (revoked p k s f) ≡ None
revoked_ends p zero s f h = elim (child_or_none (first_child s f)) [
  | inl e ↦ e
  | inr w ↦ absurd (let x = child_less p s w.0 f w.1 in omega arith)
]
revoked_ends p (suc k) s f h = elim (child_or_none (first_child s f)) [
  | inl e ↦ ap (first_child s) (revoked_none p (suc k) s f e) ∙ e
  | inr w ↦
      let x = child_less p s w.0 f w.1 in
      ap (first_child s) (revoked_some p k s w.0 f w.1) ∙ revoked_ends p k s (clear p w.0 f) (omega arith)
]

pub revoke_ends : (p : ProfileName) (s : ℕ) (f : Forest Entry) → first_child s (revoke p s f) ≡ None
unfolding revoke
revoke_ends p s f = revoked_ends p (length (preorder f)) s f (omega arith)
