-- What is read off a forest under new names.
use Rattle.std.proofs.Common.{◌≡◌, Bool, true, false, cond, List, [], ◌∷◌, map, refl, sym, subst}
use Rattle.std.specs.List.{AllByRecursion as Each, Contains}
use Rattle.kernel_forest.specs.Forest.{Forest, none, tree, preorder, below_those, has, ancestors, renamed}
use Rattle.kernel_forest.proofs.Trees.Forests.{each-contained, each-contains, each-weaker, each-left_part, each-right_part}
use Rattle.kernel_forest.proofs.Trees.Built.{preorder-renamed}

pub each-map : {A B : Type 0} (Q : B → Type 0) (w : A → B) (l : List A) → Each (λ a. Q (w a)) l → Each Q (map w l)
each-map Q w [] h = tt
each-map Q w (a ∷ l) h = (h.0, each-map Q w l h.1)

pub each-map_old : {A B : Type 0} (Q : B → Type 0) (w : A → B) (l : List A) → Each Q (map w l) → Each (λ a. Q (w a)) l
each-map_old Q w [] h = tt
each-map_old Q w (a ∷ l) h = (h.0, each-map_old Q w l h.1)

pub each-renamed : {A B : Type 0} (Q : B → Type 0) (w : A → B) (f : Forest A) → Each (λ a. Q (w a)) (preorder f) → Each Q (preorder (renamed w f))
each-renamed {A} {B} Q w f h = let R : List B → Type 0 = Each Q in subst R (sym (preorder-renamed w f)) (each-map Q w (preorder f) h)

-- what is there is something of before under its new name
pub contains-renamed : {A B : Type 0} (w : A → B) (f : Forest A) (b : B) → Contains (preorder (renamed w f)) b → (a : A) × Contains (preorder f) a × (b ≡ w a)
contains-renamed {A} {B} w f b m =
    let Q : B → Type 0 = λ y. (a : A) × Contains (preorder f) a × (y ≡ w a) in
    each-contained Q (preorder (renamed w f)) b (each-renamed Q w f (each-weaker (Contains (preorder f)) (λ a. Q (w a)) (λ a h. (a, h, refl)) (preorder f) (each-contains (preorder f)))) m

pub contains-map : {A B : Type 0} (w : A → B) (l : List A) (a : A) → Contains l a → Contains (map w l) (w a)
contains-map {A} {B} w l a m = each-contained (λ x. Contains (map w l) (w x)) l a (each-map_old (Contains (map w l)) w l (each-contains (map w l))) m

pub contains-renamed_old : {A B : Type 0} (w : A → B) (f : Forest A) (a : A) → Contains (preorder f) a → Contains (preorder (renamed w f)) (w a)
contains-renamed_old {A} {B} w f a m = let R : List B → Type 0 = λ l. Contains l (w a) in subst R (sym (preorder-renamed w f)) (contains-map w (preorder f) a m)

-- what stands above
pub has-renamed : {A B : Type 0} (w : A → B) (is : B → Bool) (f : Forest A) → has is (renamed w f) ≡ has (λ a. is (w a)) f
has-renamed w is none = refl
has-renamed w is (tree a k r) = rw (has-renamed w is k, has-renamed w is r) refl

pub ancestors-renamed : {A B : Type 0} (w : A → B) (is : B → Bool) (f : Forest A) → ancestors is (renamed w f) ≡ map w (ancestors (λ a. is (w a)) f)
ancestors-renamed w is none = refl
ancestors-renamed w is (tree a k r) =
    rw (has-renamed w is k, ancestors-renamed w is k, ancestors-renamed w is r)
    (elim (has (λ a. is (w a)) k) as (λ c. cond c (w a ∷ map w (ancestors (λ a. is (w a)) k)) (map w (ancestors (λ a. is (w a)) r)) ≡ map w (cond c (a ∷ ancestors (λ a. is (w a)) k) (ancestors (λ a. is (w a)) r))) [
      | true ↦ refl
      | false ↦ refl
    ])

-- two tests that agree
pub has-agree : {A : Type 0} (q q' : A → Bool) (f : Forest A) → Each (λ a. q' a ≡ q a) (preorder f) → has q' f ≡ has q f
has-agree q q' none h = refl
has-agree q q' (tree a k r) h =
    rw (h.0, has-agree q q' k (each-left_part (λ a. q' a ≡ q a) (preorder k) (preorder r) h.1), has-agree q q' r (each-right_part (λ a. q' a ≡ q a) (preorder k) (preorder r) h.1)) refl

pub ancestors-agree : {A : Type 0} (q q' : A → Bool) (f : Forest A) → Each (λ a. q' a ≡ q a) (preorder f) → ancestors q' f ≡ ancestors q f
ancestors-agree q q' none h = refl
ancestors-agree q q' (tree a k r) h =
    let hk : Each (λ a. q' a ≡ q a) (preorder k) = each-left_part (λ a. q' a ≡ q a) (preorder k) (preorder r) h.1 in
    let hr : Each (λ a. q' a ≡ q a) (preorder r) = each-right_part (λ a. q' a ≡ q a) (preorder k) (preorder r) h.1 in
    rw (has-agree q q' k hk, ancestors-agree q q' k hk, ancestors-agree q q' r hr) refl

pub below_those-agree : {A : Type 0} (q q' : A → Bool) (f : Forest A) → Each (λ a. q' a ≡ q a) (preorder f) → below_those q' f ≡ below_those q f
below_those-agree q q' none h = refl
below_those-agree q q' (tree a k r) h =
    let hk : Each (λ a. q' a ≡ q a) (preorder k) = each-left_part (λ a. q' a ≡ q a) (preorder k) (preorder r) h.1 in
    let hr : Each (λ a. q' a ≡ q a) (preorder r) = each-right_part (λ a. q' a ≡ q a) (preorder k) (preorder r) h.1 in
    rw (h.0, below_those-agree q q' k hk, below_those-agree q q' r hr) refl
