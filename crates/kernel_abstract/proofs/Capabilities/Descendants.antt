-- What stands below an element of a forest after a put.
use Rattle.std.proofs.Common.{◌≡◌, Bool, true, false, cond, ◌∷◌, refl}
use Rattle.std.specs.List.{AllByRecursion as Each, Contains}
use Rattle.kernel_forest.specs.Forest.{Forest, none, tree, preorder, join, below_those, below, after}
use Rattle.kernel_forest.proofs.Trees.Forests.{each-append, each-left_part, each-right_part, each-contained, each-contains, each-join, each-join_parts}
use Rattle.kernel_forest.proofs.Trees.Built.{Absent, below_those_none}

-- it stands in the forest
pub each-below_those : {A : Type 0} (P : A → Type 0) (q : A → Bool) (f : Forest A) → Each P (preorder f) → Each P (preorder (below_those q f))
each-below_those P q none h = tt
each-below_those {A} P q (tree a k r) h =
    let hk : Each P (preorder k) = each-left_part P (preorder k) (preorder r) h.1 in
    let hr : Each P (preorder r) = each-right_part P (preorder k) (preorder r) h.1 in
    elim (q a) as (λ c. Each P (preorder (cond c k (join (below_those q k) (below_those q r))))) [
      | true ↦ hk
      | false ↦ each-join P (below_those q k) (below_those q r) (each-below_those P q k hk) (each-below_those P q r hr)
    ]

pub contains-below_those : {A : Type 0} (q : A → Bool) (f : Forest A) (a : A) → Contains (preorder (below_those q f)) a → Contains (preorder f) a
contains-below_those q f a m =
    each-contained (Contains (preorder f)) (preorder (below_those q f)) a (each-below_those (Contains (preorder f)) q f (each-contains (preorder f))) m

-- a further element stands below another one, and below those that the other stands below

each-in_below : {A : Type 0} (P : A → Type 0) (is : A → Bool) (x : A) (f : Forest A) → Each P (preorder f) → Each (λ a. is a ≡ true → P x) (preorder f) → Each P (preorder (below is x f))
each-in_below P is x none h e = tt
each-in_below {A} P is x (tree a k r) h e =
    let hk : Each P (preorder k) = each-left_part P (preorder k) (preorder r) h.1 in
    let hr : Each P (preorder r) = each-right_part P (preorder k) (preorder r) h.1 in
    let ek : Each (λ b. is b ≡ true → P x) (preorder k) = each-left_part (λ b. is b ≡ true → P x) (preorder k) (preorder r) e.1 in
    let er : Each (λ b. is b ≡ true → P x) (preorder r) = each-right_part (λ b. is b ≡ true → P x) (preorder k) (preorder r) e.1 in
    (elim (is a) as (λ c. is a ≡ c → Each P (preorder (cond c (tree a (tree x none k) r) (tree a (below is x k) (below is x r))))) [
      | true ↦ λ t. (h.0, (e.0 t, h.1))
      | false ↦ λ t. (h.0, each-append P (preorder (below is x k)) (preorder (below is x r)) (each-in_below P is x k hk ek) (each-in_below P is x r hr er))
    ]) refl

each-in_after : {A : Type 0} (P : A → Type 0) (is : A → Bool) (x : A) (f : Forest A) → Each P (preorder f) → Each (λ a. is a ≡ true → P x) (preorder f) → Each P (preorder (after is x f))
each-in_after P is x none h e = tt
each-in_after {A} P is x (tree a k r) h e =
    let hk : Each P (preorder k) = each-left_part P (preorder k) (preorder r) h.1 in
    let hr : Each P (preorder r) = each-right_part P (preorder k) (preorder r) h.1 in
    let ek : Each (λ b. is b ≡ true → P x) (preorder k) = each-left_part (λ b. is b ≡ true → P x) (preorder k) (preorder r) e.1 in
    let er : Each (λ b. is b ≡ true → P x) (preorder r) = each-right_part (λ b. is b ≡ true → P x) (preorder k) (preorder r) e.1 in
    (elim (is a) as (λ c. is a ≡ c → Each P (preorder (cond c (tree a k (tree x none r)) (tree a (after is x k) (after is x r))))) [
      | true ↦ λ t. (h.0, each-append P (preorder k) (x ∷ preorder r) hk (e.0 t, hr))
      | false ↦ λ t. (h.0, each-append P (preorder (after is x k)) (preorder (after is x r)) (each-in_after P is x k hk ek) (each-in_after P is x r hr er))
    ]) refl

pub each-descendants_below : {A : Type 0} (P : A → Type 0) (is q : A → Bool) (x : A) (f : Forest A) → q x ≡ false → Each (λ a. is a ≡ true → q a ≡ true → P x) (preorder f)
    → Each P (preorder (below_those q f)) → Each (λ a. is a ≡ true → P x) (preorder (below_those q f)) → Each P (preorder (below_those q (below is x f)))
each-descendants_below P is q x none n s h e = tt
each-descendants_below {A} P is q x (tree a k r) n s h e =
    (elim (q a) as (λ d. q a ≡ d → Each P (preorder (cond d k (join (below_those q k) (below_those q r)))) → Each (λ b. is b ≡ true → P x) (preorder (cond d k (join (below_those q k) (below_those q r))))
    → Each P (preorder (below_those q (cond (is a) (tree a (tree x none k) r) (tree a (below is x k) (below is x r)))))) [
      | true ↦ λ u g i.
          (elim (is a) as (λ c. is a ≡ c → Each P (preorder (below_those q (cond c (tree a (tree x none k) r) (tree a (below is x k) (below is x r)))))) [
            | true ↦ λ t. rw u (s.0 t u, g)
            | false ↦ λ t. rw u (each-in_below P is x k g i)
          ]) refl
      | false ↦ λ u g i.
          let b : Each P (preorder (below_those q k)) × Each P (preorder (below_those q r)) = each-join_parts P (below_those q k) (below_those q r) g in
          let j : Each (λ b. is b ≡ true → P x) (preorder (below_those q k)) × Each (λ b. is b ≡ true → P x) (preorder (below_those q r)) = each-join_parts (λ b. is b ≡ true → P x) (below_those q k) (below_those q r) i in
          let sk : Each (λ b. is b ≡ true → q b ≡ true → P x) (preorder k) = each-left_part (λ b. is b ≡ true → q b ≡ true → P x) (preorder k) (preorder r) s.1 in
          let sr : Each (λ b. is b ≡ true → q b ≡ true → P x) (preorder r) = each-right_part (λ b. is b ≡ true → q b ≡ true → P x) (preorder k) (preorder r) s.1 in
          elim (is a) as (λ c. Each P (preorder (below_those q (cond c (tree a (tree x none k) r) (tree a (below is x k) (below is x r)))))) [
            | true ↦ rw (u, n) g
            | false ↦ rw u
                (each-join P (below_those q (below is x k)) (below_those q (below is x r))
                (each-descendants_below P is q x k n sk b.0 j.0) (each-descendants_below P is q x r n sr b.1 j.1))
          ]
    ]) refl h e

-- put behind another one, it stands below those that the other stands below
pub each-descendants_after : {A : Type 0} (P : A → Type 0) (is q : A → Bool) (x : A) (f : Forest A) → q x ≡ false
    → Each P (preorder (below_those q f)) → Each (λ a. is a ≡ true → P x) (preorder (below_those q f)) → Each P (preorder (below_those q (after is x f)))
each-descendants_after P is q x none n h e = tt
each-descendants_after {A} P is q x (tree a k r) n h e =
    (elim (q a) as (λ d. q a ≡ d → Each P (preorder (cond d k (join (below_those q k) (below_those q r)))) → Each (λ b. is b ≡ true → P x) (preorder (cond d k (join (below_those q k) (below_those q r))))
    → Each P (preorder (below_those q (cond (is a) (tree a k (tree x none r)) (tree a (after is x k) (after is x r)))))) [
      | true ↦ λ u g i.
          elim (is a) as (λ c. Each P (preorder (below_those q (cond c (tree a k (tree x none r)) (tree a (after is x k) (after is x r)))))) [
            | true ↦ rw u g
            | false ↦ rw u (each-in_after P is x k g i)
          ]
      | false ↦ λ u g i.
          let b : Each P (preorder (below_those q k)) × Each P (preorder (below_those q r)) = each-join_parts P (below_those q k) (below_those q r) g in
          let j : Each (λ b. is b ≡ true → P x) (preorder (below_those q k)) × Each (λ b. is b ≡ true → P x) (preorder (below_those q r)) = each-join_parts (λ b. is b ≡ true → P x) (below_those q k) (below_those q r) i in
          elim (is a) as (λ c. Each P (preorder (below_those q (cond c (tree a k (tree x none r)) (tree a (after is x k) (after is x r)))))) [
            | true ↦ rw (u, n) g
            | false ↦ rw u
                (each-join P (below_those q (after is x k)) (below_those q (after is x r))
                (each-descendants_after P is q x k n b.0 j.0) (each-descendants_after P is q x r n b.1 j.1))
          ]
    ]) refl h e

-- below the further element there is nothing

pub bare-below : {A : Type 0} (is q : A → Bool) (x : A) (f : Forest A) → q x ≡ true → Absent q (preorder f) → below_those q (below is x f) ≡ none
bare-below is q x none e h = refl
bare-below {A} is q x (tree a k r) e h =
    let hk : Absent q (preorder k) = each-left_part (λ b. q b ≡ false) (preorder k) (preorder r) h.1 in
    let hr : Absent q (preorder r) = each-right_part (λ b. q b ≡ false) (preorder k) (preorder r) h.1 in
    elim (is a) as (λ c. below_those q (cond c (tree a (tree x none k) r) (tree a (below is x k) (below is x r))) ≡ none) [
      | true ↦ rw (h.0, e) (below_those_none q r hr)
      | false ↦ rw (h.0, bare-below is q x k e hk) (bare-below is q x r e hr)
    ]

pub bare-after : {A : Type 0} (is q : A → Bool) (x : A) (f : Forest A) → q x ≡ true → Absent q (preorder f) → below_those q (after is x f) ≡ none
bare-after is q x none e h = refl
bare-after {A} is q x (tree a k r) e h =
    let hk : Absent q (preorder k) = each-left_part (λ b. q b ≡ false) (preorder k) (preorder r) h.1 in
    let hr : Absent q (preorder r) = each-right_part (λ b. q b ≡ false) (preorder k) (preorder r) h.1 in
    elim (is a) as (λ c. below_those q (cond c (tree a k (tree x none r)) (tree a (after is x k) (after is x r))) ≡ none) [
      | true ↦ rw (h.0, e, below_those_none q k hk) refl
      | false ↦ rw (h.0, bare-after is q x k e hk) (bare-after is q x r e hr)
    ]
