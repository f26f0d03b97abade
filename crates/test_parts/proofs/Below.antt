-- A relation between each in a forest and all that stands below it, and what the edits make of it.
use Rattle.std.proofs.Common.{◌≡◌, Bool, true, false, cond, ◌||◌, List, [], ◌∷◌, map, refl, sym, ◌∙◌, subst}
use Rattle.std.specs.List.{AllByRecursion as Each, list_any}
use Rattle.kernel_forest.specs.Forest.{Forest, none, tree, preorder, join, below_those, has, ancestors, below, after, out, renamed, root}
use Rattle.test_parts.specs.TestForests.{HoldsBelow}
use Rattle.kernel_forest.proofs.Trees.Forests.{each-append, each-left_part, each-right_part, each-join, each-weaker}
use Rattle.kernel_forest.proofs.Trees.Built.{preorder-renamed}
use Rattle.kernel_forest.proofs.Slots.Emptied.{each-out}
use Rattle.kernel_forest.proofs.Trees.Above.{has-any}

pub holds-join : {A : Type 0} (R : A → A → Type 0) (f g : Forest A) → HoldsBelow R f → HoldsBelow R g → HoldsBelow R (join f g)
holds-join R none g h k = k
holds-join R (tree a u o) g h k = (h.0, (h.1.0, holds-join R o g h.1.1 k))

pub holds-root : {A : Type 0} (R : A → A → Type 0) (x : A) (f : Forest A) → HoldsBelow R f → HoldsBelow R (root x f)
holds-root R x f h = holds-join R f (tree x none none) h (tt, (tt, tt))

-- what holds of each, where it holds of the new one as soon as it holds of the one beside which that is put

each-below_if : {A : Type 0} (P : A → Type 0) (is : A → Bool) (x : A) (f : Forest A) → Each P (preorder f) → Each (λ b. is b ≡ true → P b → P x) (preorder f)
    → Each P (preorder (below is x f))
each-below_if P is x none h t = tt
each-below_if {A} P is x (tree a k r) h t =
    (elim (is a) as (λ c. is a ≡ c → Each P (preorder (cond c (tree a (tree x none k) r) (tree a (below is x k) (below is x r))))) [
      | true ↦ λ e. (h.0, (t.0 e h.0, h.1))
      | false ↦ λ e. (
        h.0,
        each-append P (preorder (below is x k)) (preorder (below is x r))
            (each-below_if P is x k (each-left_part P (preorder k) (preorder r) h.1) (each-left_part (λ b. is b ≡ true → P b → P x) (preorder k) (preorder r) t.1))
            (each-below_if P is x r (each-right_part P (preorder k) (preorder r) h.1) (each-right_part (λ b. is b ≡ true → P b → P x) (preorder k) (preorder r) t.1)),
      )
    ]) refl

each-after_if : {A : Type 0} (P : A → Type 0) (is : A → Bool) (x : A) (f : Forest A) → Each P (preorder f) → Each (λ b. is b ≡ true → P b → P x) (preorder f)
    → Each P (preorder (after is x f))
each-after_if P is x none h t = tt
each-after_if {A} P is x (tree a k r) h t =
    (elim (is a) as (λ c. is a ≡ c → Each P (preorder (cond c (tree a k (tree x none r)) (tree a (after is x k) (after is x r))))) [
      | true ↦ λ e. (h.0, each-append P (preorder k) (x ∷ preorder r) (each-left_part P (preorder k) (preorder r) h.1) (t.0 e h.0, each-right_part P (preorder k) (preorder r) h.1))
      | false ↦ λ e. (
        h.0,
        each-append P (preorder (after is x k)) (preorder (after is x r))
            (each-after_if P is x k (each-left_part P (preorder k) (preorder r) h.1) (each-left_part (λ b. is b ≡ true → P b → P x) (preorder k) (preorder r) t.1))
            (each-after_if P is x r (each-right_part P (preorder k) (preorder r) h.1) (each-right_part (λ b. is b ≡ true → P b → P x) (preorder k) (preorder r) t.1)),
      )
    ]) refl

-- what stands above b may stand above x
abbrev pub Takes : {A : Type 0} → (A → A → Type 0) → A → A → Type 0
Takes {A} R x b = (a : A) → R a b → R a x

pub holds-below : {A : Type 0} (R : A → A → Type 0) (is : A → Bool) (x : A) (f : Forest A) → Each (λ b. is b ≡ true → R b x × Takes R x b) (preorder f)
    → HoldsBelow R f → HoldsBelow R (below is x f)
holds-below R is x none t h = tt
holds-below {A} R is x (tree a k r) t h =
    (elim (is a) as (λ c. is a ≡ c → HoldsBelow R (cond c (tree a (tree x none k) r) (tree a (below is x k) (below is x r)))) [
      | true ↦ λ e. (((t.0 e).0, h.0), ((tt, (tt, h.1.0)), h.1.1))
      | false ↦ λ e.
          let tk : Each (λ b. is b ≡ true → R b x × Takes R x b) (preorder k) = each-left_part (λ b. is b ≡ true → R b x × Takes R x b) (preorder k) (preorder r) t.1 in
          let tr : Each (λ b. is b ≡ true → R b x × Takes R x b) (preorder r) = each-right_part (λ b. is b ≡ true → R b x × Takes R x b) (preorder k) (preorder r) t.1 in (
            each-below_if (R a) is x k h.0 (each-weaker (λ b. is b ≡ true → R b x × Takes R x b) (λ b. is b ≡ true → R a b → R a x) (λ b m i n. (m i).1 a n) (preorder k) tk),
            (holds-below R is x k tk h.1.0, holds-below R is x r tr h.1.1),
          )
    ]) refl

pub holds-after : {A : Type 0} (R : A → A → Type 0) (is : A → Bool) (x : A) (f : Forest A) → Each (λ b. is b ≡ true → Takes R x b) (preorder f)
    → HoldsBelow R f → HoldsBelow R (after is x f)
holds-after R is x none t h = tt
holds-after {A} R is x (tree a k r) t h =
    (elim (is a) as (λ c. is a ≡ c → HoldsBelow R (cond c (tree a k (tree x none r)) (tree a (after is x k) (after is x r)))) [
      | true ↦ λ e. (h.0, (h.1.0, (tt, (tt, h.1.1))))
      | false ↦ λ e.
          let tk : Each (λ b. is b ≡ true → Takes R x b) (preorder k) = each-left_part (λ b. is b ≡ true → Takes R x b) (preorder k) (preorder r) t.1 in
          let tr : Each (λ b. is b ≡ true → Takes R x b) (preorder r) = each-right_part (λ b. is b ≡ true → Takes R x b) (preorder k) (preorder r) t.1 in (
            each-after_if (R a) is x k h.0 (each-weaker (λ b. is b ≡ true → Takes R x b) (λ b. is b ≡ true → R a b → R a x) (λ b m i n. m i a n) (preorder k) tk),
            (holds-after R is x k tk h.1.0, holds-after R is x r tr h.1.1),
          )
    ]) refl

pub holds-out : {A : Type 0} (R : A → A → Type 0) (is : A → Bool) (f : Forest A) → HoldsBelow R f → HoldsBelow R (out is f)
holds-out R is none h = tt
holds-out {A} R is (tree a k r) h =
    elim (is a) as (λ c. HoldsBelow R (cond c (join k r) (tree a (out is k) (out is r)))) [
      | true ↦ holds-join R k r h.1.0 h.1.1
      | false ↦ (each-out (R a) is k h.0, (holds-out R is k h.1.0, holds-out R is r h.1.1))
    ]

each-two : {A B : Type 0} (P Q : A → Type 0) (T : B → Type 0) (w : A → B) → ((b : A) → P b → Q b → T (w b)) → (l : List A) → Each P l → Each Q l → Each T (map w l)
each-two P Q T w f [] h k = tt
each-two P Q T w f (b ∷ l) h k = (f b h.0 k.0, each-two P Q T w f l h.1 k.1)

pub holds-renamed : {A : Type 0} (R : A → A → Type 0) (Q : A → Type 0) (w : A → A) (f : Forest A) → ((a b : A) → Q a → Q b → R a b → R (w a) (w b))
    → Each Q (preorder f) → HoldsBelow R f → HoldsBelow R (renamed w f)
holds-renamed R Q w none g q h = tt
holds-renamed {A} R Q w (tree a k r) g q h =
    let qk : Each Q (preorder k) = each-left_part Q (preorder k) (preorder r) q.1 in
    let qr : Each Q (preorder r) = each-right_part Q (preorder k) (preorder r) q.1 in
    let P : List A → Type 0 = Each (R (w a)) in (
      subst P (sym (preorder-renamed w k)) (each-two Q (R a) (R (w a)) w (λ b i n. g a b q.0 i n) (preorder k) qk h.0),
      (holds-renamed R Q w k g qk h.1.0, holds-renamed R Q w r g qr h.1.1),
    )

-- what it says of all below an element, and of all above it

pub each-descendant : {A : Type 0} (R : A → A → Type 0) (T : A → Type 0) (is : A → Bool) (f : Forest A) → HoldsBelow R f
    → Each (λ s. is s ≡ true → (c : A) → R s c → T c) (preorder f) → Each T (preorder (below_those is f))
each-descendant R T is none h t = tt
each-descendant {A} R T is (tree a k r) h t =
    (elim (is a) as (λ c. is a ≡ c → Each T (preorder (cond c k (join (below_those is k) (below_those is r))))) [
      | true ↦ λ e. each-weaker (R a) T (t.0 e) (preorder k) h.0
      | false ↦ λ e.
          each-join T (below_those is k) (below_those is r)
          (each-descendant R T is k h.1.0 (each-left_part (λ s. is s ≡ true → (c : A) → R s c → T c) (preorder k) (preorder r) t.1))
          (each-descendant R T is r h.1.1 (each-right_part (λ s. is s ≡ true → (c : A) → R s c → T c) (preorder k) (preorder r) t.1))
    ]) refl

at_some : {A : Type 0} (R T : A → Type 0) (W : Type 0) (is : A → Bool) (l : List A) → list_any is l ≡ true → Each R l → Each (λ s. is s ≡ true → R s → W) l → W
at_some R T W is [] h k t = absurd (let n : false ≡ true = h in cc)
at_some {A} R T W is (s ∷ l) h k t =
    (elim (is s) as (λ c. is s ≡ c → (c || list_any is l) ≡ true → W) [
      | true ↦ λ e g. t.0 e k.0
      | false ↦ λ e g. at_some R T W is l g k.1 t.1
    ]) refl h

pub each-ancestor : {A : Type 0} (R : A → A → Type 0) (T : A → Type 0) (is : A → Bool) (f : Forest A) → HoldsBelow R f
    → Each (λ s. is s ≡ true → (a : A) → R a s → T a) (preorder f) → Each T (ancestors is f)
each-ancestor R T is none h t = tt
each-ancestor {A} R T is (tree a k r) h t =
    let tk : Each (λ s. is s ≡ true → (b : A) → R b s → T b) (preorder k) = each-left_part (λ s. is s ≡ true → (b : A) → R b s → T b) (preorder k) (preorder r) t.1 in
    let tr : Each (λ s. is s ≡ true → (b : A) → R b s → T b) (preorder r) = each-right_part (λ s. is s ≡ true → (b : A) → R b s → T b) (preorder k) (preorder r) t.1 in
    (elim (has is k) as (λ c. has is k ≡ c → Each T (cond c (a ∷ ancestors is k) (ancestors is r))) [
      | true ↦ λ e. (
        at_some (R a) T (T a) is (preorder k) (sym (has-any is k) ∙ e) h.0 (each-weaker (λ s. is s ≡ true → (b : A) → R b s → T b) (λ s. is s ≡ true → R a s → T a) (λ s m i n. m i a n) (preorder k) tk),
        each-ancestor R T is k h.1.0 tk,
      )
      | false ↦ λ e. each-ancestor R T is r h.1.1 tr
    ]) refl
