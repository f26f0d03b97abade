-- What stands above an element of a forest: it comes before the element, and a put of a further element changes it as it should.
use Rattle.std.proofs.Common.{◌≡◌, Bool, true, false, cond, ◌||◌, List, [], ◌∷◌, ◌++◌, refl, sym, ◌∙◌, ap, subst}
use Rattle.std.specs.List.{AllByRecursion as Each, list_any}
use Rattle.std.proofs.lemmas.List.Folds.{list_any-append}
use Rattle.kernel_forest.specs.Forest.{Forest, none, tree, preorder, join, below_those, has, ancestors, below, front_trees, trees_behind, build}
use Rattle.kernel_forest.proofs.Trees.Forests.{preorder-join, each-append, each-left_part, each-right_part, each-join}
use Rattle.kernel_forest.proofs.Trees.Built.{Absent, Once, preorder-build, once-right_part, once-split, fixed-below}
use Rattle.kernel_forest.proofs.Trees.BuiltOut.{each-left}

-- what holds of each in the forest holds of what stands below some, and of what stands above them

pub each-below_those : {A : Type 0} (P : A → Type 0) (q : A → Bool) (f : Forest A) → Each P (preorder f) → Each P (preorder (below_those q f))
each-below_those P q none h = tt
each-below_those {A} P q (tree a k r) h =
    let hk : Each P (preorder k) = each-left_part P (preorder k) (preorder r) h.1 in
    let hr : Each P (preorder r) = each-right_part P (preorder k) (preorder r) h.1 in
    elim (q a) as (λ c. Each P (preorder (cond c k (join (below_those q k) (below_those q r))))) [
      | true ↦ hk
      | false ↦ each-join P (below_those q k) (below_those q r) (each-below_those P q k hk) (each-below_those P q r hr)
    ]

pub each-ancestors : {A : Type 0} (P : A → Type 0) (q : A → Bool) (f : Forest A) → Each P (preorder f) → Each P (ancestors q f)
each-ancestors P q none h = tt
each-ancestors {A} P q (tree a k r) h =
    let hk : Each P (preorder k) = each-left_part P (preorder k) (preorder r) h.1 in
    let hr : Each P (preorder r) = each-right_part P (preorder k) (preorder r) h.1 in
    elim (has q k) as (λ c. Each P (cond c (a ∷ ancestors q k) (ancestors q r))) [ true ↦ (h.0, each-ancestors P q k hk) | false ↦ each-ancestors P q r hr ]

pub each-taken_part : {A : Type 0} (P : A → Type 0) (q : A → Bool) (f : Forest A) → Each P (preorder f) → Each P (preorder (front_trees q f))
each-taken_part P q none h = tt
each-taken_part P q (tree a k r) h =
    elim (q a) as (λ b. Each P (preorder (cond b (tree a k (front_trees q r)) none))) [
      | true ↦ (h.0, each-append P (preorder k) (preorder (front_trees q r)) (each-left_part P (preorder k) (preorder r) h.1) (each-taken_part P q r (each-right_part P (preorder k) (preorder r) h.1)))
      | false ↦ tt
    ]

-- where the element is absent

pub no_has : {A : Type 0} (is : A → Bool) (f : Forest A) → Absent is (preorder f) → has is f ≡ false
no_has is none h = refl
no_has is (tree a k r) h =
    let ek : has is k ≡ false = no_has is k (each-left_part (λ b. is b ≡ false) (preorder k) (preorder r) h.1) in
    let er : has is r ≡ false = no_has is r (each-right_part (λ b. is b ≡ false) (preorder k) (preorder r) h.1) in
    rw (h.0, ek, er)

pub no_ancestors : {A : Type 0} (is : A → Bool) (f : Forest A) → Absent is (preorder f) → ancestors is f ≡ []
no_ancestors is none h = refl
no_ancestors is (tree a k r) h =
    let ek : has is k ≡ false = no_has is k (each-left_part (λ b. is b ≡ false) (preorder k) (preorder r) h.1) in
    rw ek (no_ancestors is r (each-right_part (λ b. is b ≡ false) (preorder k) (preorder r) h.1))

pub has-any : {A : Type 0} (is : A → Bool) (f : Forest A) → has is f ≡ list_any is (preorder f)
has-any is none = refl
has-any is (tree a k r) = ap (λ b. is a || b) (rw (has-any is k, has-any is r) (sym (list_any-append is (preorder k) (preorder r))))

any_absent : {A : Type 0} (is : A → Bool) (xs ys : List A) → Once is (xs ++ ys) → list_any is xs ≡ true → Absent is ys
any_absent is [] ys o h = cc
any_absent is (x ∷ xs) ys o h =
    (elim (is x) as (λ c. is x ≡ c → (c || list_any is xs) ≡ true → Absent is ys) [
      | true ↦ λ e g. each-right_part (λ b. is b ≡ false) xs ys (o.0 e)
      | false ↦ λ e g. any_absent is xs ys o.1 g
    ]) refl h

has_absent : {A : Type 0} (is : A → Bool) (k r : Forest A) → Once is (preorder k ++ preorder r) → has is k ≡ true → Absent is (preorder r)
has_absent is k r o h = any_absent is (preorder k) (preorder r) o (sym (has-any is k) ∙ h)

-- what stands above an element of a list comes before it

ancestors-taken : {A : Type 0} (P : A → Type 0) (is q : A → Bool) (f : Forest A) → Each P (ancestors is f) → Each P (ancestors is (front_trees q f))
ancestors-taken P is q none h = tt
ancestors-taken {A} P is q (tree a k r) h =
    elim (q a) as (λ b. Each P (ancestors is (cond b (tree a k (front_trees q r)) none))) [
      | true ↦ (elim (has is k) as (λ c. Each P (cond c (a ∷ ancestors is k) (ancestors is r)) → Each P (cond c (a ∷ ancestors is k) (ancestors is (front_trees q r)))) [ true ↦ λ g. g | false ↦ λ g. ancestors-taken P is q r g ]) h
      | false ↦ tt
    ]

ancestors-left : {A : Type 0} (P : A → Type 0) (is q : A → Bool) (f : Forest A) → Once is (preorder f) → Each P (ancestors is f) → Each P (ancestors is (trees_behind q f))
ancestors-left P is q none o h = tt
ancestors-left {A} P is q (tree a k r) o h =
    elim (q a) as (λ b. Each P (ancestors is (cond b (trees_behind q r) (tree a k r)))) [
      | true ↦ ancestors-left P is q r (once-right_part is (preorder k) (preorder r) o.1)
          ((elim (has is k) as (λ c. has is k ≡ c → Each P (cond c (a ∷ ancestors is k) (ancestors is r)) → Each P (ancestors is r)) [
            | true ↦ λ e g. (let z : ancestors is r ≡ [] = no_ancestors is r (has_absent is k r o.1 e) in let Q : List A → Type 0 = Each P in subst Q (sym z) tt)
            | false ↦ λ e g. g
          ]) refl h)
      | false ↦ h
    ]

pub ancestors_before : {A : Type 0} (P : A → Type 0) (t : A → A → Bool) (is : A → Bool) (pre : List A) (s : A) (post : List A) → Absent is pre → Absent is post → Each P pre
    → Each P (ancestors is (build t (pre ++ s ∷ post)))
ancestors_before {A} P t is [] s post a b h =
    let f : Forest A = build t post in
    let n : Absent is (preorder f) = let Q : List A → Type 0 = Absent is in subst Q (sym (preorder-build t post)) b in
    let k : has is (front_trees (t s) f) ≡ false = no_has is (front_trees (t s) f) (each-taken_part (λ c. is c ≡ false) (t s) f n) in
    let r : ancestors is (trees_behind (t s) f) ≡ [] = no_ancestors is (trees_behind (t s) f) (each-left (λ c. is c ≡ false) (t s) f n) in
    rw (k, r) tt
ancestors_before {A} P t is (q ∷ pre) s post a b h =
    let f : Forest A = build t (pre ++ s ∷ post) in
    let o : Once is (preorder f) = let Q : List A → Type 0 = Once is in subst Q (sym (preorder-build t (pre ++ s ∷ post))) (once-split is pre s post a.1 b) in
    let ih : Each P (ancestors is f) = ancestors_before P t is pre s post a.1 b h.1 in
    elim (has is (front_trees (t q) f)) as (λ c. Each P (cond c (q ∷ ancestors is (front_trees (t q) f)) (ancestors is (trees_behind (t q) f)))) [
      | true ↦ (h.0, ancestors-taken P is (t q) f ih)
      | false ↦ ancestors-left P is (t q) f o ih
    ]

-- a further element, below others: nothing stands below it, and above it stand those and what stands above them

pub below_those-new : {A : Type 0} (is q : A → Bool) (x : A) (f : Forest A) → q x ≡ true → Absent q (preorder f) → below_those q (below is x f) ≡ none
below_those-new is q x none e h = refl
below_those-new {A} is q x (tree a k r) e h =
    let hk : Absent q (preorder k) = each-left_part (λ b. q b ≡ false) (preorder k) (preorder r) h.1 in
    let hr : Absent q (preorder r) = each-right_part (λ b. q b ≡ false) (preorder k) (preorder r) h.1 in
    elim (is a) as (λ c. below_those q (cond c (tree a (tree x none k) r) (tree a (below is x k) (below is x r))) ≡ none) [
      | true ↦ rw (h.0, e, nothing r hr)
      | false ↦ rw (h.0, below_those-new is q x k e hk, below_those-new is q x r e hr)
    ]
  where
    nothing : (g : Forest A) → Absent q (preorder g) → below_those q g ≡ none
    nothing none n = refl
    nothing (tree b m s) n = rw (n.0, nothing m (each-left_part (λ b. q b ≡ false) (preorder m) (preorder s) n.1), nothing s (each-right_part (λ b. q b ≡ false) (preorder m) (preorder s) n.1))

has-below_new : {A : Type 0} (is q : A → Bool) (x : A) (f : Forest A) → q x ≡ true → Absent q (preorder f) → has q (below is x f) ≡ has is f
has-below_new is q x none e h = refl
has-below_new {A} is q x (tree a k r) e h =
    let hk : Absent q (preorder k) = each-left_part (λ b. q b ≡ false) (preorder k) (preorder r) h.1 in
    let hr : Absent q (preorder r) = each-right_part (λ b. q b ≡ false) (preorder k) (preorder r) h.1 in
    elim (is a) as (λ c. has q (cond c (tree a (tree x none k) r) (tree a (below is x k) (below is x r))) ≡ (c || (has is k || has is r))) [
      | true ↦ rw (h.0, e)
      | false ↦ rw (h.0, has-below_new is q x k e hk, has-below_new is q x r e hr)
    ]

pub ancestors-new : {A : Type 0} (P : A → Type 0) (is q : A → Bool) (x : A) (f : Forest A) → q x ≡ true → Absent q (preorder f) → Each P (ancestors is f)
    → Each (λ a. is a ≡ true → P a) (preorder f) → Each P (ancestors q (below is x f))
ancestors-new P is q x none e h g i = tt
ancestors-new {A} P is q x (tree a k r) e h g i =
    let hk : Absent q (preorder k) = each-left_part (λ b. q b ≡ false) (preorder k) (preorder r) h.1 in
    let hr : Absent q (preorder r) = each-right_part (λ b. q b ≡ false) (preorder k) (preorder r) h.1 in
    let ik : Each (λ b. is b ≡ true → P b) (preorder k) = each-left_part (λ b. is b ≡ true → P b) (preorder k) (preorder r) i.1 in
    let ir : Each (λ b. is b ≡ true → P b) (preorder r) = each-right_part (λ b. is b ≡ true → P b) (preorder k) (preorder r) i.1 in
    (elim (is a) as (λ c. is a ≡ c → Each P (ancestors q (cond c (tree a (tree x none k) r) (tree a (below is x k) (below is x r))))) [
      | true ↦ λ t. rw (e, no_ancestors q k hk) (i.0 t, tt)
      | false ↦ λ t. rw (has-below_new is q x k e hk)
          ((elim (has is k) as (λ c. Each P (cond c (a ∷ ancestors is k) (ancestors is r)) → Each P (cond c (a ∷ ancestors q (below is x k)) (ancestors q (below is x r)))) [
            | true ↦ λ n. (n.0, ancestors-new P is q x k e hk n.1 ik)
            | false ↦ λ n. ancestors-new P is q x r e hr n ir
          ]) g)
    ]) refl

-- put below others than what stands below some, it stands below none of them
pub below_those-other : {A : Type 0} (is q : A → Bool) (x : A) (f : Forest A) → q x ≡ false → Each (λ a. q a ≡ true → is a ≡ false) (preorder f) → Absent is (preorder (below_those q f))
    → below_those q (below is x f) ≡ below_those q f
below_those-other is q x none e d h = refl
below_those-other {A} is q x (tree a k r) e d h =
    let dk : Each (λ b. q b ≡ true → is b ≡ false) (preorder k) = each-left_part (λ b. q b ≡ true → is b ≡ false) (preorder k) (preorder r) d.1 in
    let dr : Each (λ b. q b ≡ true → is b ≡ false) (preorder r) = each-right_part (λ b. q b ≡ true → is b ≡ false) (preorder k) (preorder r) d.1 in
    (elim (q a) as (λ c. q a ≡ c → Absent is (preorder (cond c k (join (below_those q k) (below_those q r)))) → below_those q (below is x (tree a k r)) ≡ cond c k (join (below_those q k) (below_those q r))) [
      | true ↦ λ t n. rw (d.0 t, t) (fixed-below is x k n)
      | false ↦ λ t n.
          let P : List A → Type 0 = Absent is in
          let m : Absent is (preorder (below_those q k) ++ preorder (below_those q r)) = subst P (preorder-join (below_those q k) (below_those q r)) n in
          let ek : below_those q (below is x k) ≡ below_those q k = below_those-other is q x k e dk (each-left_part (λ b. is b ≡ false) (preorder (below_those q k)) (preorder (below_those q r)) m) in
          let er : below_those q (below is x r) ≡ below_those q r = below_those-other is q x r e dr (each-right_part (λ b. is b ≡ false) (preorder (below_those q k)) (preorder (below_those q r)) m) in
          step (is a) t ek er
    ]) refl h
  where
    step : (c : Bool) → q a ≡ false → below_those q (below is x k) ≡ below_those q k → below_those q (below is x r) ≡ below_those q r
        → below_those q (cond c (tree a (tree x none k) r) (tree a (below is x k) (below is x r))) ≡ join (below_those q k) (below_those q r)
    step true t ek er = rw (t, e)
    step false t ek er = rw (t, ek, er)
