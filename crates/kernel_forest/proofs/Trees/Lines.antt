-- What stands above and below an element that is put into a forest.
use Rattle.std.proofs.Common.{◌≡◌, Bool, true, false, cond, ◌||◌, List, [], ◌∷◌, ◌++◌, refl, sym, ◌∙◌, ap}
use Rattle.std.specs.List.{AllByRecursion as Each, list_any}
use Rattle.std.proofs.lemmas.List.Folds.{list_any-append}
use Rattle.kernel_forest.specs.Forest.{Forest, none, tree, preorder, join, below_those, has, ancestors, below, after}
use Rattle.kernel_forest.proofs.Trees.Forests.{each-append, each-left_part, each-right_part, each-weaker, each-join_parts, preorder-join}
use Rattle.kernel_forest.proofs.Trees.Built.{Absent, Once, once-right_part}
use Rattle.kernel_forest.proofs.Trees.Above.{each-below_those, each-ancestors, no_has, no_ancestors, has-any}

-- lists

pub once-left_part : {A : Type 0} (is : A → Bool) (xs ys : List A) → Once is (xs ++ ys) → Once is xs
once-left_part is [] ys k = tt
once-left_part is (x ∷ xs) ys k = ((λ e. each-left_part (λ b. is b ≡ false) xs ys (k.0 e)), once-left_part is xs ys k.1)

none_any : {A : Type 0} (is : A → Bool) (l : List A) → Absent is l → list_any is l ≡ false
none_any is [] h = refl
none_any is (a ∷ l) h = rw h.0 (none_any is l h.1)

pub any_none : {A : Type 0} (is : A → Bool) (l : List A) → list_any is l ≡ false → Absent is l
any_none is [] h = tt
any_none is (a ∷ l) h = (front (is a) (list_any is l) h, any_none is l (rest (is a) (list_any is l) h))
  where
    front : (b c : Bool) → (b || c) ≡ false → b ≡ false
    front true c h = h
    front false c h = refl

    rest : (b c : Bool) → (b || c) ≡ false → c ≡ false
    rest true c h = cc
    rest false c h = h

-- where one stands in front, none stands behind
absent_behind : {A : Type 0} (is : A → Bool) (xs ys : List A) → Once is (xs ++ ys) → list_any is xs ≡ true → Absent is ys
absent_behind is [] ys o h = cc
absent_behind {A} is (x ∷ xs) ys o h =
    (elim (is x) as (λ c. is x ≡ c → (c || list_any is xs) ≡ true → Absent is ys) [
      | true ↦ λ e g. each-right_part (λ b. is b ≡ false) xs ys (o.0 e)
      | false ↦ λ e g. absent_behind is xs ys o.1 g
    ]) refl h

pub one_of : (b c : Bool) → (b || c) ≡ true → b ≡ false → c ≡ true
one_of true c h k = cc
one_of false c h k = h

any_parts : {A : Type 0} (is : A → Bool) (xs ys : List A) → list_any is (xs ++ ys) ≡ true → (list_any is xs || list_any is ys) ≡ true
any_parts is xs ys h = sym (list_any-append is xs ys) ∙ h

any_join : {A : Type 0} (is : A → Bool) (f g : Forest A) → list_any is (preorder (join f g)) ≡ (list_any is (preorder f) || list_any is (preorder g))
any_join is f g = ap (list_any is) (preorder-join f g) ∙ list_any-append is (preorder f) (preorder g)

any_left : {A : Type 0} (is : A → Bool) (f g : Forest A) → list_any is (preorder f) ≡ true → list_any is (preorder (join f g)) ≡ true
any_left is f g h = any_join is f g ∙ rw h refl

any_right : {A : Type 0} (is : A → Bool) (f g : Forest A) → list_any is (preorder g) ≡ true → list_any is (preorder (join f g)) ≡ true
any_right is f g h = any_join is f g ∙ rw h (or_true (list_any is (preorder f)))
  where
    or_true : (b : Bool) → (b || true) ≡ true
    or_true true = refl
    or_true false = refl

each_of_none : {A : Type 0} (is : A → Bool) (P : A → Type 0) (l : List A) → Absent is l → Each (λ e. is e ≡ true → P e) l
each_of_none is P l h = each-weaker (λ b. is b ≡ false) (λ e. is e ≡ true → P e) (λ e n t. absurd (let m : is e ≡ false = n in cc)) l h

-- x is there, and below the one

pub new-below : {A : Type 0} (P : A → Type 0) (is : A → Bool) (x : A) (f : Forest A) → list_any is (preorder f) ≡ true → Each P (preorder (below is x f)) → P x
new-below P is x none h g = cc
new-below {A} P is x (tree a k r) h g =
    (elim (is a) as (λ c. (c || list_any is (preorder k ++ preorder r)) ≡ true → Each P (preorder (cond c (tree a (tree x none k) r) (tree a (below is x k) (below is x r)))) → P x) [
      | true ↦ λ i j. j.1.0
      | false ↦ λ i j. (elim (list_any is (preorder k)) as (λ c. list_any is (preorder k) ≡ c → P x) [
        | true ↦ λ e. new-below P is x k e (each-left_part P (preorder (below is x k)) (preorder (below is x r)) j.1)
        | false ↦ λ e. new-below P is x r (one_of (list_any is (preorder k)) (list_any is (preorder r)) (any_parts is (preorder k) (preorder r) i) e) (each-right_part P (preorder (below is x k)) (preorder (below is x r)) j.1)
      ]) refl
    ]) h g

pub new-after : {A : Type 0} (P : A → Type 0) (is : A → Bool) (x : A) (f : Forest A) → list_any is (preorder f) ≡ true → Each P (preorder (after is x f)) → P x
new-after P is x none h g = cc
new-after {A} P is x (tree a k r) h g =
    (elim (is a) as (λ c. (c || list_any is (preorder k ++ preorder r)) ≡ true → Each P (preorder (cond c (tree a k (tree x none r)) (tree a (after is x k) (after is x r)))) → P x) [
      | true ↦ λ i j. (each-right_part P (preorder k) (x ∷ preorder r) j.1).0
      | false ↦ λ i j. (elim (list_any is (preorder k)) as (λ c. list_any is (preorder k) ≡ c → P x) [
        | true ↦ λ e. new-after P is x k e (each-left_part P (preorder (after is x k)) (preorder (after is x r)) j.1)
        | false ↦ λ e. new-after P is x r (one_of (list_any is (preorder k)) (list_any is (preorder r)) (any_parts is (preorder k) (preorder r) i) e) (each-right_part P (preorder (after is x k)) (preorder (after is x r)) j.1)
      ]) refl
    ]) h g

pub new-below_it : {A : Type 0} (P : A → Type 0) (is : A → Bool) (x : A) (f : Forest A) → list_any is (preorder f) ≡ true → Each P (preorder (below_those is (below is x f))) → P x
new-below_it P is x none h g = cc
new-below_it {A} P is x (tree a k r) h g =
    (elim (is a) as (λ c. is a ≡ c → (c || list_any is (preorder k ++ preorder r)) ≡ true → Each P (preorder (below_those is (cond c (tree a (tree x none k) r) (tree a (below is x k) (below is x r))))) → P x) [
      | true ↦ λ t. rw t (λ i j. j.0)
      | false ↦ λ t. rw t (λ i j.
          let b : Each P (preorder (below_those is (below is x k))) × Each P (preorder (below_those is (below is x r))) = each-join_parts P (below_those is (below is x k)) (below_those is (below is x r)) j in
          (elim (list_any is (preorder k)) as (λ c. list_any is (preorder k) ≡ c → P x) [
            | true ↦ λ e. new-below_it P is x k e b.0
            | false ↦ λ e. new-below_it P is x r (one_of (list_any is (preorder k)) (list_any is (preorder r)) (any_parts is (preorder k) (preorder r) i) e) b.1
          ]) refl)
    ]) refl h g

-- where the one stands below another, x does too

lost : {A : Type 0} (is q : A → Bool) (k r : Forest A) → Absent is (preorder k ++ preorder r) → list_any is (preorder (join (below_those q k) (below_those q r))) ≡ false
lost is q k r o =
    any_join is (below_those q k) (below_those q r)
    ∙ rw (none_any is (preorder (below_those q k)) (each-below_those (λ b. is b ≡ false) q k (each-left_part (λ b. is b ≡ false) (preorder k) (preorder r) o)))
    (none_any is (preorder (below_those q r)) (each-below_those (λ b. is b ≡ false) q r (each-right_part (λ b. is b ≡ false) (preorder k) (preorder r) o)))

pub new-below_above : {A : Type 0} (P : A → Type 0) (is q : A → Bool) (x : A) (f : Forest A) → Once is (preorder f) → list_any is (preorder (below_those q f)) ≡ true
    → Each P (preorder (below_those q (below is x f))) → P x
new-below_above P is q x none o h g = cc
new-below_above {A} P is q x (tree a k r) o h g =
    (elim (is a) as (λ c. is a ≡ c → Each P (preorder (below_those q (cond c (tree a (tree x none k) r) (tree a (below is x k) (below is x r))))) → P x) [
      | true ↦ λ t j. (elim (q a) as (λ d. list_any is (preorder (cond d k (join (below_those q k) (below_those q r)))) ≡ true → Each P (preorder (cond d (tree x none k) (join (below_those q (tree x none k)) (below_those q r)))) → P x) [
        | true ↦ λ i m. m.0
        | false ↦ λ i m. absurd (let n : list_any is (preorder (join (below_those q k) (below_those q r))) ≡ false = lost is q k r (o.0 t) in cc)
      ]) h j
      | false ↦ λ t j. (elim (q a) as (λ d. list_any is (preorder (cond d k (join (below_those q k) (below_those q r)))) ≡ true → Each P (preorder (cond d (below is x k) (join (below_those q (below is x k)) (below_those q (below is x r))))) → P x) [
        | true ↦ λ i m. new-below P is x k i m
        | false ↦ λ i m.
            let b : Each P (preorder (below_those q (below is x k))) × Each P (preorder (below_those q (below is x r))) = each-join_parts P (below_those q (below is x k)) (below_those q (below is x r)) m in
            (elim (list_any is (preorder (below_those q k))) as (λ c. list_any is (preorder (below_those q k)) ≡ c → P x) [
              | true ↦ λ e. new-below_above P is q x k (once-left_part is (preorder k) (preorder r) o.1) e b.0
              | false ↦ λ e. new-below_above P is q x r (once-right_part is (preorder k) (preorder r) o.1)
                  (one_of (list_any is (preorder (below_those q k))) (list_any is (preorder (below_those q r))) (sym (any_join is (below_those q k) (below_those q r)) ∙ i) e) b.1
            ]) refl
      ]) h j
    ]) refl g

pub new-after_above : {A : Type 0} (P : A → Type 0) (is q : A → Bool) (x : A) (f : Forest A) → Once is (preorder f) → list_any is (preorder (below_those q f)) ≡ true
    → Each P (preorder (below_those q (after is x f))) → P x
new-after_above P is q x none o h g = cc
new-after_above {A} P is q x (tree a k r) o h g =
    (elim (is a) as (λ c. is a ≡ c → Each P (preorder (below_those q (cond c (tree a k (tree x none r)) (tree a (after is x k) (after is x r))))) → P x) [
      | true ↦ λ t j. absurd ((elim (q a) as (λ d. list_any is (preorder (cond d k (join (below_those q k) (below_those q r)))) ≡ true → ⊥) [
        | true ↦ λ i. let n : list_any is (preorder k) ≡ false = none_any is (preorder k) (each-left_part (λ b. is b ≡ false) (preorder k) (preorder r) (o.0 t)) in cc
        | false ↦ λ i. let n : list_any is (preorder (join (below_those q k) (below_those q r))) ≡ false = lost is q k r (o.0 t) in cc
      ]) h)
      | false ↦ λ t j. (elim (q a) as (λ d. list_any is (preorder (cond d k (join (below_those q k) (below_those q r)))) ≡ true → Each P (preorder (cond d (after is x k) (join (below_those q (after is x k)) (below_those q (after is x r))))) → P x) [
        | true ↦ λ i m. new-after P is x k i m
        | false ↦ λ i m.
            let b : Each P (preorder (below_those q (after is x k))) × Each P (preorder (below_those q (after is x r))) = each-join_parts P (below_those q (after is x k)) (below_those q (after is x r)) m in
            (elim (list_any is (preorder (below_those q k))) as (λ c. list_any is (preorder (below_those q k)) ≡ c → P x) [
              | true ↦ λ e. new-after_above P is q x k (once-left_part is (preorder k) (preorder r) o.1) e b.0
              | false ↦ λ e. new-after_above P is q x r (once-right_part is (preorder k) (preorder r) o.1)
                  (one_of (list_any is (preorder (below_those q k))) (list_any is (preorder (below_those q r))) (sym (any_join is (below_those q k) (below_those q r)) ∙ i) e) b.1
            ]) refl
      ]) h j
    ]) refl g

-- above x stand the one and what stands above it

has-new : {A : Type 0} (is q : A → Bool) (x : A) (f : Forest A) → Absent q (preorder f) → q x ≡ true → has q (below is x f) ≡ has is f
has-new is q x none h e = refl
has-new {A} is q x (tree a k r) h e =
    elim (is a) as (λ c. has q (cond c (tree a (tree x none k) r) (tree a (below is x k) (below is x r))) ≡ (c || (has is k || has is r))) [
      | true ↦ rw (h.0, e) refl
      | false ↦ rw (h.0, has-new is q x k (each-left_part (λ b. q b ≡ false) (preorder k) (preorder r) h.1) e, has-new is q x r (each-right_part (λ b. q b ≡ false) (preorder k) (preorder r) h.1) e) refl
    ]

pub ancestors-above_new : {A : Type 0} (P : A → Type 0) (is q : A → Bool) (x : A) (f : Forest A) → Once is (preorder f) → Absent q (preorder f) → q x ≡ true
    → Each P (ancestors q (below is x f)) → Each P (ancestors is f) × Each (λ e. is e ≡ true → P e) (preorder f)
ancestors-above_new P is q x none o n e h = (tt, tt)
ancestors-above_new {A} P is q x (tree a k r) o n e h =
    let nk : Absent q (preorder k) = each-left_part (λ b. q b ≡ false) (preorder k) (preorder r) n.1 in
    let nr : Absent q (preorder r) = each-right_part (λ b. q b ≡ false) (preorder k) (preorder r) n.1 in
    let ok : Once is (preorder k) = once-left_part is (preorder k) (preorder r) o.1 in
    let or : Once is (preorder r) = once-right_part is (preorder k) (preorder r) o.1 in
    (elim (is a) as (λ c. is a ≡ c → Each P (ancestors q (cond c (tree a (tree x none k) r) (tree a (below is x k) (below is x r)))) → Each P (ancestors is (tree a k r)) × Each (λ e. is e ≡ true → P e) (a ∷ (preorder k ++ preorder r))) [
      | true ↦ λ t. rw (e, no_has is k (each-left_part (λ b. is b ≡ false) (preorder k) (preorder r) (o.0 t)), no_ancestors is r (each-right_part (λ b. is b ≡ false) (preorder k) (preorder r) (o.0 t)))
          (λ g. (tt, ((λ i. g.0), each_of_none is P (preorder k ++ preorder r) (o.0 t))))
      | false ↦ λ t. rw (has-new is q x k nk e)
          ((elim (has is k) as (λ c. has is k ≡ c → Each P (cond c (a ∷ ancestors q (below is x k)) (ancestors q (below is x r))) → Each P (cond c (a ∷ ancestors is k) (ancestors is r)) × Each (λ e. is e ≡ true → P e) (a ∷ (preorder k ++ preorder r))) [
            | true ↦ λ u g.
                let ih : Each P (ancestors is k) × Each (λ e. is e ≡ true → P e) (preorder k) = ancestors-above_new P is q x k ok nk e g.1 in
                ((g.0, ih.0), ((λ i. g.0), each-append (λ e. is e ≡ true → P e) (preorder k) (preorder r) ih.1 (each_of_none is P (preorder r) (absent_behind is (preorder k) (preorder r) o.1 (sym (has-any is k) ∙ u)))))
            | false ↦ λ u g.
                let ih : Each P (ancestors is r) × Each (λ e. is e ≡ true → P e) (preorder r) = ancestors-above_new P is q x r or nr e g in
                (ih.0, ((λ i. absurd (let m : is a ≡ false = t in cc)), each-append (λ e. is e ≡ true → P e) (preorder k) (preorder r) (each_of_none is P (preorder k) (any_none is (preorder k) (sym (has-any is k) ∙ u))) ih.1))
          ]) refl)
    ]) refl h

-- what stands above one has it below

pub ancestors-descend : {A : Type 0} (is q : A → Bool) (f : Forest A) → Once q (preorder f) → Each (λ c. q c ≡ true → list_any is (preorder (below_those q f)) ≡ true) (ancestors is f)
ancestors-descend is q none o = tt
ancestors-descend {A} is q (tree a k r) o =
    (elim (has is k) as (λ c. has is k ≡ c → Each (λ y. q y ≡ true → list_any is (preorder (below_those q (tree a k r))) ≡ true) (cond c (a ∷ ancestors is k) (ancestors is r))) [
      | true ↦ λ t. (
        (λ e. rw e (sym (has-any is k) ∙ t)),
        (elim (q a) as (λ d. Each (λ y. q y ≡ true → list_any is (preorder (cond d k (join (below_those q k) (below_those q r)))) ≡ true) (ancestors is k)) [
          | true ↦ every (ancestors is k) (sym (has-any is k) ∙ t)
          | false ↦ each-weaker (λ y. q y ≡ true → list_any is (preorder (below_those q k)) ≡ true) (λ y. q y ≡ true → list_any is (preorder (join (below_those q k) (below_those q r))) ≡ true)
              (λ y g e. any_left is (below_those q k) (below_those q r) (g e)) (ancestors is k) (ancestors-descend is q k (once-left_part q (preorder k) (preorder r) o.1))
        ]),
      )
      | false ↦ λ t. (elim (q a) as (λ d. q a ≡ d → Each (λ y. q y ≡ true → list_any is (preorder (cond d k (join (below_those q k) (below_those q r)))) ≡ true) (ancestors is r)) [
        | true ↦ λ e. each_of_none q (λ y. list_any is (preorder k) ≡ true) (ancestors is r) (each-ancestors (λ b. q b ≡ false) is r (each-right_part (λ b. q b ≡ false) (preorder k) (preorder r) (o.0 e)))
        | false ↦ λ e. each-weaker (λ y. q y ≡ true → list_any is (preorder (below_those q r)) ≡ true) (λ y. q y ≡ true → list_any is (preorder (join (below_those q k) (below_those q r))) ≡ true)
            (λ y g i. any_right is (below_those q k) (below_those q r) (g i)) (ancestors is r) (ancestors-descend is q r (once-right_part q (preorder k) (preorder r) o.1))
      ]) refl
    ]) refl
  where
    every : (l : List A) → list_any is (preorder k) ≡ true → Each (λ y. q y ≡ true → list_any is (preorder k) ≡ true) l
    every [] h = tt
    every (y ∷ l) h = ((λ e. h), every l h)
