-- What the edits of a forest do to what is read off it.
use Rattle.std.proofs.Common.{◌≡◌, Bool, true, false, cond, ◌&&◌, ◌||◌, List, [], ◌∷◌, ◌++◌, filter, ◌⊎◌, inl, inr, refl, sym, ◌∙◌, ap, subst, append_assoc}
use Rattle.std.specs.List.{AllByRecursion as Each, Contains, list_any}
use Rattle.std.proofs.lemmas.List.Elements.{All-contains, All-contains_itself, recursion_from_All, All-from_recursion, filter-append, Contains-append_left, Contains-push, Contains-push_cases}
use Rattle.std.proofs.lemmas.List.Folds.{list_any-append}
use Rattle.kernel_forest.specs.Forest.{Forest, none, tree, preorder, join, below_those, has, ancestors, below, after, root}

-- lists

pub each-append : {X : Type 0} (P : X → Type 0) (xs ys : List X) → Each P xs → Each P ys → Each P (xs ++ ys)
each-append P [] ys h k = k
each-append P (x ∷ xs) ys h k = (h.0, each-append P xs ys h.1 k)

pub each-left_part : {X : Type 0} (P : X → Type 0) (xs ys : List X) → Each P (xs ++ ys) → Each P xs
each-left_part P [] ys h = tt
each-left_part P (x ∷ xs) ys h = (h.0, each-left_part P xs ys h.1)

pub each-right_part : {X : Type 0} (P : X → Type 0) (xs ys : List X) → Each P (xs ++ ys) → Each P ys
each-right_part P [] ys h = h
each-right_part P (x ∷ xs) ys h = each-right_part P xs ys h.1

pub each-weaker : {X : Type 0} (P Q : X → Type 0) → ((x : X) → P x → Q x) → (xs : List X) → Each P xs → Each Q xs
each-weaker P Q f [] h = tt
each-weaker P Q f (x ∷ xs) h = (f x h.0, each-weaker P Q f xs h.1)

-- between what holds of each and what holds of each that is contained
pub each-contained : {X : Type 0} (P : X → Type 0) (xs : List X) (x : X) → Each P xs → Contains xs x → P x
each-contained P xs x h m = All-contains P xs x (All-from_recursion P xs h) m

pub each-contains : {X : Type 0} (xs : List X) → Each (Contains xs) xs
each-contains xs = recursion_from_All (Contains xs) xs (All-contains_itself xs)

pub each-from_contained : {X : Type 0} (P : X → Type 0) (xs : List X) → ((x : X) → Contains xs x → P x) → Each P xs
each-from_contained P xs f = each-weaker (Contains xs) P f xs (each-contains xs)

-- the preorder

pub preorder-join : {A : Type 0} (f g : Forest A) → preorder (join f g) ≡ preorder f ++ preorder g
preorder-join none g = refl
preorder-join (tree a k r) g = ap (λ l. a ∷ (preorder k ++ l)) (preorder-join r g) ∙ ap (λ l. a ∷ l) (sym (append_assoc (preorder k) (preorder r) (preorder g)))

pub preorder-root : {A : Type 0} (x : A) (f : Forest A) → preorder (root x f) ≡ preorder f ++ x ∷ []
preorder-root x f = preorder-join f (tree x none none)

-- what holds of each in it

pub each-root : {A : Type 0} (P : A → Type 0) (x : A) (f : Forest A) → Each P (preorder f) → P x → Each P (preorder (root x f))
each-root {A} P x f h e =
    let Q : List A → Type 0 = Each P in
    subst Q (sym (preorder-root x f)) (each-append P (preorder f) (x ∷ []) h (e, tt))

pub each-below : {A : Type 0} (P : A → Type 0) (is : A → Bool) (x : A) (f : Forest A) → Each P (preorder f) → P x → Each P (preorder (below is x f))
each-below P is x none h e = tt
each-below {A} P is x (tree a k r) h e =
    let hk : Each P (preorder k) = each-left_part P (preorder k) (preorder r) h.1 in
    let hr : Each P (preorder r) = each-right_part P (preorder k) (preorder r) h.1 in
    elim (is a) as (λ c. Each P (preorder (cond c (tree a (tree x none k) r) (tree a (below is x k) (below is x r))))) [
      | true ↦ (h.0, (e, h.1))
      | false ↦ (h.0, each-append P (preorder (below is x k)) (preorder (below is x r)) (each-below P is x k hk e) (each-below P is x r hr e))
    ]

pub each-after : {A : Type 0} (P : A → Type 0) (is : A → Bool) (x : A) (f : Forest A) → Each P (preorder f) → P x → Each P (preorder (after is x f))
each-after P is x none h e = tt
each-after {A} P is x (tree a k r) h e =
    let hk : Each P (preorder k) = each-left_part P (preorder k) (preorder r) h.1 in
    let hr : Each P (preorder r) = each-right_part P (preorder k) (preorder r) h.1 in
    elim (is a) as (λ c. Each P (preorder (cond c (tree a k (tree x none r)) (tree a (after is x k) (after is x r))))) [
      | true ↦ (h.0, each-append P (preorder k) (x ∷ preorder r) hk (e, hr))
      | false ↦ (h.0, each-append P (preorder (after is x k)) (preorder (after is x r)) (each-after P is x k hk e) (each-after P is x r hr e))
    ]

-- what held of each still does

pub each-below_old : {A : Type 0} (P : A → Type 0) (is : A → Bool) (x : A) (f : Forest A) → Each P (preorder (below is x f)) → Each P (preorder f)
each-below_old P is x none h = tt
each-below_old {A} P is x (tree a k r) h =
    (elim (is a) as (λ c. Each P (preorder (cond c (tree a (tree x none k) r) (tree a (below is x k) (below is x r)))) → Each P (a ∷ (preorder k ++ preorder r))) [
      | true ↦ λ g. (g.0, g.1.1)
      | false ↦ λ g. (
        g.0,
        each-append P (preorder k) (preorder r)
            (each-below_old P is x k (each-left_part P (preorder (below is x k)) (preorder (below is x r)) g.1))
            (each-below_old P is x r (each-right_part P (preorder (below is x k)) (preorder (below is x r)) g.1)),
      )
    ]) h

pub each-after_old : {A : Type 0} (P : A → Type 0) (is : A → Bool) (x : A) (f : Forest A) → Each P (preorder (after is x f)) → Each P (preorder f)
each-after_old P is x none h = tt
each-after_old {A} P is x (tree a k r) h =
    (elim (is a) as (λ c. Each P (preorder (cond c (tree a k (tree x none r)) (tree a (after is x k) (after is x r)))) → Each P (a ∷ (preorder k ++ preorder r))) [
      | true ↦ λ g. (g.0, each-append P (preorder k) (preorder r) (each-left_part P (preorder k) (x ∷ preorder r) g.1) (each-right_part P (preorder k) (x ∷ preorder r) g.1).1)
      | false ↦ λ g. (
        g.0,
        each-append P (preorder k) (preorder r)
            (each-after_old P is x k (each-left_part P (preorder (after is x k)) (preorder (after is x r)) g.1))
            (each-after_old P is x r (each-right_part P (preorder (after is x k)) (preorder (after is x r)) g.1)),
      )
    ]) h

-- what is contained

pub contains-root : {A : Type 0} (x : A) (f : Forest A) (e : A) → Contains (preorder (root x f)) e → Contains (preorder f) e ⊎ (x ≡ e)
contains-root {A} x f e h = Contains-push_cases (preorder f) x e (let Q : List A → Type 0 = λ l. Contains l e in subst Q (preorder-root x f) h)

pub contains-root_old : {A : Type 0} (x : A) (f : Forest A) (e : A) → Contains (preorder f) e → Contains (preorder (root x f)) e
contains-root_old {A} x f e h = let Q : List A → Type 0 = λ l. Contains l e in subst Q (sym (preorder-root x f)) (Contains-append_left (preorder f) (x ∷ []) e h)

pub contains-root_new : {A : Type 0} (x : A) (f : Forest A) → Contains (preorder (root x f)) x
contains-root_new {A} x f = let Q : List A → Type 0 = λ l. Contains l x in subst Q (sym (preorder-root x f)) (Contains-push (preorder f) x)

pub contains-below : {A : Type 0} (is : A → Bool) (x : A) (f : Forest A) (e : A) → Contains (preorder (below is x f)) e → Contains (preorder f) e ⊎ (x ≡ e)
contains-below {A} is x f e h =
    let P : A → Type 0 = λ b. Contains (preorder f) b ⊎ (x ≡ b) in
    each-contained P (preorder (below is x f)) e (each-below P is x f (each-weaker (Contains (preorder f)) P (λ b m. inl m) (preorder f) (each-contains (preorder f))) (inr refl)) h

pub contains-below_old : {A : Type 0} (is : A → Bool) (x : A) (f : Forest A) (e : A) → Contains (preorder f) e → Contains (preorder (below is x f)) e
contains-below_old {A} is x f e h =
    let P : A → Type 0 = Contains (preorder (below is x f)) in
    each-contained P (preorder f) e (each-below_old P is x f (each-contains (preorder (below is x f)))) h

pub contains-after : {A : Type 0} (is : A → Bool) (x : A) (f : Forest A) (e : A) → Contains (preorder (after is x f)) e → Contains (preorder f) e ⊎ (x ≡ e)
contains-after {A} is x f e h =
    let P : A → Type 0 = λ b. Contains (preorder f) b ⊎ (x ≡ b) in
    each-contained P (preorder (after is x f)) e (each-after P is x f (each-weaker (Contains (preorder f)) P (λ b m. inl m) (preorder f) (each-contains (preorder f))) (inr refl)) h

pub contains-after_old : {A : Type 0} (is : A → Bool) (x : A) (f : Forest A) (e : A) → Contains (preorder f) e → Contains (preorder (after is x f)) e
contains-after_old {A} is x f e h =
    let P : A → Type 0 = Contains (preorder (after is x f)) in
    each-contained P (preorder f) e (each-after_old P is x f (each-contains (preorder (after is x f)))) h

-- whether a test passes somewhere

pub any-root : {A : Type 0} (q : A → Bool) (x : A) (f : Forest A) → list_any q (preorder (root x f)) ≡ (list_any q (preorder f) || q x)
any-root q x f = ap (list_any q) (preorder-root x f) ∙ list_any-append q (preorder f) (x ∷ []) ∙ ap (λ b. list_any q (preorder f) || b) (or-false (q x))
  where
    or-false : (b : Bool) → (b || false) ≡ b
    or-false true = refl
    or-false false = refl

-- the place of x does not matter
below_here : (a x l : Bool) → (a || (x || l)) ≡ ((a || l) || x)
below_here true x l = refl
below_here false true true = refl
below_here false true false = refl
below_here false false true = refl
below_here false false false = refl

after_here : (a x k r : Bool) → (a || (k || (x || r))) ≡ ((a || (k || r)) || x)
after_here true x k r = refl
after_here false true true r = refl
after_here false false true r = refl
after_here false x false r = below_here false x r

further : (a k r i j x : Bool) → (a || ((k || (i && x)) || (r || (j && x)))) ≡ ((a || (k || r)) || ((i || j) && x))
further true k r i j x = refl
further false true r i j x = refl
further false false true true j true = refl
further false false true true j false = refl
further false false true false true true = refl
further false false true false true false = refl
further false false true false false x = refl
further false false false true true true = refl
further false false false true true false = refl
further false false false true false true = refl
further false false false true false false = refl
further false false false false j x = refl

pub any-below : {A : Type 0} (is q : A → Bool) (x : A) (f : Forest A) → list_any q (preorder (below is x f)) ≡ (list_any q (preorder f) || (list_any is (preorder f) && q x))
any-below is q x none = refl
any-below {A} is q x (tree a k r) =
    elim (is a) as (λ c. list_any q (preorder (cond c (tree a (tree x none k) r) (tree a (below is x k) (below is x r)))) ≡ ((q a || list_any q (preorder k ++ preorder r)) || ((c || list_any is (preorder k ++ preorder r)) && q x))) [
      | true ↦ below_here (q a) (q x) (list_any q (preorder k ++ preorder r))
      | false ↦ rw (list_any-append q (preorder (below is x k)) (preorder (below is x r)), list_any-append q (preorder k) (preorder r), list_any-append is (preorder k) (preorder r), any-below is q x k, any-below is q x r)
          (further (q a) (list_any q (preorder k)) (list_any q (preorder r)) (list_any is (preorder k)) (list_any is (preorder r)) (q x))
    ]

pub any-after : {A : Type 0} (is q : A → Bool) (x : A) (f : Forest A) → list_any q (preorder (after is x f)) ≡ (list_any q (preorder f) || (list_any is (preorder f) && q x))
any-after is q x none = refl
any-after {A} is q x (tree a k r) =
    elim (is a) as (λ c. list_any q (preorder (cond c (tree a k (tree x none r)) (tree a (after is x k) (after is x r)))) ≡ ((q a || list_any q (preorder k ++ preorder r)) || ((c || list_any is (preorder k ++ preorder r)) && q x))) [
      | true ↦ rw (list_any-append q (preorder k) (x ∷ preorder r), list_any-append q (preorder k) (preorder r)) (after_here (q a) (q x) (list_any q (preorder k)) (list_any q (preorder r)))
      | false ↦ rw (list_any-append q (preorder (after is x k)) (preorder (after is x r)), list_any-append q (preorder k) (preorder r), list_any-append is (preorder k) (preorder r), any-after is q x k, any-after is q x r)
          (further (q a) (list_any q (preorder k)) (list_any q (preorder r)) (list_any is (preorder k)) (list_any is (preorder r)) (q x))
    ]

-- what passes a test that x fails

pub filter-below : {A : Type 0} (is q : A → Bool) (x : A) (f : Forest A) → q x ≡ false → filter q (preorder (below is x f)) ≡ filter q (preorder f)
filter-below is q x none h = refl
filter-below {A} is q x (tree a k r) h =
    elim (is a) as (λ c. filter q (preorder (cond c (tree a (tree x none k) r) (tree a (below is x k) (below is x r)))) ≡ cond (q a) (a ∷ filter q (preorder k ++ preorder r)) (filter q (preorder k ++ preorder r))) [
      | true ↦ rw h
      | false ↦ rw (filter-append q (preorder (below is x k)) (preorder (below is x r)), filter-append q (preorder k) (preorder r), filter-below is q x k h, filter-below is q x r h)
    ]

pub filter-after : {A : Type 0} (is q : A → Bool) (x : A) (f : Forest A) → q x ≡ false → filter q (preorder (after is x f)) ≡ filter q (preorder f)
filter-after is q x none h = refl
filter-after {A} is q x (tree a k r) h =
    elim (is a) as (λ c. filter q (preorder (cond c (tree a k (tree x none r)) (tree a (after is x k) (after is x r)))) ≡ cond (q a) (a ∷ filter q (preorder k ++ preorder r)) (filter q (preorder k ++ preorder r))) [
      | true ↦ rw (filter-append q (preorder k) (x ∷ preorder r), filter-append q (preorder k) (preorder r), h)
      | false ↦ rw (filter-append q (preorder (after is x k)) (preorder (after is x r)), filter-append q (preorder k) (preorder r), filter-after is q x k h, filter-after is q x r h)
    ]

-- what stands below, and above

pub below_those-root : {A : Type 0} (q : A → Bool) (x : A) (f : Forest A) → below_those q (root x f) ≡ below_those q f
below_those-root {A} q x none = elim (q x) as (λ c. cond {A = Forest A} c none none ≡ none) [ true ↦ refl | false ↦ refl ]
below_those-root q x (tree a k r) = rw (below_those-root q x r)

pub has-root : {A : Type 0} (q : A → Bool) (x : A) (f : Forest A) → has q (root x f) ≡ (has q f || q x)
has-root q x none = elim (q x) as (λ c. (c || (false || false)) ≡ c) [ true ↦ refl | false ↦ refl ]
has-root q x (tree a k r) = rw (has-root q x r) (rotate (q a) (has q k) (has q r) (q x))
  where
    rotate : (a k r x : Bool) → (a || (k || (r || x))) ≡ ((a || (k || r)) || x)
    rotate true k r x = refl
    rotate false true r x = refl
    rotate false false r x = refl

pub ancestors-root : {A : Type 0} (q : A → Bool) (x : A) (f : Forest A) → ancestors q (root x f) ≡ ancestors q f
ancestors-root q x none = refl
ancestors-root q x (tree a k r) = rw (ancestors-root q x r)

pub has-below : {A : Type 0} (is q : A → Bool) (x : A) (f : Forest A) → q x ≡ false → has q (below is x f) ≡ has q f
has-below is q x none h = refl
has-below is q x (tree a k r) h =
    elim (is a) as (λ c. has q (cond c (tree a (tree x none k) r) (tree a (below is x k) (below is x r))) ≡ (q a || (has q k || has q r))) [
      | true ↦ rw h
      | false ↦ rw (has-below is q x k h, has-below is q x r h)
    ]

pub has-after : {A : Type 0} (is q : A → Bool) (x : A) (f : Forest A) → q x ≡ false → has q (after is x f) ≡ has q f
has-after is q x none h = refl
has-after is q x (tree a k r) h =
    elim (is a) as (λ c. has q (cond c (tree a k (tree x none r)) (tree a (after is x k) (after is x r))) ≡ (q a || (has q k || has q r))) [
      | true ↦ rw h
      | false ↦ rw (has-after is q x k h, has-after is q x r h)
    ]

pub ancestors-below : {A : Type 0} (is q : A → Bool) (x : A) (f : Forest A) → q x ≡ false → ancestors q (below is x f) ≡ ancestors q f
ancestors-below is q x none h = refl
ancestors-below is q x (tree a k r) h =
    elim (is a) as (λ c. ancestors q (cond c (tree a (tree x none k) r) (tree a (below is x k) (below is x r))) ≡ cond (has q k) (a ∷ ancestors q k) (ancestors q r)) [
      | true ↦ rw h
      | false ↦ rw (has-below is q x k h, ancestors-below is q x k h, ancestors-below is q x r h)
    ]

pub ancestors-after : {A : Type 0} (is q : A → Bool) (x : A) (f : Forest A) → q x ≡ false → ancestors q (after is x f) ≡ ancestors q f
ancestors-after is q x none h = refl
ancestors-after is q x (tree a k r) h =
    elim (is a) as (λ c. ancestors q (cond c (tree a k (tree x none r)) (tree a (after is x k) (after is x r))) ≡ cond (has q k) (a ∷ ancestors q k) (ancestors q r)) [
      | true ↦ refl
      | false ↦ rw (has-after is q x k h, ancestors-after is q x k h, ancestors-after is q x r h)
    ]

-- what stood below still does
pub each-join_parts : {A : Type 0} (P : A → Type 0) (f g : Forest A) → Each P (preorder (join f g)) → Each P (preorder f) × Each P (preorder g)
each-join_parts {A} P f g h =
    let Q : List A → Type 0 = Each P in
    let e : Each P (preorder f ++ preorder g) = subst Q (preorder-join f g) h in
    (each-left_part P (preorder f) (preorder g) e, each-right_part P (preorder f) (preorder g) e)

pub each-join : {A : Type 0} (P : A → Type 0) (f g : Forest A) → Each P (preorder f) → Each P (preorder g) → Each P (preorder (join f g))
each-join {A} P f g h k =
    let Q : List A → Type 0 = Each P in
    subst Q (sym (preorder-join f g)) (each-append P (preorder f) (preorder g) h k)

pub each-below_those_below : {A : Type 0} (P : A → Type 0) (is q : A → Bool) (x : A) (f : Forest A) → q x ≡ false
    → Each P (preorder (below_those q (below is x f))) → Each P (preorder (below_those q f))
each-below_those_below P is q x none e h = tt
each-below_those_below {A} P is q x (tree a k r) e h =
    (elim (is a) as (λ c. Each P (preorder (below_those q (cond c (tree a (tree x none k) r) (tree a (below is x k) (below is x r))))) → Each P (preorder (cond (q a) k (join (below_those q k) (below_those q r))))) [
      | true ↦ elim (q a) as (λ d. Each P (preorder (cond d (tree x none k) (join (cond (q x) none (below_those q k)) (below_those q r)))) → Each P (preorder (cond d k (join (below_those q k) (below_those q r))))) [
        | true ↦ λ g. g.1
        | false ↦ rw e (λ g. g)
      ]
      | false ↦ elim (q a) as (λ d. Each P (preorder (cond d (below is x k) (join (below_those q (below is x k)) (below_those q (below is x r))))) → Each P (preorder (cond d k (join (below_those q k) (below_those q r))))) [
        | true ↦ λ g. each-below_old P is x k g
        | false ↦ λ g. let b : Each P (preorder (below_those q (below is x k))) × Each P (preorder (below_those q (below is x r))) = each-join_parts P (below_those q (below is x k)) (below_those q (below is x r)) g in
            each-join P (below_those q k) (below_those q r) (each-below_those_below P is q x k e b.0) (each-below_those_below P is q x r e b.1)
      ]
    ]) h

pub each-below_those_after : {A : Type 0} (P : A → Type 0) (is q : A → Bool) (x : A) (f : Forest A) → q x ≡ false
    → Each P (preorder (below_those q (after is x f))) → Each P (preorder (below_those q f))
each-below_those_after P is q x none e h = tt
each-below_those_after {A} P is q x (tree a k r) e h =
    (elim (is a) as (λ c. Each P (preorder (below_those q (cond c (tree a k (tree x none r)) (tree a (after is x k) (after is x r))))) → Each P (preorder (cond (q a) k (join (below_those q k) (below_those q r))))) [
      | true ↦ elim (q a) as (λ d. Each P (preorder (cond d k (join (below_those q k) (cond (q x) none (below_those q r))))) → Each P (preorder (cond d k (join (below_those q k) (below_those q r))))) [
        | true ↦ λ g. g
        | false ↦ rw e (λ g. g)
      ]
      | false ↦ elim (q a) as (λ d. Each P (preorder (cond d (after is x k) (join (below_those q (after is x k)) (below_those q (after is x r))))) → Each P (preorder (cond d k (join (below_those q k) (below_those q r))))) [
        | true ↦ λ g. each-after_old P is x k g
        | false ↦ λ g. let b : Each P (preorder (below_those q (after is x k))) × Each P (preorder (below_those q (after is x r))) = each-join_parts P (below_those q (after is x k)) (below_those q (after is x r)) g in
            each-join P (below_those q k) (below_those q r) (each-below_those_after P is q x k e b.0) (each-below_those_after P is q x r e b.1)
      ]
    ]) h
