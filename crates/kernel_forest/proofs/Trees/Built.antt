-- The forest that a list and a test stand for, and what an edit of the list is to it.
use Rattle.std.proofs.Common.{◌≡◌, Bool, true, false, cond, List, [], ◌∷◌, ◌++◌, map, Option, Some, None, refl, sym, ◌∙◌, ap, subst, arith}
use Rattle.std.specs.List.{AllByRecursion as Each}
use Rattle.std.proofs.lemmas.List.{map-append}
use Rattle.kernel_forest.specs.Forest.{Forest, none, tree, preorder, join, tops, below_those, below, after, renamed, root, front_trees, trees_behind, build}
use Rattle.kernel_forest.proofs.Trees.Forests.{preorder-join, each-left_part, each-right_part}

-- the trees front_trees and the trees trees_behind are the trees
pub taken-left : {A : Type 0} (p : A → Bool) (f : Forest A) → join (front_trees p f) (trees_behind p f) ≡ f
taken-left p none = refl
taken-left p (tree a k r) =
    elim (p a) as (λ b. join (cond b (tree a k (front_trees p r)) none) (cond b (trees_behind p r) (tree a k r)) ≡ tree a k r) [
      | true ↦ ap (tree a k) (taken-left p r)
      | false ↦ refl
    ]

-- what is built of a list is the list in preorder, whatever the test
pub preorder-build : {A : Type 0} (t : A → A → Bool) (l : List A) → preorder (build t l) ≡ l
preorder-build t [] = refl
preorder-build t (a ∷ l) =
    ap (λ m. a ∷ m) (sym (preorder-join (front_trees (t a) (build t l)) (trees_behind (t a) (build t l)))
    ∙ ap preorder (taken-left (t a) (build t l)) ∙ preorder-build t l)

pub taken-below : {A : Type 0} (p is : A → Bool) (x : A) (f : Forest A) → front_trees p (below is x f) ≡ below is x (front_trees p f)
taken-below p is x none = refl
taken-below p is x (tree a k r) = taken-below_step p is x a k r (taken-below p is x r)
  where
    taken-below_step : {A : Type 0} (p is : A → Bool) (x a : A) (k r : Forest A) → front_trees p (below is x r) ≡ below is x (front_trees p r) → front_trees p (below is x (tree a k r)) ≡ below is x (front_trees p (tree a k r))
    taken-below_step p is x a k r h = grind arith

-- no element is the one
abbrev pub Absent : {A : Type 0} → (A → Bool) → List A → Type 0
Absent is l = Each (λ b. is b ≡ false) l

-- at most one element is the one
abbrev pub Once : {A : Type 0} → (A → Bool) → List A → Type 0
Once is [] = Unit {0}
Once is (a ∷ l) = (is a ≡ true → Absent is l) × Once is l

-- no element, or a first one that does not pass
abbrev pub StopsAtOnce : {A : Type 0} → (A → Bool) → List A → Type 0
StopsAtOnce p [] = Unit {0}
StopsAtOnce p (a ∷ l) = p a ≡ false

pub once-right_part : {X : Type 0} (is : X → Bool) (xs ys : List X) → Once is (xs ++ ys) → Once is ys
once-right_part is [] ys h = h
once-right_part is (x ∷ xs) ys h = once-right_part is xs ys h.1

pub once-absent : {X : Type 0} (is : X → Bool) (xs : List X) → Absent is xs → Once is xs
once-absent is [] h = tt
once-absent is (x ∷ xs) h = ((λ e. h.1), once-absent is xs h.1)

pub once-split : {X : Type 0} (is : X → Bool) (xs : List X) (s : X) (ys : List X) → Absent is xs → Absent is ys → Once is (xs ++ s ∷ ys)
once-split is [] s ys hx hy = ((λ e. hy), once-absent is ys hy)
once-split is (x ∷ xs) s ys hx hy = ((λ e. absurd (let f : is x ≡ false = hx.0 in cc)), once-split is xs s ys hx.1 hy)

-- what holds of s holds of each that is the one
pub at_one : {A : Type 0} (is : A → Bool) (P : A → Type 0) (xs : List A) (s : A) (ys : List A) → Absent is xs → Absent is ys → P s → Each (λ c. is c ≡ true → P c) (xs ++ s ∷ ys)
at_one {A} is P [] s ys hx hy h = ((λ e. h), never ys hy)
  where
    never : (l : List A) → Absent is l → Each (λ c. is c ≡ true → P c) l
    never [] n = tt
    never (c ∷ l) n = ((λ e. absurd (let f : is c ≡ false = n.0 in cc)), never l n.1)
at_one is P (x ∷ xs) s ys hx hy h = ((λ e. absurd (let f : is x ≡ false = hx.0 in cc)), at_one is P xs s ys hx.1 hy h)

pub taken_none : {A : Type 0} (p : A → Bool) (f : Forest A) → StopsAtOnce p (preorder f) → front_trees p f ≡ none
taken_none p none h = refl
taken_none p (tree a k r) h = rw h

pub left_all : {A : Type 0} (p : A → Bool) (f : Forest A) → StopsAtOnce p (preorder f) → trees_behind p f ≡ f
left_all p none h = refl
left_all p (tree a k r) h = rw h

pub fixed-below : {A : Type 0} (is : A → Bool) (x : A) (f : Forest A) → Absent is (preorder f) → below is x f ≡ f
fixed-below is x none h = refl
fixed-below is x (tree a k r) h =
    let ek : below is x k ≡ k = fixed-below is x k (each-left_part (λ b. is b ≡ false) (preorder k) (preorder r) h.1) in
    let er : below is x r ≡ r = fixed-below is x r (each-right_part (λ b. is b ≡ false) (preorder k) (preorder r) h.1) in
    rw (h.0, ek, er)

pub fixed-after : {A : Type 0} (is : A → Bool) (x : A) (f : Forest A) → Absent is (preorder f) → after is x f ≡ f
fixed-after is x none h = refl
fixed-after is x (tree a k r) h =
    let ek : after is x k ≡ k = fixed-after is x k (each-left_part (λ b. is b ≡ false) (preorder k) (preorder r) h.1) in
    let er : after is x r ≡ r = fixed-after is x r (each-right_part (λ b. is b ≡ false) (preorder k) (preorder r) h.1) in
    rw (h.0, ek, er)

pub left-below : {A : Type 0} (p is : A → Bool) (x : A) (f : Forest A) → Once is (preorder f) → trees_behind p (below is x f) ≡ below is x (trees_behind p f)
left-below p is x none o = refl
left-below p is x (tree a k r) o =
    step p is x a k r (λ e. fixed-below is x r (each-right_part (λ b. is b ≡ false) (preorder k) (preorder r) (o.0 e))) (left-below p is x r (once-right_part is (preorder k) (preorder r) o.1))
  where
    step : {A : Type 0} (p is : A → Bool) (x a : A) (k r : Forest A) → (is a ≡ true → below is x r ≡ r) → trees_behind p (below is x r) ≡ below is x (trees_behind p r) → trees_behind p (below is x (tree a k r)) ≡ below is x (trees_behind p (tree a k r))
    step p is x a k r fixed h = grind arith

pub taken-after : {A : Type 0} (p is : A → Bool) (x : A) (f : Forest A) → Each (λ a. is a ≡ true → p a ≡ true → p x ≡ true) (preorder f) → front_trees p (after is x f) ≡ after is x (front_trees p f)
taken-after p is x none g = refl
taken-after p is x (tree a k r) g = step p is x a k r g.0 (taken-after p is x r (each-right_part (λ c. is c ≡ true → p c ≡ true → p x ≡ true) (preorder k) (preorder r) g.1))
  where
    step : {A : Type 0} (p is : A → Bool) (x a : A) (k r : Forest A) → (is a ≡ true → p a ≡ true → p x ≡ true) → front_trees p (after is x r) ≡ after is x (front_trees p r) → front_trees p (after is x (tree a k r)) ≡ after is x (front_trees p (tree a k r))
    step p is x a k r g h = grind arith

pub left-after : {A : Type 0} (p is : A → Bool) (x : A) (f : Forest A) → Each (λ a. is a ≡ true → p a ≡ true → p x ≡ true) (preorder f) → Once is (preorder f) → trees_behind p (after is x f) ≡ after is x (trees_behind p f)
left-after p is x none g o = refl
left-after p is x (tree a k r) g o =
    step p is x a k r g.0 (λ e. fixed-after is x r (each-right_part (λ b. is b ≡ false) (preorder k) (preorder r) (o.0 e))) (left-after p is x r (each-right_part (λ c. is c ≡ true → p c ≡ true → p x ≡ true) (preorder k) (preorder r) g.1) (once-right_part is (preorder k) (preorder r) o.1))
  where
    step : {A : Type 0} (p is : A → Bool) (x a : A) (k r : Forest A) → (is a ≡ true → p a ≡ true → p x ≡ true) → (is a ≡ true → after is x r ≡ r) → trees_behind p (after is x r) ≡ after is x (trees_behind p r) → trees_behind p (after is x (tree a k r)) ≡ after is x (trees_behind p (tree a k r))
    step p is x a k r g fixed h = grind arith

-- x is put directly after s, whose test it passes, and takes nothing: x is then the first child of s
pub build-below : {A : Type 0} (t : A → A → Bool) (is : A → Bool) (pre : List A) (s x : A) (post : List A)
    → is s ≡ true → Absent is pre → Absent is post → t s x ≡ true → StopsAtOnce (t x) post
    → build t (pre ++ s ∷ x ∷ post) ≡ below is x (build t (pre ++ s ∷ post))
build-below {A} t is [] s x post e a b h stop =
    let f : Forest A = build t post in
    let stop' : StopsAtOnce (t x) (preorder f) = let P : List A → Type 0 = StopsAtOnce (t x) in subst P (sym (preorder-build t post)) stop in
    let e1 : front_trees (t x) f ≡ none = taken_none (t x) f stop' in
    let e2 : trees_behind (t x) f ≡ f = left_all (t x) f stop' in
    rw (e1, e2, h, e)
build-below {A} t is (p ∷ pre) s x post e a b h stop =
    let f : Forest A = build t (pre ++ s ∷ post) in
    let o : Once is (preorder f) = let P : List A → Type 0 = Once is in subst P (sym (preorder-build t (pre ++ s ∷ post))) (once-split is pre s post a.1 b) in
    rw (build-below t is pre s x post e a.1 b h stop, a.0, taken-below (t p) is x f, left-below (t p) is x f o)

-- x is put directly after s, which takes nothing before or after; x takes nothing, and passes wherever s does: it is then the next sibling of s
pub build-after : {A : Type 0} (t : A → A → Bool) (is : A → Bool) (pre : List A) (s x : A) (post : List A)
    → is s ≡ true → Absent is pre → Absent is post
    → t s x ≡ false → StopsAtOnce (t s) post → StopsAtOnce (t x) post → Each (λ p. t p s ≡ true → t p x ≡ true) pre
    → build t (pre ++ s ∷ x ∷ post) ≡ after is x (build t (pre ++ s ∷ post))
build-after {A} t is [] s x post e a b h leaf stop also =
    let f : Forest A = build t post in
    let stop' : StopsAtOnce (t x) (preorder f) = let P : List A → Type 0 = StopsAtOnce (t x) in subst P (sym (preorder-build t post)) stop in
    let leaf' : StopsAtOnce (t s) (preorder f) = let P : List A → Type 0 = StopsAtOnce (t s) in subst P (sym (preorder-build t post)) leaf in
    let e1 : front_trees (t x) f ≡ none = taken_none (t x) f stop' in
    let e2 : trees_behind (t x) f ≡ f = left_all (t x) f stop' in
    let e3 : front_trees (t s) f ≡ none = taken_none (t s) f leaf' in
    let e4 : trees_behind (t s) f ≡ f = left_all (t s) f leaf' in
    rw (e1, e2, e3, e4, h, e)
build-after {A} t is (p ∷ pre) s x post e a b h leaf stop also =
    let f : Forest A = build t (pre ++ s ∷ post) in
    let o : Once is (preorder f) = let P : List A → Type 0 = Once is in subst P (sym (preorder-build t (pre ++ s ∷ post))) (once-split is pre s post a.1 b) in
    let g : Each (λ c. is c ≡ true → t p c ≡ true → t p x ≡ true) (preorder f) = let P : List A → Type 0 = λ m. Each (λ c. is c ≡ true → t p c ≡ true → t p x ≡ true) m in subst P (sym (preorder-build t (pre ++ s ∷ post))) (at_one is (λ c. t p c ≡ true → t p x ≡ true) pre s post a.1 b also.0) in
    rw (build-after t is pre s x post e a.1 b h leaf stop also.1, a.0, taken-after (t p) is x f g, left-after (t p) is x f g o)

pub taken-root : {A : Type 0} (q : A → Bool) (x : A) (f : Forest A) → q x ≡ false → front_trees q (root x f) ≡ front_trees q f
taken-root q x none h = rw h
taken-root q x (tree a k r) h = rw (taken-root q x r h)

pub left-root : {A : Type 0} (q : A → Bool) (x : A) (f : Forest A) → q x ≡ false → trees_behind q (root x f) ≡ root x (trees_behind q f)
left-root q x none h = rw h
left-root q x (tree a k r) h = step q x a k r (left-root q x r h)
  where
    step : {A : Type 0} (q : A → Bool) (x a : A) (k r : Forest A) → trees_behind q (root x r) ≡ root x (trees_behind q r) → trees_behind q (root x (tree a k r)) ≡ root x (trees_behind q (tree a k r))
    step q x a k r h = grind arith

-- x is put at the end, and passes nothing's test: it is then a tree of its own, the last
pub build-root : {A : Type 0} (t : A → A → Bool) (x : A) (l : List A) → Each (λ p. t p x ≡ false) l → build t (l ++ x ∷ []) ≡ root x (build t l)
build-root t x [] h = refl
build-root t x (a ∷ l) h = rw (build-root t x l h.1, taken-root (t a) x (build t l) h.0, left-root (t a) x (build t l) h.0)

-- what stands below an element: what is built of the elements behind it, as far as they pass its test

pub below_those_none : {A : Type 0} (is : A → Bool) (f : Forest A) → Absent is (preorder f) → below_those is f ≡ none
below_those_none is none h = refl
below_those_none is (tree a k r) h =
    let ek : below_those is k ≡ none = below_those_none is k (each-left_part (λ b. is b ≡ false) (preorder k) (preorder r) h.1) in
    let er : below_those is r ≡ none = below_those_none is r (each-right_part (λ b. is b ≡ false) (preorder k) (preorder r) h.1) in
    rw (h.0, ek, er)

pub join-assoc : {A : Type 0} (f g h : Forest A) → join (join f g) h ≡ join f (join g h)
join-assoc none g h = refl
join-assoc (tree a k r) g h = ap (tree a k) (join-assoc r g h)

pub join-nothing : {A : Type 0} (f : Forest A) → join f none ≡ f
join-nothing none = refl
join-nothing (tree a k r) = ap (tree a k) (join-nothing r)

pub absent-left : {A : Type 0} (is p : A → Bool) (f : Forest A) → Absent is (preorder f) → Absent is (preorder (trees_behind p f))
absent-left {A} is p f h =
    let Q : List A → Type 0 = Absent is in
    let e : preorder f ≡ preorder (front_trees p f) ++ preorder (trees_behind p f) = ap preorder (sym (taken-left p f)) ∙ preorder-join (front_trees p f) (trees_behind p f) in
    each-right_part (λ b. is b ≡ false) (preorder (front_trees p f)) (preorder (trees_behind p f)) (subst Q e h)

pub below_those-parts : {A : Type 0} (is p : A → Bool) (f : Forest A) → Once is (preorder f) → join (below_those is (front_trees p f)) (below_those is (trees_behind p f)) ≡ below_those is f
below_those-parts is p none o = refl
below_those-parts {A} is p (tree a k r) o =
    let ih : join (below_those is (front_trees p r)) (below_those is (trees_behind p r)) ≡ below_those is r = below_those-parts is p r (once-right_part is (preorder k) (preorder r) o.1) in
    elim (p a) as (λ c. join (below_those is (cond c (tree a k (front_trees p r)) none)) (below_those is (cond c (trees_behind p r) (tree a k r))) ≡ cond (is a) k (join (below_those is k) (below_those is r))) [
      | true ↦ (elim (is a) as (λ d. is a ≡ d → join (cond d k (join (below_those is k) (below_those is (front_trees p r)))) (below_those is (trees_behind p r)) ≡ cond d k (join (below_those is k) (below_those is r))) [
        | true ↦ λ e. ap (join k) (below_those_none is (trees_behind p r) (absent-left is p r (each-right_part (λ b. is b ≡ false) (preorder k) (preorder r) (o.0 e)))) ∙ join-nothing k
        | false ↦ λ e. join-assoc (below_those is k) (below_those is (front_trees p r)) (below_those is (trees_behind p r)) ∙ ap (join (below_those is k)) ih
      ]) refl
      | false ↦ refl
    ]

pub build-below_those : {A : Type 0} (t : A → A → Bool) (is : A → Bool) (pre : List A) (s : A) (post : List A) → is s ≡ true → Absent is pre → Absent is post
    → below_those is (build t (pre ++ s ∷ post)) ≡ front_trees (t s) (build t post)
build-below_those t is [] s post e a b = rw e
build-below_those {A} t is (q ∷ pre) s post e a b =
    let f : Forest A = build t (pre ++ s ∷ post) in
    let o : Once is (preorder f) = let P : List A → Type 0 = Once is in subst P (sym (preorder-build t (pre ++ s ∷ post))) (once-split is pre s post a.1 b) in
    rw a.0 (below_those-parts is (t q) f o ∙ build-below_those t is pre s post e a.1 b)

-- the first child of s is the next element, where that passes
abbrev pub next_passing : {A : Type 0} → (A → Bool) → List A → Option A
next_passing p [] = None
next_passing p (a ∷ l) = cond (p a) (Some a) None

abbrev pub first_of : {A : Type 0} → List A → Option A
first_of [] = None
first_of (a ∷ l) = Some a

pub tops-taken : {A : Type 0} (t : A → A → Bool) (p : A → Bool) (l : List A) → first_of (tops (front_trees p (build t l))) ≡ next_passing p l
tops-taken t p [] = refl
tops-taken t p (a ∷ l) =
    elim (p a) as (λ c. first_of (tops (cond c (tree a (front_trees (t a) (build t l)) (front_trees p (trees_behind (t a) (build t l)))) none)) ≡ cond c (Some a) None) [ true ↦ refl | false ↦ refl ]

-- under other names

pub preorder-renamed : {A B : Type 0} (w : A → B) (f : Forest A) → preorder (renamed w f) ≡ map w (preorder f)
preorder-renamed w none = refl
preorder-renamed w (tree a k r) = ap (λ l. w a ∷ l) (rw (preorder-renamed w k, preorder-renamed w r) (sym (map-append w (preorder k) (preorder r))))

pub renamed-below : {A B : Type 0} (w : A → B) (is : B → Bool) (x : A) (f : Forest A) → renamed w (below (λ a. is (w a)) x f) ≡ below is (w x) (renamed w f)
renamed-below w is x none = refl
renamed-below w is x (tree a k r) =
    elim (is (w a)) as (λ c. renamed w (cond c (tree a (tree x none k) r) (tree a (below (λ b. is (w b)) x k) (below (λ b. is (w b)) x r))) ≡ cond c (tree (w a) (tree (w x) none (renamed w k)) (renamed w r)) (tree (w a) (below is (w x) (renamed w k)) (below is (w x) (renamed w r)))) [
      | true ↦ refl
      | false ↦ rw (renamed-below w is x k, renamed-below w is x r)
    ]

pub renamed-after : {A B : Type 0} (w : A → B) (is : B → Bool) (x : A) (f : Forest A) → renamed w (after (λ a. is (w a)) x f) ≡ after is (w x) (renamed w f)
renamed-after w is x none = refl
renamed-after w is x (tree a k r) =
    elim (is (w a)) as (λ c. renamed w (cond c (tree a k (tree x none r)) (tree a (after (λ b. is (w b)) x k) (after (λ b. is (w b)) x r))) ≡ cond c (tree (w a) (renamed w k) (tree (w x) none (renamed w r))) (tree (w a) (after is (w x) (renamed w k)) (after is (w x) (renamed w r)))) [
      | true ↦ refl
      | false ↦ rw (renamed-after w is x k, renamed-after w is x r)
    ]

pub renamed-join : {A B : Type 0} (w : A → B) (f g : Forest A) → renamed w (join f g) ≡ join (renamed w f) (renamed w g)
renamed-join w none g = refl
renamed-join w (tree a k r) g = ap (tree (w a) (renamed w k)) (renamed-join w r g)

pub renamed-root : {A B : Type 0} (w : A → B) (x : A) (f : Forest A) → renamed w (root x f) ≡ root (w x) (renamed w f)
renamed-root w x f = renamed-join w f (tree x none none)

pub renamed-below_those : {A B : Type 0} (w : A → B) (is : B → Bool) (f : Forest A) → below_those is (renamed w f) ≡ renamed w (below_those (λ a. is (w a)) f)
renamed-below_those w is none = refl
renamed-below_those w is (tree a k r) =
    elim (is (w a)) as (λ c. cond c (renamed w k) (join (below_those is (renamed w k)) (below_those is (renamed w r))) ≡ renamed w (cond c k (join (below_those (λ b. is (w b)) k) (below_those (λ b. is (w b)) r)))) [
      | true ↦ refl
      | false ↦ rw (renamed-below_those w is k, renamed-below_those w is r) (sym (renamed-join w (below_those (λ b. is (w b)) k) (below_those (λ b. is (w b)) r)))
    ]

pub tops-renamed : {A B : Type 0} (w : A → B) (f : Forest A) → tops (renamed w f) ≡ map w (tops f)
tops-renamed w none = refl
tops-renamed w (tree a k r) = ap (λ l. w a ∷ l) (tops-renamed w r)
