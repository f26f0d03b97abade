-- What is built of a list from which an element is front_trees out: what stood below it takes its place.
use Rattle.std.proofs.Common.{◌≡◌, Bool, true, false, cond, List, [], ◌∷◌, ◌++◌, refl, sym, ◌∙◌, ap, subst, arith}
use Rattle.std.specs.List.{AllByRecursion as Each}
use Rattle.kernel_forest.specs.Forest.{Forest, none, tree, preorder, join, out, renamed, front_trees, trees_behind, build}
use Rattle.kernel_forest.proofs.Trees.Forests.{preorder-join, each-left_part, each-right_part, each-weaker}
use Rattle.kernel_forest.proofs.Trees.Built.{Absent, Once, StopsAtOnce, taken-left, preorder-build, once-right_part, once-split, at_one, taken_none, left_all, renamed-join}
use Rattle.kernel_forest.proofs.Trees.Nested.{IsTransitive, Whole, whole-nested, nested-build}

pub fixed-out : {A : Type 0} (is : A → Bool) (f : Forest A) → Absent is (preorder f) → out is f ≡ f
fixed-out is none h = refl
fixed-out is (tree a k r) h =
    let ek : out is k ≡ k = fixed-out is k (each-left_part (λ b. is b ≡ false) (preorder k) (preorder r) h.1) in
    let er : out is r ≡ r = fixed-out is r (each-right_part (λ b. is b ≡ false) (preorder k) (preorder r) h.1) in
    rw (h.0, ek, er)

-- trees whose tops all pass, in front
pub taken-join : {A : Type 0} (q : A → Bool) (k r : Forest A) → Each (λ b. q b ≡ true) (preorder k) → front_trees q (join k r) ≡ join k (front_trees q r)
taken-join q none r h = refl
taken-join q (tree a k k') r h = rw (h.0, taken-join q k' r (each-right_part (λ b. q b ≡ true) (preorder k) (preorder k') h.1))

pub left-join : {A : Type 0} (q : A → Bool) (k r : Forest A) → Each (λ b. q b ≡ true) (preorder k) → trees_behind q (join k r) ≡ trees_behind q r
left-join q none r h = refl
left-join q (tree a k k') r h = rw (h.0, left-join q k' r (each-right_part (λ b. q b ≡ true) (preorder k) (preorder k') h.1))

-- two tests that agree take the same trees
pub taken-same : {A : Type 0} (q q' : A → Bool) (f : Forest A) → Each (λ b. q' b ≡ q b) (preorder f) → front_trees q' f ≡ front_trees q f
taken-same q q' none h = refl
taken-same q q' (tree a k r) h = rw (h.0, taken-same q q' r (each-right_part (λ b. q' b ≡ q b) (preorder k) (preorder r) h.1))

pub left-same : {A : Type 0} (q q' : A → Bool) (f : Forest A) → Each (λ b. q' b ≡ q b) (preorder f) → trees_behind q' f ≡ trees_behind q f
left-same q q' none h = refl
left-same q q' (tree a k r) h = rw (h.0, left-same q q' r (each-right_part (λ b. q' b ≡ q b) (preorder k) (preorder r) h.1))

pub each-left : {A : Type 0} (P : A → Type 0) (q : A → Bool) (f : Forest A) → Each P (preorder f) → Each P (preorder (trees_behind q f))
each-left P q none h = tt
each-left P q (tree a k r) h =
    elim (q a) as (λ b. Each P (preorder (cond b (trees_behind q r) (tree a k r)))) [ true ↦ each-left P q r (each-right_part P (preorder k) (preorder r) h.1) | false ↦ h ]

-- where s passes: the tests agree on all but s
pub taken-out_yes : {A : Type 0} (q q' is : A → Bool) (f : Forest A) → Each (λ a. is a ≡ true → q a ≡ true) (preorder f) → Whole q f → Once is (preorder f) → Each (λ b. is b ≡ false → q' b ≡ q b) (preorder f) → (front_trees q' (out is f) ≡ out is (front_trees q f)) × (trees_behind q' (out is f) ≡ out is (trees_behind q f))
taken-out_yes q q' is none pass w o ag = (refl, refl)
taken-out_yes {A} q q' is (tree a k r) pass w o ag =
    let ih : (front_trees q' (out is r) ≡ out is (front_trees q r)) × (trees_behind q' (out is r) ≡ out is (trees_behind q r)) =
    taken-out_yes q q' is r (each-right_part (λ b. is b ≡ true → q b ≡ true) (preorder k) (preorder r) pass.1) w.1 (once-right_part is (preorder k) (preorder r) o.1) (each-right_part (λ b. is b ≡ false → q' b ≡ q b) (preorder k) (preorder r) ag.1) in
    (elim (is a) as (λ c. is a ≡ c → (front_trees q' (out is (tree a k r)) ≡ out is (front_trees q (tree a k r))) × (trees_behind q' (out is (tree a k r)) ≡ out is (trees_behind q (tree a k r)))) [
      | true ↦ λ e.
          let qa : q a ≡ true = pass.0 e in
          let absent : Absent is (preorder k ++ preorder r) = o.0 e in
          let agree : Each (λ b. q' b ≡ q b) (preorder k ++ preorder r) = both_each (preorder k ++ preorder r) absent ag.1 in
          let rs : Each (λ b. q' b ≡ q b) (preorder r) = each-right_part (λ b. q' b ≡ q b) (preorder k) (preorder r) agree in
          let ks : Each (λ b. q' b ≡ true) (preorder k) = chained (preorder k) (each-left_part (λ b. q' b ≡ q b) (preorder k) (preorder r) agree) (w.0 qa) in
          let ra : Absent is (preorder r) = each-right_part (λ b. is b ≡ false) (preorder k) (preorder r) absent in
          let l : out is (trees_behind q r) ≡ trees_behind q r = fixed-out is (trees_behind q r) (each-left (λ b. is b ≡ false) q r ra) in
          (rw (e, qa, e) (taken-join q' k r ks ∙ ap (join k) (taken-same q q' r rs)), rw (e, qa) (left-join q' k r ks ∙ left-same q q' r rs ∙ sym l))
      | false ↦ λ e. step q q' is a k r e (ag.0 e) ih
    ]) refl
  where
    both_each : (l : List A) → Absent is l → Each (λ b. is b ≡ false → q' b ≡ q b) l → Each (λ b. q' b ≡ q b) l
    both_each [] h g = tt
    both_each (b ∷ l) h g = (g.0 h.0, both_each l h.1 g.1)

    chained : (l : List A) → Each (λ b. q' b ≡ q b) l → Each (λ b. q b ≡ true) l → Each (λ b. q' b ≡ true) l
    chained [] h g = tt
    chained (b ∷ l) h g = (h.0 ∙ g.0, chained l h.1 g.1)

    step : {A : Type 0} (q q' is : A → Bool) (a : A) (k r : Forest A) → is a ≡ false → q' a ≡ q a → (front_trees q' (out is r) ≡ out is (front_trees q r)) × (trees_behind q' (out is r) ≡ out is (trees_behind q r)) → (front_trees q' (out is (tree a k r)) ≡ out is (front_trees q (tree a k r))) × (trees_behind q' (out is (tree a k r)) ≡ out is (trees_behind q (tree a k r)))
    step q q' is a k r e g h = grind (arith, h.0, h.1)

-- the tests agree until s, and behind s the second stops at once
abbrev pub StopsAfter : {A : Type 0} → (is q q' : A → Bool) → List A → Type 0
StopsAfter is q q' [] = Unit {0}
StopsAfter is q q' (a ∷ l) = (is a ≡ true → StopsAtOnce q' l) × (is a ≡ false → (q' a ≡ q a) × StopsAfter is q q' l)

pub stops-right_part : {A : Type 0} (is q q' : A → Bool) (xs ys : List A) → Absent is xs → StopsAfter is q q' (xs ++ ys) → StopsAfter is q q' ys
stops-right_part is q q' [] ys n h = h
stops-right_part is q q' (x ∷ xs) ys n h = stops-right_part is q q' xs ys n.1 (h.1 n.0).1

-- where s does not pass
pub taken-out_no : {A : Type 0} (q q' is : A → Bool) (f : Forest A) → Each (λ a. is a ≡ true → q a ≡ false) (preorder f) → Whole q f → StopsAfter is q q' (preorder f) → (front_trees q' (out is f) ≡ out is (front_trees q f)) × (trees_behind q' (out is f) ≡ out is (trees_behind q f))
taken-out_no q q' is none fails w ag = (refl, refl)
taken-out_no {A} q q' is (tree a k r) fails w ag =
    (elim (is a) as (λ c. is a ≡ c → (front_trees q' (out is (tree a k r)) ≡ out is (front_trees q (tree a k r))) × (trees_behind q' (out is (tree a k r)) ≡ out is (trees_behind q (tree a k r)))) [
      | true ↦ λ e.
          let qa : q a ≡ false = fails.0 e in
          let stop : StopsAtOnce q' (preorder (join k r)) = let P : List A → Type 0 = StopsAtOnce q' in subst P (sym (preorder-join k r)) (ag.0 e) in
          (rw (e, qa) (taken_none q' (join k r) stop), rw (e, qa, e) (left_all q' (join k r) stop))
      | false ↦ λ e.
          let ih : q a ≡ true → (front_trees q' (out is r) ≡ out is (front_trees q r)) × (trees_behind q' (out is r) ≡ out is (trees_behind q r)) =
          λ d. taken-out_no q q' is r (each-right_part (λ b. is b ≡ true → q b ≡ false) (preorder k) (preorder r) fails.1) w.1 (stops-right_part is q q' (preorder k) (preorder r) (never (preorder k) (w.0 d) (each-left_part (λ b. is b ≡ true → q b ≡ false) (preorder k) (preorder r) fails.1)) (ag.1 e).1) in
          step q q' is a k r e (ag.1 e).0 (λ d. fixed-out is k (never (preorder k) (w.0 d) (each-left_part (λ b. is b ≡ true → q b ≡ false) (preorder k) (preorder r) fails.1))) (λ d. (ih d).0) (λ d. (ih d).1)
    ]) refl
  where
    never : (l : List A) → Each (λ b. q b ≡ true) l → Each (λ b. is b ≡ true → q b ≡ false) l → Absent is l
    never [] h n = tt
    never (b ∷ l) h n =
        ((elim (is b) as (λ c. is b ≡ c → is b ≡ false) [ true ↦ λ e. (let d : q b ≡ false = n.0 e in let d' : q b ≡ true = h.0 in cc) | false ↦ λ e. e ]) refl, never l h.1 n.1)

    step : {A : Type 0} (q q' is : A → Bool) (a : A) (k r : Forest A) → is a ≡ false → q' a ≡ q a → (q a ≡ true → out is k ≡ k) → (q a ≡ true → front_trees q' (out is r) ≡ out is (front_trees q r)) → (q a ≡ true → trees_behind q' (out is r) ≡ out is (trees_behind q r)) → (front_trees q' (out is (tree a k r)) ≡ out is (front_trees q (tree a k r))) × (trees_behind q' (out is (tree a k r)) ≡ out is (trees_behind q (tree a k r)))
    step q q' is a k r e g fixed h h' = grind arith

-- the tests agree on each and its followers
abbrev pub AgreeOn : {A : Type 0} → (t t' : A → A → Bool) → List A → Type 0
AgreeOn t t' [] = Unit {0}
AgreeOn t t' (a ∷ l) = Each (λ b. t' a b ≡ t a b) l × AgreeOn t t' l

pub build-same : {A : Type 0} (t t' : A → A → Bool) (l : List A) → AgreeOn t t' l → build t' l ≡ build t l
build-same t t' [] h = refl
build-same {A} t t' (a ∷ l) h =
    let f : Forest A = build t l in
    let ag : Each (λ b. t' a b ≡ t a b) (preorder f) = let P : List A → Type 0 = λ m. Each (λ b. t' a b ≡ t a b) m in subst P (sym (preorder-build t l)) h.0 in
    rw (build-same t t' l h.1, taken-same (t a) (t' a) f ag, left-same (t a) (t' a) f ag)

-- what s leaves when it goes, from the test t to the test t': wherever s passed all goes on as it was; where it did not, the next stops the run
abbrev pub Handed : {A : Type 0} → (t t' : A → A → Bool) → (s : A) → (pre post : List A) → Type 0
Handed t t' s [] post = AgreeOn t t' post
Handed t t' s (p ∷ pre) post =
    (t p s ≡ true → Each (λ b. t' p b ≡ t p b) (pre ++ post)) × (t p s ≡ false → Each (λ b. t' p b ≡ t p b) pre × StopsAtOnce (t' p) post) × Handed t t' s pre post

-- s goes: what was below it takes its place
pub build-out : {A : Type 0} (t t' : A → A → Bool) → IsTransitive t → (is : A → Bool) (pre : List A) (s : A) (post : List A)
    → is s ≡ true → Absent is pre → Absent is post → Handed t t' s pre post
    → build t' (pre ++ post) ≡ out is (build t (pre ++ s ∷ post))
build-out {A} t t' tr is [] s post e a b h = rw e (build-same t t' post h ∙ sym (taken-left (t s) (build t post)))
build-out {A} t t' tr is (p ∷ pre) s post e a b h =
    let f : Forest A = build t (pre ++ s ∷ post) in
    let o : Once is (preorder f) = let P : List A → Type 0 = Once is in subst P (sym (preorder-build t (pre ++ s ∷ post))) (once-split is pre s post a.1 b) in
    let w : Whole (t p) f = whole-nested t tr p f (nested-build t tr (pre ++ s ∷ post)) in
    let ih : build t' (pre ++ post) ≡ out is f = build-out t t' tr is pre s post e a.1 b h.2 in
    let both : (front_trees (t' p) (out is f) ≡ out is (front_trees (t p) f)) × (trees_behind (t' p) (out is f) ≡ out is (trees_behind (t p) f)) =
    (elim (t p s) as (λ c. t p s ≡ c → (front_trees (t' p) (out is f) ≡ out is (front_trees (t p) f)) × (trees_behind (t' p) (out is f) ≡ out is (trees_behind (t p) f))) [
      | true ↦ λ g.
          let ag : Each (λ c. is c ≡ false → t' p c ≡ t p c) (preorder f) = let P : List A → Type 0 = λ m. Each (λ c. is c ≡ false → t' p c ≡ t p c) m in subst P (sym (preorder-build t (pre ++ s ∷ post))) (around pre (h.0 g)) in
          taken-out_yes (t p) (t' p) is f (let P : List A → Type 0 = λ m. Each (λ c. is c ≡ true → t p c ≡ true) m in subst P (sym (preorder-build t (pre ++ s ∷ post))) (at_one is (λ c. t p c ≡ true) pre s post a.1 b g)) w o ag
      | false ↦ λ g.
          let ag : StopsAfter is (t p) (t' p) (preorder f) = let P : List A → Type 0 = λ m. StopsAfter is (t p) (t' p) m in subst P (sym (preorder-build t (pre ++ s ∷ post))) (until pre a.1 (h.1 g).0 (h.1 g).1) in
          taken-out_no (t p) (t' p) is f (let P : List A → Type 0 = λ m. Each (λ c. is c ≡ true → t p c ≡ false) m in subst P (sym (preorder-build t (pre ++ s ∷ post))) (at_one is (λ c. t p c ≡ false) pre s post a.1 b g)) w ag
    ]) refl in
    rw (ih, a.0, both.0, both.1)
  where
    around : (l : List A) → Each (λ c. t' p c ≡ t p c) (l ++ post) → Each (λ c. is c ≡ false → t' p c ≡ t p c) (l ++ s ∷ post)
    around [] g = ((λ i. absurd (cc)), each-weaker (λ c. t' p c ≡ t p c) (λ c. is c ≡ false → t' p c ≡ t p c) (λ c d i. d) post g)
    around (c ∷ l) g = ((λ i. g.0), around l g.1)

    until : (l : List A) → Absent is l → Each (λ c. t' p c ≡ t p c) l → StopsAtOnce (t' p) post → StopsAfter is (t p) (t' p) (l ++ s ∷ post)
    until [] n g stop = ((λ i. stop), (λ i. absurd (cc)))
    until (c ∷ l) n g stop = ((λ i. absurd (let j : is c ≡ false = n.0 in cc)), (λ i. (g.0, until l n.1 g.1 stop)))

pub renamed-out : {A B : Type 0} (w : A → B) (is : B → Bool) (f : Forest A) → renamed w (out (λ a. is (w a)) f) ≡ out is (renamed w f)
renamed-out w is none = refl
renamed-out w is (tree a k r) =
    elim (is (w a)) as (λ c. renamed w (cond c (join k r) (tree a (out (λ b. is (w b)) k) (out (λ b. is (w b)) r))) ≡ cond c (join (renamed w k) (renamed w r)) (tree (w a) (out is (renamed w k)) (out is (renamed w r)))) [
      | true ↦ renamed-join w k r
      | false ↦ rw (renamed-out w is k, renamed-out w is r)
    ]
