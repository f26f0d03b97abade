-- What is built of a list from which an element is front_trees out, where two tests agree only along the runs that pass.
use Rattle.std.proofs.Common.{◌≡◌, Bool, true, false, List, [], ◌∷◌, ◌++◌, refl, sym, ◌∙◌, subst, arith}
use Rattle.std.specs.List.{AllByRecursion as Each}
use Rattle.kernel_forest.specs.Forest.{Forest, none, tree, preorder, out, front_trees, trees_behind, build}
use Rattle.kernel_forest.proofs.Trees.Built.{Absent, Once, StopsAtOnce, taken-left, preorder-build, once-split, at_one}
use Rattle.kernel_forest.proofs.Trees.Nested.{IsTransitive, Whole, whole-nested, nested-build}
use Rattle.kernel_forest.proofs.Trees.BuiltOut.{StopsAfter, taken-out_yes, taken-out_no}

-- the two tests agree as far as the first one's run goes, and on what ends it
abbrev pub AgreeRun : {A : Type 0} → (q q' : A → Bool) → List A → Type 0
AgreeRun q q' [] = Unit {0}
AgreeRun q q' (b ∷ l) = (q' b ≡ q b) × (q b ≡ true → AgreeRun q q' l)

abbrev pub AgreeRuns : {A : Type 0} → (t t' : A → A → Bool) → List A → Type 0
AgreeRuns t t' [] = Unit {0}
AgreeRuns t t' (a ∷ l) = AgreeRun (t a) (t' a) l × AgreeRuns t t' l

pub run-right_part : {A : Type 0} (q q' : A → Bool) (xs ys : List A) → Each (λ b. q b ≡ true) xs → AgreeRun q q' (xs ++ ys) → AgreeRun q q' ys
run-right_part q q' [] ys h g = g
run-right_part q q' (x ∷ xs) ys h g = run-right_part q q' xs ys h.1 (g.1 h.0)

pub same-run : {A : Type 0} (q q' : A → Bool) (f : Forest A) → Whole q f → AgreeRun q q' (preorder f) → (front_trees q' f ≡ front_trees q f) × (trees_behind q' f ≡ trees_behind q f)
same-run q q' none w g = (refl, refl)
same-run {A} q q' (tree a k r) w g =
    step q q' a k r g.0 (λ e. (same-run q q' r w.1 (run-right_part q q' (preorder k) (preorder r) (w.0 e) (g.1 e))).0) (λ e. (same-run q q' r w.1 (run-right_part q q' (preorder k) (preorder r) (w.0 e) (g.1 e))).1)
  where
    step : {A : Type 0} (q q' : A → Bool) (a : A) (k r : Forest A) → q' a ≡ q a → (q a ≡ true → front_trees q' r ≡ front_trees q r) → (q a ≡ true → trees_behind q' r ≡ trees_behind q r) → (front_trees q' (tree a k r) ≡ front_trees q (tree a k r)) × (trees_behind q' (tree a k r) ≡ trees_behind q (tree a k r))
    step q q' a k r e h h' = grind arith

pub build-runs : {A : Type 0} (t t' : A → A → Bool) → IsTransitive t → (l : List A) → AgreeRuns t t' l → build t' l ≡ build t l
build-runs t t' tr [] h = refl
build-runs {A} t t' tr (a ∷ l) h =
    let f : Forest A = build t l in
    let both : (front_trees (t' a) f ≡ front_trees (t a) f) × (trees_behind (t' a) f ≡ trees_behind (t a) f) =
    same-run (t a) (t' a) f (whole-nested t tr a f (nested-build t tr l)) (let P : List A → Type 0 = AgreeRun (t a) (t' a) in subst P (sym (preorder-build t l)) h.0) in
    rw (build-runs t t' tr l h.1, both.0, both.1)

-- as `Handed`, with runs
abbrev pub HandedRuns : {A : Type 0} → (t t' : A → A → Bool) → (s : A) → (pre post : List A) → Type 0
HandedRuns t t' s [] post = AgreeRuns t t' post
HandedRuns t t' s (p ∷ pre) post =
    (t p s ≡ true → Each (λ b. t' p b ≡ t p b) (pre ++ post)) × (t p s ≡ false → Each (λ b. t' p b ≡ t p b) pre × StopsAtOnce (t' p) post) × HandedRuns t t' s pre post

pub build-out_runs : {A : Type 0} (t t' : A → A → Bool) → IsTransitive t → (is : A → Bool) (pre : List A) (s : A) (post : List A)
    → is s ≡ true → Absent is pre → Absent is post → HandedRuns t t' s pre post
    → build t' (pre ++ post) ≡ out is (build t (pre ++ s ∷ post))
build-out_runs {A} t t' tr is [] s post e a b h = rw e (build-runs t t' tr post h ∙ sym (taken-left (t s) (build t post)))
build-out_runs {A} t t' tr is (p ∷ pre) s post e a b h =
    let f : Forest A = build t (pre ++ s ∷ post) in
    let o : Once is (preorder f) = let P : List A → Type 0 = Once is in subst P (sym (preorder-build t (pre ++ s ∷ post))) (once-split is pre s post a.1 b) in
    let w : Whole (t p) f = whole-nested t tr p f (nested-build t tr (pre ++ s ∷ post)) in
    let ih : build t' (pre ++ post) ≡ out is f = build-out_runs t t' tr is pre s post e a.1 b h.2 in
    let both : (front_trees (t' p) (out is f) ≡ out is (front_trees (t p) f)) × (trees_behind (t' p) (out is f) ≡ out is (trees_behind (t p) f)) =
    (elim (t p s) as (λ c. t p s ≡ c → (front_trees (t' p) (out is f) ≡ out is (front_trees (t p) f)) × (trees_behind (t' p) (out is f) ≡ out is (trees_behind (t p) f))) [
      | true ↦ λ g.
          let ag : Each (λ c. is c ≡ false → t' p c ≡ t p c) (preorder f) = let P : List A → Type 0 = λ m. Each (λ c. is c ≡ false → t' p c ≡ t p c) m in subst P (sym (preorder-build t (pre ++ s ∷ post))) (around pre (h.0 g)) in
          taken-out_yes (t p) (t' p) is f (let P : List A → Type 0 = λ m. Each (λ c. is c ≡ true → t p c ≡ true) m in subst P (sym (preorder-build t (pre ++ s ∷ post))) (at_one is (λ c. t p c ≡ true) pre s post a.1 b g)) w o ag
      | false ↦ λ g.
          let ag : StopsAfter is (t p) (t' p) (preorder f) = let P : List A → Type 0 = λ m. StopsAfter is (t p) (t' p) m in subst P (sym (preorder-build t (pre ++ s ∷ post))) (until pre a.1 (h.1 g).0 (h.1 g).1) in
          taken-out_no (t p) (t' p) is f (let P : List A → Type 0 = λ m. Each (λ c. is c ≡ true → t p c ≡ false) m in subst P (sym (preorder-build t (pre ++ s ∷ post))) (at_one is (λ c. t p c ≡ false) pre s post a.1 b g)) w ag
    ]) refl in
    rw (ih, a.0, both.0, both.1)
  where
    around : (l : List A) → Each (λ c. t' p c ≡ t p c) (l ++ post) → Each (λ c. is c ≡ false → t' p c ≡ t p c) (l ++ s ∷ post)
    around [] g = ((λ i. absurd (cc)), weak post g)
      where
        weak : (m : List A) → Each (λ c. t' p c ≡ t p c) m → Each (λ c. is c ≡ false → t' p c ≡ t p c) m
        weak [] n = tt
        weak (c ∷ m) n = ((λ i. n.0), weak m n.1)
    around (c ∷ l) g = ((λ i. g.0), around l g.1)

    until : (l : List A) → Absent is l → Each (λ c. t' p c ≡ t p c) l → StopsAtOnce (t' p) post → StopsAfter is (t p) (t' p) (l ++ s ∷ post)
    until [] n g stop = ((λ i. stop), (λ i. absurd (cc)))
    until (c ∷ l) n g stop = ((λ i. absurd (let j : is c ≡ false = n.0 in cc)), (λ i. (g.0, until l n.1 g.1 stop)))
