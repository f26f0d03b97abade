-- A list and a transitive test stand for one forest, what is built of them.
use Rattle.std.proofs.Common.{suc, zero-add, ◌≡◌, ℕ, ◌+◌, Bool, true, false, cond, List, [], ◌∷◌, ◌++◌, map, length, take, refl, sym, ◌∙◌, ap, arith, append_assoc, length-append}
use Rattle.std.specs.List.{prefix_len, AllByRecursion as Each}
use Rattle.std.proofs.lemmas.List.{map-append, length-map}
use Rattle.kernel_forest.specs.Forest.{Forest, none, tree, preorder, join, with_descendant_counts, renamed, runs, StandsFor, front_trees, trees_behind, build}
use Rattle.kernel_forest.proofs.Trees.Built.{taken-left, preorder-build, preorder-renamed}
use Rattle.kernel_forest.proofs.Trees.Nested.{IsTransitive, Whole, whole-nested, nested-build}

counted-join : {A : Type 0} (f g : Forest A) → with_descendant_counts (join f g) ≡ with_descendant_counts f ++ with_descendant_counts g
counted-join none g = refl
counted-join (tree a k r) g = ap (λ l. (a, length (preorder k)) ∷ (with_descendant_counts k ++ l)) (counted-join r g) ∙ ap (λ l. (a, length (preorder k)) ∷ l) (sym (append_assoc (with_descendant_counts k) (with_descendant_counts r) (with_descendant_counts g)))

length-counted : {A : Type 0} (f : Forest A) → length (with_descendant_counts f) ≡ length (preorder f)
length-counted none = refl
length-counted (tree a k r) =
    let ek : length (with_descendant_counts k) ≡ length (preorder k) = length-counted k in
    let er : length (with_descendant_counts r) ≡ length (preorder r) = length-counted r in
    simp length-append (omega arith)

-- at most one forest fits

front_same : {X : Type 0} (a b c d : List X) → length a ≡ length b → a ++ c ≡ b ++ d → (a ≡ b) × (c ≡ d)
front_same [] [] c d n e = (refl, e)
front_same [] (y ∷ b) c d n e = cc
front_same (x ∷ a) [] c d n e = cc
front_same (x ∷ a) (y ∷ b) c d n e =
    let n' : length a ≡ length b = omega arith in
    let e' : a ++ c ≡ b ++ d = cc in
    let x' : x ≡ y = cc in
    let both : (a ≡ b) × (c ≡ d) = front_same a b c d n' e' in
    let s : a ≡ b = both.0 in
    (cc, both.1)

pub one_fits : {A : Type 0} (f g : Forest A) → with_descendant_counts f ≡ with_descendant_counts g → f ≡ g
one_fits none none e = refl
one_fits none (tree b k r) e = cc
one_fits (tree a k r) none e = cc
one_fits {A} (tree a k r) (tree b k' r') e =
    let pair : (a, length (preorder k)) ≡ (b, length (preorder k')) = cc in
    let top : a ≡ b = ap (λ (q : A × ℕ). q.0) pair in
    let n : length (preorder k) ≡ length (preorder k') = ap (λ (q : A × ℕ). q.1) pair in
    let m : length (with_descendant_counts k) ≡ length (with_descendant_counts k') = length-counted k ∙ n ∙ sym (length-counted k') in
    let rest : with_descendant_counts k ++ with_descendant_counts r ≡ with_descendant_counts k' ++ with_descendant_counts r' = cc in
    let both : (with_descendant_counts k ≡ with_descendant_counts k') × (with_descendant_counts r ≡ with_descendant_counts r') = front_same (with_descendant_counts k) (with_descendant_counts k') (with_descendant_counts r) (with_descendant_counts r') m rest in
    let ks : k ≡ k' = one_fits k k' both.0 in
    let rs : r ≡ r' = one_fits r r' both.1 in
    cc

-- what is built fits

prefix-each : {X : Type 0} (p : X → Bool) (xs ys : List X) → Each (λ x. p x ≡ true) xs → prefix_len p (xs ++ ys) ≡ length xs + prefix_len p ys
prefix-each p [] ys h = sym (zero-add (prefix_len p ys))
prefix-each p (x ∷ xs) ys h =
    let ih : prefix_len p (xs ++ ys) ≡ length xs + prefix_len p ys = prefix-each p xs ys h.1 in
    rw h.0 (omega arith)

prefix-taken : {A : Type 0} (p : A → Bool) (f : Forest A) → Whole p f → prefix_len p (preorder f) ≡ length (preorder (front_trees p f))
prefix-taken p none w = refl
prefix-taken {A} p (tree a k r) w =
    (elim (p a) as (λ c. p a ≡ c → cond c (1 + prefix_len p (preorder k ++ preorder r)) 0 ≡ length (preorder (cond c (tree a k (front_trees p r)) none))) [
      | true ↦ λ e.
          let ih : prefix_len p (preorder r) ≡ length (preorder (front_trees p r)) = prefix-taken p r w.1 in
          let here : prefix_len p (preorder k ++ preorder r) ≡ length (preorder k) + prefix_len p (preorder r) = prefix-each p (preorder k) (preorder r) (w.0 e) in
          let both : length (preorder k ++ preorder (front_trees p r)) ≡ length (preorder k) + length (preorder (front_trees p r)) = length-append (preorder k) (preorder (front_trees p r)) in
          omega arith
      | false ↦ λ e. refl
    ]) refl

pub stands-build : {A : Type 0} (t : A → A → Bool) → IsTransitive t → (l : List A) → StandsFor t l (build t l)
stands-build t tr [] = refl
stands-build {A} t tr (a ∷ l) =
    let f : Forest A = build t l in
    let w : Whole (t a) f = whole-nested t tr a f (nested-build t tr l) in
    let n : length (preorder (front_trees (t a) f)) ≡ prefix_len (t a) l = sym (prefix-taken (t a) f w) ∙ ap (prefix_len (t a)) (preorder-build t l) in
    let rest : with_descendant_counts (front_trees (t a) f) ++ with_descendant_counts (trees_behind (t a) f) ≡ runs t l = sym (counted-join (front_trees (t a) f) (trees_behind (t a) f)) ∙ ap with_descendant_counts (taken-left (t a) f) ∙ stands-build t tr l in
    ap (λ m. (a, m) ∷ (with_descendant_counts (front_trees (t a) f) ++ with_descendant_counts (trees_behind (t a) f))) n ∙ ap (λ m. (a, prefix_len (t a) l) ∷ m) rest

-- under other names
pub counted-renamed : {A B : Type 0} (w : A → B) (f : Forest A) → with_descendant_counts (renamed w f) ≡ map (λ (r : A × ℕ). (w r.0, r.1)) (with_descendant_counts f)
counted-renamed w none = refl
counted-renamed {A} {B} w (tree a k r) =
    let v : A × ℕ → B × ℕ = λ q. (w q.0, q.1) in
    let n : length (preorder (renamed w k)) ≡ length (preorder k) = ap length (preorder-renamed w k) ∙ length-map (preorder k) w in
    ap (λ m. (w a, m) ∷ (with_descendant_counts (renamed w k) ++ with_descendant_counts (renamed w r))) n
    ∙ ap (λ l. (w a, length (preorder k)) ∷ l) (rw (counted-renamed w k, counted-renamed w r) (sym (map-append v (with_descendant_counts k) (with_descendant_counts r))))

-- what is front_trees is the longest run that passes

pub take-one : {X : Type 0} (m : ℕ) (x : X) (l : List X) → take (1 + m) (x ∷ l) ≡ x ∷ take m l
take-one m x l = let e : 1 + m ≡ suc m = omega arith in ap (λ n. take n (x ∷ l)) e

take-part : {X : Type 0} (xs ys : List X) (n : ℕ) → take (length xs + n) (xs ++ ys) ≡ xs ++ take n ys
take-part [] ys n = ap (λ m. take m ys) (zero-add n)
take-part (x ∷ xs) ys n =
    let e : length (x ∷ xs) + n ≡ 1 + (length xs + n) = omega arith in
    rw e (take-one (length xs + n) x (xs ++ ys) ∙ ap (λ l. x ∷ l) (take-part xs ys n))

preorder-taken : {A : Type 0} (p : A → Bool) (f : Forest A) → Whole p f → preorder (front_trees p f) ≡ take (prefix_len p (preorder f)) (preorder f)
preorder-taken p none w = refl
preorder-taken {A} p (tree a k r) w =
    (elim (p a) as (λ c. p a ≡ c → preorder (cond c (tree a k (front_trees p r)) none) ≡ take (cond c (1 + prefix_len p (preorder k ++ preorder r)) 0) (a ∷ (preorder k ++ preorder r))) [
      | true ↦ λ e.
          let here : prefix_len p (preorder k ++ preorder r) ≡ length (preorder k) + prefix_len p (preorder r) = prefix-each p (preorder k) (preorder r) (w.0 e) in
          ap (λ l. a ∷ l) (ap (λ l. preorder k ++ l) (preorder-taken p r w.1) ∙ sym (take-part (preorder k) (preorder r) (prefix_len p (preorder r))) ∙ ap (λ n. take n (preorder k ++ preorder r)) (sym here))
          ∙ sym (take-one (prefix_len p (preorder k ++ preorder r)) a (preorder k ++ preorder r))
      | false ↦ λ e. refl
    ]) refl

pub taken_run : {A : Type 0} (t : A → A → Bool) → IsTransitive t → (a : A) (l : List A) → preorder (front_trees (t a) (build t l)) ≡ take (prefix_len (t a) l) l
taken_run {A} t tr a l =
    preorder-taken (t a) (build t l) (whole-nested t tr a (build t l) (nested-build t tr l))
    ∙ ap (λ (m : List A). take (prefix_len (t a) m) m) (preorder-build t l)
