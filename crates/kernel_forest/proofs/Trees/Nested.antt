-- Transitive tests: what is built with one is nested, each passing the test of each above it.
use Rattle.std.proofs.Common.{◌≡◌, Bool, true, false, cond, List, [], ◌∷◌, refl}
use Rattle.std.specs.List.{AllByRecursion as Each}
use Rattle.kernel_forest.specs.Forest.{Forest, none, tree, preorder, front_trees, trees_behind, build}
use Rattle.kernel_forest.proofs.Trees.Forests.{each-append, each-weaker}

-- the test is transitive
abbrev pub IsTransitive : {A : Type 0} → (A → A → Bool) → Type 0
IsTransitive {A} t = (a b c : A) → t a b ≡ true → t b c ≡ true → t a c ≡ true

-- each passes the test of each above it
abbrev pub Nested : {A : Type 0} → (A → A → Bool) → Forest A → Type 0
Nested t none = Unit {0}
Nested t (tree a k r) = Each (λ b. t a b ≡ true) (preorder k) × Nested t k × Nested t r

-- where a top passes, all below it pass
abbrev pub Whole : {A : Type 0} → (A → Bool) → Forest A → Type 0
Whole p none = Unit {0}
Whole p (tree a k r) = (p a ≡ true → Each (λ b. p b ≡ true) (preorder k)) × Whole p r

-- of a nested forest, where a passes what passes
pub whole-nested : {A : Type 0} (t : A → A → Bool) → IsTransitive t → (a : A) (f : Forest A) → Nested t f → Whole (t a) f
whole-nested t tr a none n = tt
whole-nested {A} t tr a (tree b k r) n =
    ((λ e. each-weaker (λ c. t b c ≡ true) (λ c. t a c ≡ true) (λ c h. tr a b c e h) (preorder k) n.0), whole-nested t tr a r n.2)

pub each-taken : {A : Type 0} (p : A → Bool) (f : Forest A) → Whole p f → Each (λ c. p c ≡ true) (preorder (front_trees p f))
each-taken p none w = tt
each-taken {A} p (tree b k r) w =
    (elim (p b) as (λ c. p b ≡ c → Each (λ x. p x ≡ true) (preorder (cond c (tree b k (front_trees p r)) none))) [
      | true ↦ λ e. (e, each-append (λ x. p x ≡ true) (preorder k) (preorder (front_trees p r)) (w.0 e) (each-taken p r w.1))
      | false ↦ λ e. tt
    ]) refl

pub nested-taken : {A : Type 0} (t : A → A → Bool) (p : A → Bool) (f : Forest A) → Nested t f → Nested t (front_trees p f)
nested-taken t p none n = tt
nested-taken t p (tree b k r) n =
    elim (p b) as (λ c. Nested t (cond c (tree b k (front_trees p r)) none)) [ true ↦ (n.0, n.1, nested-taken t p r n.2) | false ↦ tt ]

pub nested-left : {A : Type 0} (t : A → A → Bool) (p : A → Bool) (f : Forest A) → Nested t f → Nested t (trees_behind p f)
nested-left t p none n = tt
nested-left t p (tree b k r) n =
    elim (p b) as (λ c. Nested t (cond c (trees_behind p r) (tree b k r))) [ true ↦ nested-left t p r n.2 | false ↦ n ]

pub nested-build : {A : Type 0} (t : A → A → Bool) → IsTransitive t → (l : List A) → Nested t (build t l)
nested-build t tr [] = tt
nested-build t tr (a ∷ l) =
    let n : Nested t (build t l) = nested-build t tr l in
    (each-taken (t a) (build t l) (whole-nested t tr a (build t l) n), nested-taken t (t a) (build t l) n, nested-left t (t a) (build t l) n)
