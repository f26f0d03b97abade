-- What is built of a list under new names: the same forest under the new names.
use Rattle.std.proofs.Common.{◌≡◌, Bool, List, [], ◌∷◌, map, refl, sym, subst, arith}
use Rattle.std.specs.List.{AllByRecursion as Each}
use Rattle.kernel_forest.specs.Forest.{Forest, none, tree, preorder, renamed, front_trees, trees_behind, build}
use Rattle.kernel_forest.proofs.Trees.Forests.{each-right_part}
use Rattle.kernel_forest.proofs.Trees.Built.{preorder-build}

pub taken-renamed : {A B : Type 0} (g : A → B) (q : A → Bool) (q' : B → Bool) (f : Forest A) → Each (λ b. q' (g b) ≡ q b) (preorder f) → front_trees q' (renamed g f) ≡ renamed g (front_trees q f)
taken-renamed g q q' none h = refl
taken-renamed {A} g q q' (tree a k r) h = step g q q' a k r h.0 (taken-renamed g q q' r (each-right_part (λ b. q' (g b) ≡ q b) (preorder k) (preorder r) h.1))
  where
    step : {A B : Type 0} (g : A → B) (q : A → Bool) (q' : B → Bool) (a : A) (k r : Forest A) → q' (g a) ≡ q a → front_trees q' (renamed g r) ≡ renamed g (front_trees q r) → front_trees q' (renamed g (tree a k r)) ≡ renamed g (front_trees q (tree a k r))
    step g q q' a k r e h = grind arith

pub left-renamed : {A B : Type 0} (g : A → B) (q : A → Bool) (q' : B → Bool) (f : Forest A) → Each (λ b. q' (g b) ≡ q b) (preorder f) → trees_behind q' (renamed g f) ≡ renamed g (trees_behind q f)
left-renamed g q q' none h = refl
left-renamed {A} g q q' (tree a k r) h = step g q q' a k r h.0 (left-renamed g q q' r (each-right_part (λ b. q' (g b) ≡ q b) (preorder k) (preorder r) h.1))
  where
    step : {A B : Type 0} (g : A → B) (q : A → Bool) (q' : B → Bool) (a : A) (k r : Forest A) → q' (g a) ≡ q a → trees_behind q' (renamed g r) ≡ renamed g (trees_behind q r) → trees_behind q' (renamed g (tree a k r)) ≡ renamed g (trees_behind q (tree a k r))
    step g q q' a k r e h = grind arith

abbrev pub AgreeUnder : {A B : Type 0} → (g : A → B) → (t : A → A → Bool) → (t' : B → B → Bool) → List A → Type 0
AgreeUnder g t t' [] = Unit {0}
AgreeUnder g t t' (a ∷ l) = Each (λ b. t' (g a) (g b) ≡ t a b) l × AgreeUnder g t t' l

-- new names, under which the new test says what the old one said: the same forest under the new names
pub build-renamed : {A B : Type 0} (g : A → B) (t : A → A → Bool) (t' : B → B → Bool) (l : List A) → AgreeUnder g t t' l → build t' (map g l) ≡ renamed g (build t l)
build-renamed g t t' [] h = refl
build-renamed {A} g t t' (a ∷ l) h =
    let f : Forest A = build t l in
    let ag : Each (λ b. t' (g a) (g b) ≡ t a b) (preorder f) = let P : List A → Type 0 = λ m. Each (λ b. t' (g a) (g b) ≡ t a b) m in subst P (sym (preorder-build t l)) h.0 in
    rw (build-renamed g t t' l h.1, taken-renamed g (t a) (t' (g a)) f ag, left-renamed g (t a) (t' (g a)) f ag)
