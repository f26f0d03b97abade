-- A forest that several leave at once: its preorder, and one set after another.
use Rattle.std.proofs.Common.{◌≡◌, Bool, true, false, not, ◌||◌, List, [], ◌∷◌, ◌++◌, refl, sym, ◌∙◌, ap, arith}
use Rattle.std.specs.List.{list_any, filter}
use Rattle.std.proofs.lemmas.List.Folds.{list_any-append}
use Rattle.std.proofs.lemmas.List.Elements.{filter-append}
use Rattle.kernel_forest.specs.Forest.{Forest, none, tree, preorder, join, out}
use Rattle.kernel_forest.specs.Without.{without}
use Rattle.kernel_delete.specs.Members.{OneAtMost}
use Rattle.kernel_forest.proofs.Trees.Forests.{preorder-join}
use Rattle.kernel_forest.proofs.Trees.Built.{join-assoc}

pub without-join : {A : Type 0} (p : A → Bool) (f g : Forest A) → without p (join f g) ≡ join (without p f) (without p g)
without-join p none g = refl
without-join p (tree a k r) g = without-join_step p a k r g (without-join p r g)
  where
    without-join_step : {A : Type 0} (p : A → Bool) (a : A) (k r g : Forest A) → without p (join r g) ≡ join (without p r) (without p g) → without p (join (tree a k r) g) ≡ join (without p (tree a k r)) (without p g)
    without-join_step p a k r g h = grind (arith, join-assoc)

-- one set after another is both at once
pub without-without : {A : Type 0} (p q : A → Bool) (f : Forest A) → without p (without q f) ≡ without (λ a. q a || p a) f
without-without p q none = refl
without-without p q (tree a k r) = without-without_step p q a k r (without-without p q k) (without-without p q r)
  where
    without-without_step : {A : Type 0} (p q : A → Bool) (a : A) (k r : Forest A) → without p (without q k) ≡ without (λ a. q a || p a) k → without p (without q r) ≡ without (λ a. q a || p a) r
        → without p (without q (tree a k r)) ≡ without (λ a. q a || p a) (tree a k r)
    without-without_step p q a k r h g = grind (arith, without-join)

-- where none passes, nothing changes
pub without_absent : {A : Type 0} (p : A → Bool) (f : Forest A) → list_any p (preorder f) ≡ false → without p f ≡ f
without_absent p none h = refl
without_absent p (tree a k r) h = without_absent_step p a k r (without_absent p k) (without_absent p r) h
  where
    without_absent_step : {A : Type 0} (p : A → Bool) (a : A) (k r : Forest A) → (list_any p (preorder k) ≡ false → without p k ≡ k) → (list_any p (preorder r) ≡ false → without p r ≡ r)
        → list_any p (preorder (tree a k r)) ≡ false → without p (tree a k r) ≡ tree a k r
    without_absent_step p a k r h g e =
        let e' : p a || (list_any p (preorder k) || list_any p (preorder r)) ≡ false = ap (λ b. p a || b) (sym (list_any-append p (preorder k) (preorder r))) ∙ e in
        grind arith

pub preorder-without : {A : Type 0} (p : A → Bool) (f : Forest A) → preorder (without p f) ≡ filter (λ a. not (p a)) (preorder f)
preorder-without p none = refl
preorder-without p (tree a k r) = preorder-without_step p a k r (preorder-without p k) (preorder-without p r)
  where
    preorder-without_step : {A : Type 0} (p : A → Bool) (a : A) (k r : Forest A) → preorder (without p k) ≡ filter (λ a. not (p a)) (preorder k) → preorder (without p r) ≡ filter (λ a. not (p a)) (preorder r)
        → preorder (without p (tree a k r)) ≡ filter (λ a. not (p a)) (preorder (tree a k r))
    preorder-without_step p a k r h g =
        let e = filter-append (λ a. not (p a)) (preorder k) (preorder r) in
        let j = preorder-join (without p k) (without p r) in
        grind arith

pub one-left : {A : Type 0} (p : A → Bool) (k r : List A) → OneAtMost p (k ++ r) → OneAtMost p k
one-left p [] r h = tt
one-left p (a ∷ k) r h = (λ e. one-left_step p k r (h.0 e), one-left p k r h.1)
  where
    one-left_step : {A : Type 0} (p : A → Bool) (k r : List A) → list_any p (k ++ r) ≡ false → list_any p k ≡ false
    one-left_step p k r h = let e = list_any-append p k r in grind arith

pub one-right : {A : Type 0} (p : A → Bool) (k r : List A) → OneAtMost p (k ++ r) → OneAtMost p r
one-right p [] r h = h
one-right p (a ∷ k) r h = one-right p k r h.1

-- where at most one passes, to take out that one is to take out all
pub out_one : {A : Type 0} (p : A → Bool) (f : Forest A) → OneAtMost p (preorder f) → out p f ≡ without p f
out_one p none h = refl
out_one p (tree a k r) h =
    out_one_step p a k r (out_one p k (one-left p (preorder k) (preorder r) h.1)) (out_one p r (one-right p (preorder k) (preorder r) h.1)) h.0
  where
    out_one_step : {A : Type 0} (p : A → Bool) (a : A) (k r : Forest A) → out p k ≡ without p k → out p r ≡ without p r → (p a ≡ true → list_any p (preorder k ++ preorder r) ≡ false)
        → out p (tree a k r) ≡ without p (tree a k r)
    out_one_step p a k r h g e =
        let j = list_any-append p (preorder k) (preorder r) in
        let x = without_absent p k in
        let y = without_absent p r in
        grind arith
