-- A forest that several leave at once: its preorder, one set after another, and the one that leaves alone.
use Rattle.std.proofs.Common.{◌≡◌, Bool, true, false, not, ◌||◌, refl, arith}
use Rattle.std.specs.List.{filter}
use Rattle.std.proofs.lemmas.List.Elements.{filter-append}
use Rattle.kernel_forest.specs.Forest.{Forest, none, tree, preorder, join, out}
use Rattle.kernel_forest.specs.Without.{without}
use Rattle.kernel_forest.proofs.Trees.Forests.{preorder-join, each-left_part, each-right_part}
use Rattle.kernel_forest.proofs.Trees.Built.{Absent, Once, once-right_part, join-assoc}
use Rattle.kernel_forest.proofs.Trees.Lines.{once-left_part}

pub without-join : {A : Type 0} (p : A → Bool) (f g : Forest A) → without p (join f g) ≡ join (without p f) (without p g)
without-join p none g = refl
without-join p (tree a k r) g = step p a k r g (without-join p r g)
  where
    step : {A : Type 0} (p : A → Bool) (a : A) (k r g : Forest A) → without p (join r g) ≡ join (without p r) (without p g)
        → without p (join (tree a k r) g) ≡ join (without p (tree a k r)) (without p g)
    step p a k r g h = grind (arith, join-assoc)

-- one set after another is both at once
pub without-without : {A : Type 0} (p q : A → Bool) (f : Forest A) → without p (without q f) ≡ without (λ a. q a || p a) f
without-without p q none = refl
without-without p q (tree a k r) = step p q a k r (without-without p q k) (without-without p q r)
  where
    step : {A : Type 0} (p q : A → Bool) (a : A) (k r : Forest A) → without p (without q k) ≡ without (λ a. q a || p a) k
        → without p (without q r) ≡ without (λ a. q a || p a) r → without p (without q (tree a k r)) ≡ without (λ a. q a || p a) (tree a k r)
    step p q a k r h g = grind (arith, without-join)

-- where none passes, nothing changes
pub without_absent : {A : Type 0} (p : A → Bool) (f : Forest A) → Absent p (preorder f) → without p f ≡ f
without_absent p none h = refl
without_absent p (tree a k r) h =
    rw (h.0, without_absent p k (each-left_part (λ b. p b ≡ false) (preorder k) (preorder r) h.1), without_absent p r (each-right_part (λ b. p b ≡ false) (preorder k) (preorder r) h.1))

pub preorder-without : {A : Type 0} (p : A → Bool) (f : Forest A) → preorder (without p f) ≡ filter (λ a. not (p a)) (preorder f)
preorder-without p none = refl
preorder-without p (tree a k r) = step p a k r (preorder-without p k) (preorder-without p r)
  where
    step : {A : Type 0} (p : A → Bool) (a : A) (k r : Forest A) → preorder (without p k) ≡ filter (λ a. not (p a)) (preorder k)
        → preorder (without p r) ≡ filter (λ a. not (p a)) (preorder r) → preorder (without p (tree a k r)) ≡ filter (λ a. not (p a)) (preorder (tree a k r))
    step p a k r h g =
        let e = filter-append (λ a. not (p a)) (preorder k) (preorder r) in
        let j = preorder-join (without p k) (without p r) in
        grind arith

-- where at most one passes, to take out that one is to take out all
pub out_once : {A : Type 0} (p : A → Bool) (f : Forest A) → Once p (preorder f) → out p f ≡ without p f
out_once p none h = refl
out_once {A} p (tree a k r) h =
    let hk : out p k ≡ without p k = out_once p k (once-left_part p (preorder k) (preorder r) h.1) in
    let hr : out p r ≡ without p r = out_once p r (once-right_part p (preorder k) (preorder r) h.1) in
    step hk hr (λ e. without_absent p k (each-left_part (λ b. p b ≡ false) (preorder k) (preorder r) (h.0 e))) (λ e. without_absent p r (each-right_part (λ b. p b ≡ false) (preorder k) (preorder r) (h.0 e)))
  where
    step : out p k ≡ without p k → out p r ≡ without p r → (p a ≡ true → without p k ≡ k) → (p a ≡ true → without p r ≡ r) → out p (tree a k r) ≡ without p (tree a k r)
    step x y z w = grind arith
