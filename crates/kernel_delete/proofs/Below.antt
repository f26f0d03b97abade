-- What stands below and above those that stay, where others have left.
use Rattle.std.proofs.Common.{◌≡◌, Bool, true, false, not, cond, ◌||◌, List, [], ◌∷◌, ◌++◌, filter, refl, sym, ◌∙◌, ap, subst, arith, append_assoc}
use Rattle.std.specs.List.{list_any}
use Rattle.std.proofs.lemmas.List.Folds.{list_any-append}
use Rattle.std.proofs.lemmas.List.Elements.{filter-append}
use Rattle.kernel_forest.specs.Forest.{Forest, none, tree, preorder, join, below_those, has, ancestors}
use Rattle.kernel_forest.proofs.Trees.Built.{join-assoc, join-nothing}
use Rattle.kernel_forest.proofs.Trees.Forests.{preorder-join}
use Rattle.kernel_delete.specs.Members.{OneAtMost}
use Rattle.kernel_forest.specs.Without.{without}
use Rattle.kernel_delete.proofs.Without.{without-join, preorder-without, one-left, one-right}
use Rattle.kernel_delete.proofs.Orders.{one-filter}

-- where none passes

below_absent : {A : Type 0} (q : A → Bool) (f : Forest A) → list_any q (preorder f) ≡ false → below_those q f ≡ none
below_absent q none h = refl
below_absent q (tree a k r) h = step q a k r (below_absent q k) (below_absent q r) h
  where
    step : {A : Type 0} (q : A → Bool) (a : A) (k r : Forest A) → (list_any q (preorder k) ≡ false → below_those q k ≡ none) → (list_any q (preorder r) ≡ false → below_those q r ≡ none)
        → list_any q (preorder (tree a k r)) ≡ false → below_those q (tree a k r) ≡ none
    step q a k r f g h =
        let e = list_any-append q (preorder k) (preorder r) in
        grind arith

has_any : {A : Type 0} (q : A → Bool) (f : Forest A) → has q f ≡ list_any q (preorder f)
has_any q none = refl
has_any q (tree a k r) = ap (λ b. q a || b) (rw (has_any q k, has_any q r) (sym (list_any-append q (preorder k) (preorder r))))

ancestors_absent : {A : Type 0} (q : A → Bool) (f : Forest A) → has q f ≡ false → ancestors q f ≡ []
ancestors_absent q none h = refl
ancestors_absent q (tree a k r) h = step q a k r (ancestors_absent q k) (ancestors_absent q r) h
  where
    step : {A : Type 0} (q : A → Bool) (a : A) (k r : Forest A) → (has q k ≡ false → ancestors q k ≡ []) → (has q r ≡ false → ancestors q r ≡ [])
        → has q (tree a k r) ≡ false → ancestors q (tree a k r) ≡ []
    step q a k r f g h = grind arith

-- two forests side by side

one-split : {A : Type 0} (q : A → Bool) (a : A) (k r g : List A) → OneAtMost q ((a ∷ (k ++ r)) ++ g) → OneAtMost q (a ∷ (k ++ (r ++ g)))
one-split {A} q a k r g o = let P : List A → Type 0 = λ l. OneAtMost q (a ∷ l) in subst P (append_assoc k r g) o

below_those-join : {A : Type 0} (q : A → Bool) (f g : Forest A) → OneAtMost q (preorder f ++ preorder g) → below_those q (join f g) ≡ join (below_those q f) (below_those q g)
below_those-join q none g o = refl
below_those-join {A} q (tree a k r) g o =
    let o' = one-split q a (preorder k) (preorder r) (preorder g) o in
    let ih : below_those q (join r g) ≡ join (below_those q r) (below_those q g) = below_those-join q r g (one-right q (preorder k) (preorder r ++ preorder g) o'.1) in
    (elim (q a) as (λ c. q a ≡ c → cond c k (join (below_those q k) (below_those q (join r g))) ≡ join (cond c k (join (below_those q k) (below_those q r))) (below_those q g)) [
      | true ↦ λ e.
          let n : below_those q g ≡ none = below_absent q g (right_none (preorder k) (preorder r) (preorder g) (o'.0 e)) in
          sym (ap (join k) n ∙ join-nothing k)
      | false ↦ λ e. ap (join (below_those q k)) ih ∙ sym (join-assoc (below_those q k) (below_those q r) (below_those q g))
    ]) refl
  where
    right_none : (k r g : List A) → list_any q (k ++ (r ++ g)) ≡ false → list_any q g ≡ false
    right_none k r g h =
        let e = list_any-append q k (r ++ g) in
        let d = list_any-append q r g in
        grind arith

has-join : {A : Type 0} (q : A → Bool) (f g : Forest A) → has q (join f g) ≡ (has q f || has q g)
has-join q f g = has_any q (join f g) ∙ ap (list_any q) (preorder-join f g) ∙ list_any-append q (preorder f) (preorder g) ∙ rw (has_any q f, has_any q g) refl

ancestors-join : {A : Type 0} (q : A → Bool) (f g : Forest A) → OneAtMost q (preorder f ++ preorder g) → ancestors q (join f g) ≡ cond (has q f) (ancestors q f) (ancestors q g)
ancestors-join q none g o = refl
ancestors-join {A} q (tree a k r) g o =
    let o' = one-split q a (preorder k) (preorder r) (preorder g) o in
    step q a k r g (ancestors-join q r g (one-right q (preorder k) (preorder r ++ preorder g) o'.1))
    (λ e. (right_none (preorder k) (preorder r) (preorder g) (o'.0 e), tail_none (preorder k) (preorder r) (preorder g) (o'.0 e)))
  where
    right_none : (k r g : List A) → list_any q (k ++ (r ++ g)) ≡ false → list_any q r ≡ false
    right_none k r g h =
        let e = list_any-append q k (r ++ g) in
        let d = list_any-append q r g in
        grind arith

    tail_none : (k r g : List A) → list_any q (k ++ (r ++ g)) ≡ false → list_any q g ≡ false
    tail_none k r g h =
        let e = list_any-append q k (r ++ g) in
        let d = list_any-append q r g in
        grind arith

    step : {A : Type 0} (q : A → Bool) (a : A) (k r g : Forest A) → ancestors q (join r g) ≡ cond (has q r) (ancestors q r) (ancestors q g)
        → (q a ≡ true → (list_any q (preorder r) ≡ false) × (list_any q (preorder g) ≡ false)) → ancestors q (join (tree a k r) g) ≡ cond (has q (tree a k r)) (ancestors q (tree a k r)) (ancestors q g)
    step q a k r g ih h =
        (elim (has q k) as (λ c. cond c (a ∷ ancestors q k) (ancestors q (join r g)) ≡ cond (q a || (c || has q r)) (cond c (a ∷ ancestors q k) (ancestors q r)) (ancestors q g)) [
          | true ↦ (elim (q a) as (λ c. a ∷ ancestors q k ≡ cond (c || true) (a ∷ ancestors q k) (ancestors q g)) [ true ↦ refl | false ↦ refl ])
          | false ↦ (elim (q a) as (λ c. q a ≡ c → ancestors q (join r g) ≡ cond (c || has q r) (ancestors q r) (ancestors q g)) [
            | true ↦ λ e.
                let nr : has q r ≡ false = has_any q r ∙ (h e).0 in
                let ng : has q g ≡ false = has_any q g ∙ (h e).1 in
                ih ∙ rw nr (ancestors_absent q g ng ∙ sym (ancestors_absent q r nr))
            | false ↦ λ e. ih
          ]) refl
        ])

-- where none of those that leave is looked for

any-filter : {A : Type 0} (q t : A → Bool) → ((a : A) → q a ≡ true → t a ≡ false) → (l : List A) → list_any q (filter (λ a. not (t a)) l) ≡ list_any q l
any-filter q t h [] = refl
any-filter {A} q t h (a ∷ l) =
    (elim (t a) as (λ y. t a ≡ y → list_any q (cond (not y) (a ∷ filter (λ b. not (t b)) l) (filter (λ b. not (t b)) l)) ≡ (q a || list_any q l)) [
      | true ↦ λ e. any-filter q t h l ∙ sym (ap (λ b. b || list_any q l) (not_q e))
      | false ↦ λ e. ap (λ b. q a || b) (any-filter q t h l)
    ]) refl
  where
    not_q : t a ≡ true → q a ≡ false
    not_q e = (elim (q a) as (λ c. q a ≡ c → c ≡ false) [ true ↦ λ x. absurd (let z : true ≡ false = sym e ∙ h a x in cc) | false ↦ λ x. refl ]) refl

pub has-without : {A : Type 0} (q t : A → Bool) → ((a : A) → q a ≡ true → t a ≡ false) → (f : Forest A) → has q (without t f) ≡ has q f
has-without q t h f = has_any q (without t f) ∙ ap (list_any q) (preorder-without t f) ∙ any-filter q t h (preorder f) ∙ sym (has_any q f)

one-both : {A : Type 0} (q t : A → Bool) (k r : Forest A) → OneAtMost q (preorder k ++ preorder r) → OneAtMost q (preorder (without t k) ++ preorder (without t r))
one-both {A} q t k r o =
    let P : List A → Type 0 = OneAtMost q in
    subst P (filter-append (λ a. not (t a)) (preorder k) (preorder r) ∙ rw (preorder-without t k, preorder-without t r) refl) (one-filter q (λ a. not (t a)) (preorder k ++ preorder r) o)

not_both : (x y : Bool) → (x ≡ true → y ≡ false) → y ≡ true → x ≡ false
not_both true y h e = let z : true ≡ false = sym e ∙ h refl in cc
not_both false y h e = refl

-- what stands below one that stays is what stood below it and stays
pub below_those-without : {A : Type 0} (q t : A → Bool) → ((a : A) → q a ≡ true → t a ≡ false) → (f : Forest A) → OneAtMost q (preorder f) → below_those q (without t f) ≡ without t (below_those q f)
below_those-without q t h none o = refl
below_those-without {A} q t h (tree a k r) o =
    let ik : below_those q (without t k) ≡ without t (below_those q k) = below_those-without q t h k (one-left q (preorder k) (preorder r) o.1) in
    let ir : below_those q (without t r) ≡ without t (below_those q r) = below_those-without q t h r (one-right q (preorder k) (preorder r) o.1) in
    let both : join (below_those q (without t k)) (below_those q (without t r)) ≡ without t (join (below_those q k) (below_those q r)) = rw (ik, ir) (sym (without-join t (below_those q k) (below_those q r))) in
    (elim (t a) as (λ y. t a ≡ y → below_those q (cond y (join (without t k) (without t r)) (tree a (without t k) (without t r))) ≡ without t (cond (q a) k (join (below_those q k) (below_those q r)))) [
      | true ↦ λ e. below_those-join q (without t k) (without t r) (one-both q t k r o.1) ∙ both ∙ ap (λ c. without t (cond c k (join (below_those q k) (below_those q r)))) (sym (not_both (q a) (t a) (h a) e))
      | false ↦ λ e. (elim (q a) as (λ c. cond c (without t k) (join (below_those q (without t k)) (below_those q (without t r))) ≡ without t (cond c k (join (below_those q k) (below_those q r)))) [
        | true ↦ refl
        | false ↦ both
      ])
    ]) refl

-- and what stands above it, what stood above it and stays
pub ancestors-without : {A : Type 0} (q t : A → Bool) → ((a : A) → q a ≡ true → t a ≡ false) → (f : Forest A) → OneAtMost q (preorder f) → ancestors q (without t f) ≡ filter (λ a. not (t a)) (ancestors q f)
ancestors-without q t h none o = refl
ancestors-without {A} q t h (tree a k r) o =
    let ik : ancestors q (without t k) ≡ filter (λ a. not (t a)) (ancestors q k) = ancestors-without q t h k (one-left q (preorder k) (preorder r) o.1) in
    let ir : ancestors q (without t r) ≡ filter (λ a. not (t a)) (ancestors q r) = ancestors-without q t h r (one-right q (preorder k) (preorder r) o.1) in
    let hk : has q (without t k) ≡ has q k = has-without q t h k in
    (elim (t a) as (λ y. t a ≡ y → ancestors q (cond y (join (without t k) (without t r)) (tree a (without t k) (without t r))) ≡ filter (λ a. not (t a)) (cond (has q k) (a ∷ ancestors q k) (ancestors q r))) [
      | true ↦ λ e. ancestors-join q (without t k) (without t r) (one-both q t k r o.1) ∙ rw (hk, ik, ir)
          (elim (has q k) as (λ c. cond c (filter (λ a. not (t a)) (ancestors q k)) (filter (λ a. not (t a)) (ancestors q r)) ≡ filter (λ a. not (t a)) (cond c (a ∷ ancestors q k) (ancestors q r))) [ true ↦ rw e refl | false ↦ refl ])
      | false ↦ λ e. rw (hk, ik, ir)
          (elim (has q k) as (λ c. cond c (a ∷ filter (λ a. not (t a)) (ancestors q k)) (filter (λ a. not (t a)) (ancestors q r)) ≡ filter (λ a. not (t a)) (cond c (a ∷ ancestors q k) (ancestors q r))) [ true ↦ rw e refl | false ↦ refl ])
    ]) refl
