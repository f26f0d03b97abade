-- What is left where a slot is emptied.
use Rattle.std.proofs.Common.{◌≡◌, ℕ, Bool, true, false, cond, ◌||◌, eqb, List, [], ◌∷◌, ◌++◌, filter, refl, sym, subst}
use Rattle.std.specs.List.{AllByRecursion as Each, Contains, list_any, IsDistinct}
use Rattle.std.proofs.lemmas.List.Elements.{filter-append}
use Rattle.std.proofs.lemmas.List.Folds.{list_any-append}
use Rattle.kernel_forest.specs.Forest.{Forest, none, tree, preorder, join, out}
use Rattle.kernel_forest.specs.Entries.{Entry, is_at, slots}
use Rattle.kernel_forest.specs.Derivation.{emptied}
use Rattle.kernel_forest.specs.Without.{without}
use Rattle.kernel_forest.proofs.Trees.Without.{out_once}
use Rattle.kernel_forest.proofs.Trees.Forests.{each-append, each-left_part, each-right_part, each-weaker, each-contained, each-contains, preorder-join}
use Rattle.kernel_forest.proofs.Trees.Built.{Absent, Once, once-right_part}
use Rattle.kernel_forest.proofs.Slots.Distinct.{once_at}
use Rattle.kernel_forest.proofs.Slots.DistinctEntries.{AreDistinct, IsApartFrom, distinct-head, distinct-tail, distinct-cons, distinct-left, distinct-right, distinct-across, distinct-append}

-- of any forest

pub each-out : {A : Type 0} (P : A → Type 0) (is : A → Bool) (f : Forest A) → Each P (preorder f) → Each P (preorder (out is f))
each-out P is none h = tt
each-out {A} P is (tree a k r) h =
    elim (is a) as (λ c. Each P (preorder (cond c (join k r) (tree a (out is k) (out is r))))) [
      | true ↦ let Q : List A → Type 0 = Each P in subst Q (sym (preorder-join k r)) h.1
      | false ↦ (h.0, each-append P (preorder (out is k)) (preorder (out is r)) (each-out P is k (each-left_part P (preorder k) (preorder r) h.1)) (each-out P is r (each-right_part P (preorder k) (preorder r) h.1)))
    ]

pub each-out_old : {A : Type 0} (P : A → Type 0) (is : A → Bool) (f : Forest A) → Each P (preorder (out is f)) → Each (λ a. is a ≡ false → P a) (preorder f)
each-out_old P is none h = tt
each-out_old {A} P is (tree a k r) h =
    (elim (is a) as (λ c. is a ≡ c → Each P (preorder (cond c (join k r) (tree a (out is k) (out is r)))) → Each (λ b. is b ≡ false → P b) (a ∷ (preorder k ++ preorder r))) [
      | true ↦ λ t g. (
        (λ n. absurd (let m : is a ≡ true = t in cc)),
        each-weaker P (λ b. is b ≡ false → P b) (λ b p n. p) (preorder k ++ preorder r) (let Q : List A → Type 0 = Each P in subst Q (preorder-join k r) g),
      )
      | false ↦ λ t g. (
        (λ n. g.0),
        each-append (λ b. is b ≡ false → P b) (preorder k) (preorder r) (each-out_old P is k (each-left_part P (preorder (out is k)) (preorder (out is r)) g.1))
            (each-out_old P is r (each-right_part P (preorder (out is k)) (preorder (out is r)) g.1)),
      )
    ]) refl h

pub contains-out : {A : Type 0} (is : A → Bool) (f : Forest A) (e : A) → Contains (preorder (out is f)) e → Contains (preorder f) e
contains-out is f e h = each-contained (Contains (preorder f)) (preorder (out is f)) e (each-out (Contains (preorder f)) is f (each-contains (preorder f))) h

-- what passes a test that the one taken out fails
pub filter-out : {A : Type 0} (is q : A → Bool) (f : Forest A) → ((a : A) → is a ≡ true → q a ≡ false) → filter q (preorder (out is f)) ≡ filter q (preorder f)
filter-out is q none h = refl
filter-out {A} is q (tree a k r) h =
    (elim (is a) as (λ c. is a ≡ c → filter q (preorder (cond c (join k r) (tree a (out is k) (out is r)))) ≡ cond (q a) (a ∷ filter q (preorder k ++ preorder r)) (filter q (preorder k ++ preorder r))) [
      | true ↦ λ t. rw (h a t, preorder-join k r) refl
      | false ↦ λ t. rw (filter-append q (preorder (out is k)) (preorder (out is r)), filter-append q (preorder k) (preorder r), filter-out is q k h, filter-out is q r h) refl
    ]) refl

pub any-out : {A : Type 0} (is q : A → Bool) (f : Forest A) → ((a : A) → is a ≡ true → q a ≡ false) → list_any q (preorder (out is f)) ≡ list_any q (preorder f)
any-out is q none h = refl
any-out {A} is q (tree a k r) h =
    (elim (is a) as (λ c. is a ≡ c → list_any q (preorder (cond c (join k r) (tree a (out is k) (out is r)))) ≡ (q a || list_any q (preorder k ++ preorder r))) [
      | true ↦ λ t. rw (h a t, preorder-join k r) refl
      | false ↦ λ t. rw (list_any-append q (preorder (out is k)) (preorder (out is r)), list_any-append q (preorder k) (preorder r), any-out is q k h, any-out is q r h) refl
    ]) refl

-- what stands once is there no more
pub absent-out : {A : Type 0} (is : A → Bool) (f : Forest A) → Once is (preorder f) → Absent is (preorder (out is f))
absent-out is none o = tt
absent-out {A} is (tree a k r) o =
    (elim (is a) as (λ c. is a ≡ c → Absent is (preorder (cond c (join k r) (tree a (out is k) (out is r))))) [
      | true ↦ λ t. let Q : List A → Type 0 = Absent is in subst Q (sym (preorder-join k r)) (o.0 t)
      | false ↦ λ t. (t, each-append (λ b. is b ≡ false) (preorder (out is k)) (preorder (out is r)) (absent-out is k (once_left (preorder k) (preorder r) o.1)) (absent-out is r (once-right_part is (preorder k) (preorder r) o.1)))
    ]) refl
  where
    once_left : (xs ys : List A) → Once is (xs ++ ys) → Once is xs
    once_left [] ys k = tt
    once_left (x ∷ xs) ys k = ((λ e. each-left_part (λ b. is b ≡ false) xs ys (k.0 e)), once_left xs ys k.1)

-- which entries there are, and what holds of each

pub each-emptied : (P : Entry → Type 0) (slot : ℕ) (f : Forest Entry) → Each P (preorder f) → Each P (preorder (emptied slot f))
each-emptied P slot f h = each-out P (is_at slot) f h

-- which slots are full

-- what they hold

-- slots stay distinct

distinct_out : (is : Entry → Bool) (f : Forest Entry) → AreDistinct (preorder f) → AreDistinct (preorder (out is f))
distinct_out is none d = d
distinct_out is (tree a k r) d =
    let d' : AreDistinct (preorder k ++ preorder r) = distinct-tail a (preorder k ++ preorder r) d in
    elim (is a) as (λ c. AreDistinct (preorder (cond c (join k r) (tree a (out is k) (out is r))))) [
      | true ↦ subst AreDistinct (sym (preorder-join k r)) d'
      | false ↦
          let apart : IsApartFrom (preorder k ++ preorder r) a = distinct-head a (preorder k ++ preorder r) d in
          let P : Entry → Type 0 = λ y. eqb a.slot y.slot ≡ false in
          distinct-cons a (preorder (out is k) ++ preorder (out is r))
          (each-append P (preorder (out is k)) (preorder (out is r)) (each-out P is k (each-left_part P (preorder k) (preorder r) apart)) (each-out P is r (each-right_part P (preorder k) (preorder r) apart)))
          (distinct-append (preorder (out is k)) (preorder (out is r)) (distinct_out is k (distinct-left (preorder k) (preorder r) d')) (distinct_out is r (distinct-right (preorder k) (preorder r) d'))
          (each-out (IsApartFrom (preorder (out is r))) is k (each-weaker (IsApartFrom (preorder r)) (IsApartFrom (preorder (out is r))) (λ x h. each-out (λ (y : Entry). eqb x.slot y.slot ≡ false) is r h) (preorder k) (distinct-across (preorder k) (preorder r) d'))))
    ]

pub distinct-emptied : (slot : ℕ) (f : Forest Entry) → IsDistinct eqb (slots f) → IsDistinct eqb (slots (emptied slot f))
distinct-emptied slot f d = distinct_out (is_at slot) f d

-- where slots are distinct, to empty one is to take out all that stand at it
pub emptied-without : (slot : ℕ) (f : Forest Entry) → IsDistinct eqb (slots f) → emptied slot f ≡ without (is_at slot) f
emptied-without slot f d = out_once (is_at slot) f (once_at slot (preorder f) d)
