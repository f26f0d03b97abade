-- A put of a capability into an empty slot keeps the slots distinct.
use Rattle.std.proofs.Common.{◌≡◌, ℕ, Bool, true, false, cond, ◌||◌, ◌==◌, eqb, List, [], ◌∷◌, ◌++◌, map, refl, sym, ◌∙◌, ap, subst, arith, append_assoc}
use Rattle.std.specs.List.{AllByRecursion as Each, list_any, IsDistinct}
use Rattle.std.proofs.lemmas.Bool.Decides.{nat_tests}
use Rattle.std.proofs.lemmas.List.{append-nil}
use Rattle.cap_core.specs.declared.capability.Cap.{Cap}
use Rattle.kernel_forest.specs.Forest.{Forest, none, tree, preorder, below, after}
use Rattle.kernel_forest.specs.Entries.{Entry, entry, is_at, is_full, is_original, slots}
use Rattle.kernel_forest.specs.Derivation.{derived, derived_entry, rooted}
use Rattle.kernel_forest.proofs.Trees.Forests.{preorder-root}
use Rattle.kernel_forest.proofs.Trees.Lines.{any_none}
use Rattle.kernel_forest.proofs.Trees.Built.{Absent, Once, once-right_part, fixed-below, fixed-after}

-- one list is the other with x at one more place
pub record IsInserted {A : Type 0} (x : A) (l m : List A) : Type 0 where
  pub front : List A
  pub rest : List A
  pub old : l ≡ front ++ rest
  pub new : m ≡ front ++ x ∷ rest

none_later : {A : Type 0} (is : A → Bool) (xs ys : List A) → Once is (xs ++ ys) → list_any is xs ≡ true → Absent is ys
none_later is [] ys o h = cc
none_later {A} is (x ∷ xs) ys o h =
    (elim (is x) as (λ c. is x ≡ c → (c || list_any is xs) ≡ true → Absent is ys) [
      | true ↦ λ e g. right xs (o.0 e)
      | false ↦ λ e g. none_later is xs ys o.1 g
    ]) refl h
  where
    right : (zs : List A) → Absent is (zs ++ ys) → Absent is ys
    right [] k = k
    right (z ∷ zs) k = right zs k.1

any_right : {A : Type 0} (is : A → Bool) (xs ys : List A) → list_any is xs ≡ false → list_any is (xs ++ ys) ≡ true → list_any is ys ≡ true
any_right is [] ys h k = k
any_right is (x ∷ xs) ys h k =
    (elim (is x) as (λ c. (c || list_any is xs) ≡ false → (c || list_any is (xs ++ ys)) ≡ true → list_any is ys ≡ true) [
      | true ↦ λ g j. cc
      | false ↦ λ g j. any_right is xs ys g j
    ]) h k

-- put into the trees below a, or into those beside it
inserted_below : {A : Type 0} (x a : A) (k r m : List A) → IsInserted x k m → IsInserted x (a ∷ (k ++ r)) (a ∷ (m ++ r))
inserted_below x a k r m i = record {
  front = a ∷ i.front;
  rest = i.rest ++ r;
  old = ap (λ l. a ∷ l) (ap (λ l. l ++ r) i.old ∙ append_assoc i.front i.rest r);
  new = ap (λ l. a ∷ l) (ap (λ l. l ++ r) i.new ∙ append_assoc i.front (x ∷ i.rest) r);
}

inserted_beside : {A : Type 0} (x a : A) (k r m : List A) → IsInserted x r m → IsInserted x (a ∷ (k ++ r)) (a ∷ (k ++ m))
inserted_beside x a k r m i = record {
  front = a ∷ (k ++ i.front);
  rest = i.rest;
  old = ap (λ l. a ∷ l) (ap (λ l. k ++ l) i.old ∙ sym (append_assoc k i.front i.rest));
  new = ap (λ l. a ∷ l) (ap (λ l. k ++ l) i.new ∙ sym (append_assoc k i.front (x ∷ i.rest)));
}

pub inserted-below : {A : Type 0} (is : A → Bool) (x : A) (f : Forest A) → Once is (preorder f) → list_any is (preorder f) ≡ true → IsInserted x (preorder f) (preorder (below is x f))
inserted-below is x none o h = absurd (let n : false ≡ true = h in cc)
inserted-below {A} is x (tree a k r) o h =
    (elim (is a) as (λ c. (c || list_any is (preorder k ++ preorder r)) ≡ true → IsInserted x (a ∷ (preorder k ++ preorder r)) (preorder (cond c (tree a (tree x none k) r) (tree a (below is x k) (below is x r))))) [
      | true ↦ λ g. record { front = a ∷ []; rest = preorder k ++ preorder r; old = refl; new = refl }
      | false ↦ λ g. (elim (list_any is (preorder k)) as (λ d. list_any is (preorder k) ≡ d → IsInserted x (a ∷ (preorder k ++ preorder r)) (a ∷ (preorder (below is x k) ++ preorder (below is x r)))) [
        | true ↦ λ e. rw (fixed-below is x r (none_later is (preorder k) (preorder r) o.1 e)) (inserted_below x a (preorder k) (preorder r) (preorder (below is x k)) (inserted-below is x k (once_left (preorder k) (preorder r) o.1) e))
        | false ↦ λ e. rw (fixed-below is x k (any_none is (preorder k) e)) (inserted_beside x a (preorder k) (preorder r) (preorder (below is x r)) (inserted-below is x r (once-right_part is (preorder k) (preorder r) o.1) (any_right is (preorder k) (preorder r) e g)))
      ]) refl
    ]) h
  where
    left : (xs ys : List A) → Absent is (xs ++ ys) → Absent is xs
    left [] ys k = tt
    left (x ∷ xs) ys k = (k.0, left xs ys k.1)

    once_left : (xs ys : List A) → Once is (xs ++ ys) → Once is xs
    once_left [] ys k = tt
    once_left (x ∷ xs) ys k = ((λ e. left xs ys (k.0 e)), once_left xs ys k.1)

pub inserted-after : {A : Type 0} (is : A → Bool) (x : A) (f : Forest A) → Once is (preorder f) → list_any is (preorder f) ≡ true → IsInserted x (preorder f) (preorder (after is x f))
inserted-after is x none o h = absurd (let n : false ≡ true = h in cc)
inserted-after {A} is x (tree a k r) o h =
    (elim (is a) as (λ c. (c || list_any is (preorder k ++ preorder r)) ≡ true → IsInserted x (a ∷ (preorder k ++ preorder r)) (preorder (cond c (tree a k (tree x none r)) (tree a (after is x k) (after is x r))))) [
      | true ↦ λ g. record { front = a ∷ preorder k; rest = preorder r; old = refl; new = refl }
      | false ↦ λ g. (elim (list_any is (preorder k)) as (λ d. list_any is (preorder k) ≡ d → IsInserted x (a ∷ (preorder k ++ preorder r)) (a ∷ (preorder (after is x k) ++ preorder (after is x r)))) [
        | true ↦ λ e. rw (fixed-after is x r (none_later is (preorder k) (preorder r) o.1 e)) (inserted_below x a (preorder k) (preorder r) (preorder (after is x k)) (inserted-after is x k (once_left (preorder k) (preorder r) o.1) e))
        | false ↦ λ e. rw (fixed-after is x k (any_none is (preorder k) e)) (inserted_beside x a (preorder k) (preorder r) (preorder (after is x r)) (inserted-after is x r (once-right_part is (preorder k) (preorder r) o.1) (any_right is (preorder k) (preorder r) e g)))
      ]) refl
    ]) h
  where
    left : (xs ys : List A) → Absent is (xs ++ ys) → Absent is xs
    left [] ys k = tt
    left (x ∷ xs) ys k = (k.0, left xs ys k.1)

    once_left : (xs ys : List A) → Once is (xs ++ ys) → Once is xs
    once_left [] ys k = tt
    once_left (x ∷ xs) ys k = ((λ e. left xs ys (k.0 e)), once_left xs ys k.1)

-- entries with distinct slots

pub once_at : (a : ℕ) (l : List Entry) → IsDistinct eqb (map (λ (e : Entry). e.slot) l) → Once (is_at a) l
unfolding IsDistinct
once_at a [] d = tt
once_at a (e ∷ l) d = ((λ t. each l t d.0), once_at a l d.1)
  where
    other : (i j : ℕ) → (i == a) ≡ true → eqb i j ≡ false → (j == a) ≡ false
    other i j t n = grind (arith, nat_tests)

    each : (m : List Entry) → (e.slot == a) ≡ true → Each (λ j. eqb e.slot j ≡ false) (map (λ (e : Entry). e.slot) m) → Absent (is_at a) m
    each [] t n = tt
    each (y ∷ m) t n = (other e.slot y.slot t n.0, each m t n.1)

distinct_put : (x : Entry) (front rest : List Entry) → IsDistinct eqb (map (λ (e : Entry). e.slot) (front ++ rest)) → Absent (is_at x.slot) (front ++ rest)
    → IsDistinct eqb (map (λ (e : Entry). e.slot) (front ++ x ∷ rest))
unfolding IsDistinct
distinct_put x [] rest d n = (each rest n, d)
  where
    swap : (i j : ℕ) → (j == i) ≡ false → eqb i j ≡ false
    swap i j h = grind (arith, nat_tests)

    each : (m : List Entry) → Absent (is_at x.slot) m → Each (λ j. eqb x.slot j ≡ false) (map (λ (e : Entry). e.slot) m)
    each [] k = tt
    each (y ∷ m) k = (swap x.slot y.slot k.0, each m k.1)
distinct_put x (y ∷ front) rest d n = (each front d.0, distinct_put x front rest d.1 n.1)
  where
    each : (m : List Entry) → Each (λ j. eqb y.slot j ≡ false) (map (λ (e : Entry). e.slot) (m ++ rest)) → Each (λ j. eqb y.slot j ≡ false) (map (λ (e : Entry). e.slot) (m ++ x ∷ rest))
    each [] k = (n.0, k)
    each (z ∷ m) k = (k.0, each m k.1)

distinct_inserted : (x : Entry) (l m : List Entry) → IsInserted x l m → IsDistinct eqb (map (λ (e : Entry). e.slot) l) → list_any (is_at x.slot) l ≡ false
    → IsDistinct eqb (map (λ (e : Entry). e.slot) m)
distinct_inserted x l m i d h =
    let P : List Entry → Type 0 = λ k. IsDistinct eqb (map (λ (e : Entry). e.slot) k) in
    let Q : List Entry → Type 0 = Absent (is_at x.slot) in
    subst P (sym i.new) (distinct_put x i.front i.rest (subst P i.old d) (subst Q i.old (any_none (is_at x.slot) l h)))

pub distinct-rooted : (slot : ℕ) (cap : Cap) (f : Forest Entry) → IsDistinct eqb (slots f) → is_full slot f ≡ false → IsDistinct eqb (slots (rooted slot cap f))
distinct-rooted slot cap f d h =
    distinct_inserted (entry slot cap true) (preorder f) (preorder (rooted slot cap f))
    (record { front = preorder f; rest = []; old = sym (append-nil (preorder f)); new = preorder-root (entry slot cap true) f }) d h

pub distinct-derived : (source slot : ℕ) (cap : Cap) (f : Forest Entry) → IsDistinct eqb (slots f) → is_full source f ≡ true → is_full slot f ≡ false
    → IsDistinct eqb (slots (derived source slot cap f))
distinct-derived source slot cap f d s h =
    elim (is_original source f) as (λ c. IsDistinct eqb (slots (cond c (below (is_at source) (derived_entry source slot cap f) f) (after (is_at source) (derived_entry source slot cap f) f)))) [
      | true ↦ distinct_inserted (derived_entry source slot cap f) (preorder f) (preorder (below (is_at source) (derived_entry source slot cap f) f))
          (inserted-below (is_at source) (derived_entry source slot cap f) f (once_at source (preorder f) d) s) d h
      | false ↦ distinct_inserted (derived_entry source slot cap f) (preorder f) (preorder (after (is_at source) (derived_entry source slot cap f) f))
          (inserted-after (is_at source) (derived_entry source slot cap f) f (once_at source (preorder f) d) s) d h
    ]
