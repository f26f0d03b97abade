-- Lists of entries with distinct slots: their parts, and one with an entry more.
use Rattle.std.proofs.Common.{◌≡◌, ℕ, false, ◌==◌, eqb, List, [], ◌∷◌, ◌++◌, map, sym, subst, arith}
use Rattle.std.specs.List.{AllByRecursion as Each, list_any, IsDistinct}
use Rattle.std.proofs.lemmas.Bool.Decides.{nat_tests}
use Rattle.kernel_forest.specs.Entries.{Entry, is_at}
use Rattle.kernel_forest.proofs.Trees.Forests.{each-append, each-left_part, each-right_part, each-weaker}
use Rattle.kernel_forest.proofs.Slots.Distinct.{IsInserted}
use Rattle.kernel_forest.proofs.Slots.Holding.{none_stands}

-- no two of a list have one slot
abbrev pub AreDistinct : List Entry → Type 0
AreDistinct l = IsDistinct eqb (map (λ (e : Entry). e.slot) l)

-- an entry has another slot than each of a list
abbrev pub IsApartFrom : List Entry → Entry → Type 0
IsApartFrom l x = Each (λ (y : Entry). eqb x.slot y.slot ≡ false) l

to_slots : (x : ℕ) (l : List Entry) → Each (λ (y : Entry). eqb x y.slot ≡ false) l → Each (λ j. eqb x j ≡ false) (map (λ (e : Entry). e.slot) l)
to_slots x [] h = tt
to_slots x (y ∷ l) h = (h.0, to_slots x l h.1)

of_slots : (x : ℕ) (l : List Entry) → Each (λ j. eqb x j ≡ false) (map (λ (e : Entry). e.slot) l) → Each (λ (y : Entry). eqb x y.slot ≡ false) l
of_slots x [] h = tt
of_slots x (y ∷ l) h = (h.0, of_slots x l h.1)

pub distinct-head : (x : Entry) (l : List Entry) → AreDistinct (x ∷ l) → IsApartFrom l x
unfolding IsDistinct
distinct-head x l d = of_slots x.slot l d.0

pub distinct-tail : (x : Entry) (l : List Entry) → AreDistinct (x ∷ l) → AreDistinct l
unfolding IsDistinct
distinct-tail x l d = d.1

pub distinct-cons : (x : Entry) (l : List Entry) → IsApartFrom l x → AreDistinct l → AreDistinct (x ∷ l)
unfolding IsDistinct
distinct-cons x l h d = (to_slots x.slot l h, d)

pub distinct-nil : AreDistinct []
unfolding IsDistinct
distinct-nil = tt

pub distinct-left : (xs ys : List Entry) → AreDistinct (xs ++ ys) → AreDistinct xs
distinct-left [] ys d = distinct-nil
distinct-left (x ∷ xs) ys d =
    distinct-cons x xs (each-left_part (λ (y : Entry). eqb x.slot y.slot ≡ false) xs ys (distinct-head x (xs ++ ys) d)) (distinct-left xs ys (distinct-tail x (xs ++ ys) d))

pub distinct-right : (xs ys : List Entry) → AreDistinct (xs ++ ys) → AreDistinct ys
distinct-right [] ys d = d
distinct-right (x ∷ xs) ys d = distinct-right xs ys (distinct-tail x (xs ++ ys) d)

pub distinct-across : (xs ys : List Entry) → AreDistinct (xs ++ ys) → Each (IsApartFrom ys) xs
distinct-across [] ys d = tt
distinct-across (x ∷ xs) ys d =
    (each-right_part (λ (y : Entry). eqb x.slot y.slot ≡ false) xs ys (distinct-head x (xs ++ ys) d), distinct-across xs ys (distinct-tail x (xs ++ ys) d))

pub distinct-append : (xs ys : List Entry) → AreDistinct xs → AreDistinct ys → Each (IsApartFrom ys) xs → AreDistinct (xs ++ ys)
distinct-append [] ys d e h = e
distinct-append (x ∷ xs) ys d e h =
    distinct-cons x (xs ++ ys) (each-append (λ (y : Entry). eqb x.slot y.slot ≡ false) xs ys (distinct-head x xs d) h.0) (distinct-append xs ys (distinct-tail x xs d) e h.1)

-- an entry at an empty slot more

apart_of : (x : Entry) (l : List Entry) → list_any (is_at x.slot) l ≡ false → IsApartFrom l x
apart_of x l h = each-weaker (λ (e : Entry). (e.slot == x.slot) ≡ false) (λ (y : Entry). eqb x.slot y.slot ≡ false) (λ e n. swap x.slot e.slot n) l (none_stands x.slot l h)
  where
    swap : (i j : ℕ) → (j == i) ≡ false → eqb i j ≡ false
    swap i j h = grind (arith, nat_tests)

pub distinct-inserted : (x : Entry) (l m : List Entry) → IsInserted x l m → AreDistinct l → list_any (is_at x.slot) l ≡ false → AreDistinct m
distinct-inserted x l m i d h =
    let d' : AreDistinct (i.front ++ i.rest) = subst AreDistinct i.old d in
    let Q : List Entry → Type 0 = λ k. IsApartFrom k x in
    let apart : IsApartFrom (i.front ++ i.rest) x = subst Q i.old (apart_of x l h) in
    let to_front : IsApartFrom i.front x = each-left_part (λ (y : Entry). eqb x.slot y.slot ≡ false) i.front i.rest apart in
    let to_rest : IsApartFrom i.rest x = each-right_part (λ (y : Entry). eqb x.slot y.slot ≡ false) i.front i.rest apart in
    subst AreDistinct (sym i.new)
    (distinct-append i.front (x ∷ i.rest) (distinct-left i.front i.rest d') (distinct-cons x i.rest to_rest (distinct-right i.front i.rest d'))
    (both i.front i.rest (distinct-across i.front i.rest d') to_front))
  where
    swap : (i j : ℕ) → eqb i j ≡ false → eqb j i ≡ false
    swap i j h = grind (arith, nat_tests)

    both : (front rest : List Entry) → Each (IsApartFrom rest) front → IsApartFrom front x → Each (IsApartFrom (x ∷ rest)) front
    both [] rest g k = tt
    both (y ∷ front) rest g k = ((swap x.slot y.slot k.0, g.0), both front rest g.1 k.1)
