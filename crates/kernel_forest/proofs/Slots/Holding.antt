-- What a slot holds, by the entries at it.
use Rattle.std.proofs.Common.{◌≡◌, ℕ, Bool, true, false, cond, ◌||◌, ◌==◌, eqb, List, [], ◌∷◌, map, filter, refl, sym, ◌∙◌, ap, arith}
use Rattle.std.specs.List.{AllByRecursion as Each, Contains, list_any, IsDistinct}
use Rattle.std.proofs.lemmas.Bool.Decides.{nat_tests}
use Rattle.cap_core.specs.declared.capability.Cap.{Cap}
use Rattle.cap_core.specs.declared.capability.Cap.TheVariants.{Null}
use Rattle.kernel_forest.specs.Forest.{Forest, preorder}
use Rattle.kernel_forest.specs.Entries.{Entry, is_at, is_full, cap_at, cap_in, original_in, slots}
use Rattle.kernel_forest.proofs.Trees.Lines.{any_none}
use Rattle.kernel_forest.proofs.Trees.Forests.{each-contained, each-weaker}

front_false : (b c : Bool) → (b || c) ≡ false → b ≡ false
front_false true c h = h
front_false false c h = refl

rest_false : (b c : Bool) → (b || c) ≡ false → c ≡ false
rest_false true c h = cc
rest_false false c h = h

-- the same entries at a slot, the same capability

cap_in-at : (a : ℕ) (l : List Entry) → cap_in a (filter (is_at a) l) ≡ cap_in a l
cap_in-at a [] = refl
cap_in-at a (e ∷ l) =
    (elim (e.slot == a) as (λ c. (e.slot == a) ≡ c → cap_in a (cond c (e ∷ filter (is_at a) l) (filter (is_at a) l)) ≡ cond c e.cap (cap_in a l)) [
      | true ↦ λ t. rw t
      | false ↦ λ t. cap_in-at a l
    ]) refl

original_in-at : (a : ℕ) (l : List Entry) → original_in a (filter (is_at a) l) ≡ original_in a l
original_in-at a [] = refl
original_in-at a (e ∷ l) =
    (elim (e.slot == a) as (λ c. (e.slot == a) ≡ c → original_in a (cond c (e ∷ filter (is_at a) l) (filter (is_at a) l)) ≡ cond c e.original (original_in a l)) [
      | true ↦ λ t. rw t
      | false ↦ λ t. original_in-at a l
    ]) refl

pub cap_in-same_entries : (a : ℕ) (l m : List Entry) → filter (is_at a) l ≡ filter (is_at a) m → cap_in a l ≡ cap_in a m
cap_in-same_entries a l m h = sym (cap_in-at a l) ∙ ap (cap_in a) h ∙ cap_in-at a m

pub original_in-same_entries : (a : ℕ) (l m : List Entry) → filter (is_at a) l ≡ filter (is_at a) m → original_in a l ≡ original_in a m
original_in-same_entries a l m h = sym (original_in-at a l) ∙ ap (original_in a) h ∙ original_in-at a m

-- each entry at a slot has one capability, and so it holds that

pub cap_in-one : (a : ℕ) (cap : Cap) (l : List Entry) → list_any (is_at a) l ≡ true → Each (λ (e : Entry). (e.slot == a) ≡ true → e.cap ≡ cap) l → cap_in a l ≡ cap
cap_in-one a cap [] h k = cc
cap_in-one a cap (e ∷ l) h k =
    (elim (e.slot == a) as (λ c. (e.slot == a) ≡ c → (c || list_any (is_at a) l) ≡ true → cond c e.cap (cap_in a l) ≡ cap) [
      | true ↦ λ t g. k.0 t
      | false ↦ λ t g. cap_in-one a cap l g k.1
    ]) refl h

pub original_in-one : (a : ℕ) (original : Bool) (l : List Entry) → list_any (is_at a) l ≡ true → Each (λ (e : Entry). (e.slot == a) ≡ true → e.original ≡ original) l
    → original_in a l ≡ original
original_in-one a original [] h k = cc
original_in-one a original (e ∷ l) h k =
    (elim (e.slot == a) as (λ c. (e.slot == a) ≡ c → (c || list_any (is_at a) l) ≡ true → cond c e.original (original_in a l) ≡ original) [
      | true ↦ λ t g. k.0 t
      | false ↦ λ t g. original_in-one a original l g k.1
    ]) refl h

-- an empty slot

pub none_stands : (a : ℕ) (l : List Entry) → list_any (is_at a) l ≡ false → Each (λ (e : Entry). (e.slot == a) ≡ false) l
none_stands a l h = any_none (is_at a) l h

pub all_of_none : (P : Entry → Type 0) (a : ℕ) (l : List Entry) → list_any (is_at a) l ≡ false → Each (λ (e : Entry). (e.slot == a) ≡ true → P e) l
all_of_none P a l h = each-weaker (λ (e : Entry). (e.slot == a) ≡ false) (λ (e : Entry). (e.slot == a) ≡ true → P e) (λ e n t. absurd (let no' : true ≡ false = sym t ∙ n in cc)) l (none_stands a l h)

pub cap-empty : (a : ℕ) (f : Forest Entry) → is_full a f ≡ false → cap_at f a ≡ Null
cap-empty a f h = go (preorder f) h
  where
    go : (l : List Entry) → list_any (is_at a) l ≡ false → cap_in a l ≡ Null
    go [] h = refl
    go (e ∷ l) h = rw (front_false (e.slot == a) (list_any (is_at a) l) h) (go l (rest_false (e.slot == a) (list_any (is_at a) l) h))

-- where slots are distinct, a slot holds the capability of each entry at it
pub cap-entry : (f : Forest Entry) (e : Entry) → IsDistinct eqb (slots f) → Contains (preorder f) e → cap_at f e.slot ≡ e.cap
unfolding IsDistinct
cap-entry f e d m = each-contained (λ (y : Entry). cap_at f y.slot ≡ y.cap) (preorder f) e (go (preorder f) d) m
  where
    differs : (i j : ℕ) → eqb i j ≡ false → (i == j) ≡ false
    differs i j h = grind (arith, nat_tests)

    same : (i : ℕ) → (i == i) ≡ true
    same i = grind (arith, nat_tests)

    behind : (y : Entry) (l m : List Entry) → Each (λ j. eqb y.slot j ≡ false) (map (λ (e : Entry). e.slot) m) → Each (λ (z : Entry). cap_in z.slot l ≡ z.cap) m
        → Each (λ (z : Entry). cap_in z.slot (y ∷ l) ≡ z.cap) m
    behind y l [] n h = tt
    behind y l (z ∷ m) n h = (rw (differs y.slot z.slot n.0) h.0, behind y l m n.1 h.1)

    go : (l : List Entry) → IsDistinct eqb (map (λ (e : Entry). e.slot) l) → Each (λ (y : Entry). cap_in y.slot l ≡ y.cap) l
    go [] d = tt
    go (y ∷ l) d = (rw (same y.slot) refl, behind y l l d.0 (go l d.1))
