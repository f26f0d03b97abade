-- What a move changes: which slots are full, and of what.
use Rattle.std.proofs.Common.{◌≡◌, ◌≢◌, ℕ, Bool, true, false, cond, not, ◌&&◌, ◌||◌, ◌==◌, eqb, List, [], ◌∷◌, map, filter, refl, sym, ◌∙◌, ap, subst, arith}
use Rattle.std.specs.List.{AllByRecursion as Each, list_any, IsDistinct}
use Rattle.std.proofs.lemmas.Bool.Decides.{nat_tests}
use Rattle.cap_core.specs.declared.capability.Cap.{Cap}
use Rattle.kernel_forest.specs.Forest.{Forest, preorder}
use Rattle.kernel_forest.specs.Entries.{Entry, entry, is_at, is_full, cap_at, slots}
use Rattle.kernel_forest.specs.Derivation.{moved}
use Rattle.kernel_forest.proofs.Trees.Forests.{each-weaker}
use Rattle.kernel_forest.proofs.Trees.Built.{preorder-renamed}
use Rattle.kernel_forest.proofs.Slots.Holding.{cap_in-same_entries, none_stands}
use Rattle.kernel_forest.proofs.Slots.DistinctEntries.{AreDistinct, IsApartFrom, distinct-head, distinct-tail, distinct-cons, distinct-nil}
use Rattle.kernel_forest.proofs.Trees.Renamed.{each-map, each-renamed}

-- the entry in its slot after the move
abbrev pub moved_entry : ℕ → ℕ → Cap → Entry → Entry
moved_entry source slot cap e = cond (is_at source e) (entry slot cap e.original) e

pub preorder-moved : (source slot : ℕ) (cap : Cap) (f : Forest Entry) → preorder (moved source slot cap f) ≡ map (moved_entry source slot cap) (preorder f)
preorder-moved source slot cap f = preorder-renamed (moved_entry source slot cap) f

-- which entries there are, and what holds of each

pub each-moved : (P : Entry → Type 0) (source slot : ℕ) (cap : Cap) (f : Forest Entry) → Each P (preorder f) → ((original : Bool) → P (entry slot cap original)) → Each P (preorder (moved source slot cap f))
each-moved P source slot cap f h k =
    each-renamed P (moved_entry source slot cap) f (each-weaker P (λ e. P (moved_entry source slot cap e)) one (preorder f) h)
  where
    one : (e : Entry) → P e → P (moved_entry source slot cap e)
    one e g = elim (is_at source e) as (λ c. P (cond c (entry slot cap e.original) e)) [ true ↦ k e.original | false ↦ g ]

-- which slots are full

at_source : (s m v n : Bool) → (s || ((m && s) || (not v && n))) ≡ (s || (not v && (v || n)))
at_source true m v n = refl
at_source false true true n = refl
at_source false true false n = refl
at_source false false true n = refl
at_source false false false n = refl

elsewhere : (u v x n : Bool) → (u ≡ true → v ≡ false) → (u || (x || (not v && n))) ≡ (x || (not v && (u || n)))
elsewhere false v x n h = refl
elsewhere true v true n h = refl
elsewhere true v false n h = rw (h refl) refl

any_moved : (a source slot : ℕ) (cap : Cap) (l : List Entry) → list_any (is_at a) (map (moved_entry source slot cap) l) ≡ ((list_any (is_at source) l && (slot == a)) || (not (source == a) && list_any (is_at a) l))
any_moved a source slot cap [] = no (source == a)
  where
    no : (b : Bool) → false ≡ (not b && false)
    no true = refl
    no false = refl
any_moved a source slot cap (e ∷ l) =
    (elim (e.slot == source) as (λ c. (e.slot == source) ≡ c → (is_at a (cond c (entry slot cap e.original) e) || list_any (is_at a) (map (moved_entry source slot cap) l)) ≡ (((c || list_any (is_at source) l) && (slot == a)) || (not (source == a) && ((e.slot == a) || list_any (is_at a) l)))) [
      | true ↦ λ t. rw (any_moved a source slot cap l, same e.slot source a t) (at_source (slot == a) (list_any (is_at source) l) (source == a) (list_any (is_at a) l))
      | false ↦ λ t. rw (any_moved a source slot cap l) (elsewhere (e.slot == a) (source == a) (list_any (is_at source) l && (slot == a)) (list_any (is_at a) l) (other e.slot source a t))
    ]) refl
  where
    same : (i source a : ℕ) → (i == source) ≡ true → (i == a) ≡ (source == a)
    same i source a t = grind (arith, nat_tests)

    other : (i source a : ℕ) → (i == source) ≡ false → (i == a) ≡ true → (source == a) ≡ false
    other i source a t u = grind (arith, nat_tests)

-- a full slot is none that is empty
pub full_differs : (source slot : ℕ) (f : Forest Entry) → is_full source f ≡ true → is_full slot f ≡ false → (slot == source) ≡ false
full_differs source slot f h k =
    (elim (slot == source) as (λ c. (slot == source) ≡ c → c ≡ false) [
      | true ↦ λ t. absurd (let P : ℕ → Type 0 = λ n. is_full n f ≡ true in let g : is_full slot f ≡ true = subst P (same slot source t) h in cc)
      | false ↦ λ t. refl
    ]) refl
  where
    same : (i j : ℕ) → (i == j) ≡ true → j ≡ i
    same i j t = grind (arith, nat_tests)

-- what they hold

entries-moved : (a source slot : ℕ) (cap : Cap) → a ≢ source → a ≢ slot → (l : List Entry) → filter (is_at a) (map (moved_entry source slot cap) l) ≡ filter (is_at a) l
entries-moved a source slot cap h k [] = refl
entries-moved a source slot cap h k (e ∷ l) =
    (elim (e.slot == source) as (λ c. (e.slot == source) ≡ c → filter (is_at a) (cond c (entry slot cap e.original) e ∷ map (moved_entry source slot cap) l) ≡ filter (is_at a) (e ∷ l)) [
      | true ↦ λ t. rw (there a slot k, here e.slot source a t h) (entries-moved a source slot cap h k l)
      | false ↦ λ t. ap (λ m. cond (e.slot == a) (e ∷ m) m) (entries-moved a source slot cap h k l)
    ]) refl
  where
    there : (a slot : ℕ) → a ≢ slot → (slot == a) ≡ false
    there a slot k = grind (arith, nat_tests)

    here : (i source a : ℕ) → (i == source) ≡ true → a ≢ source → (i == a) ≡ false
    here i source a t h = grind (arith, nat_tests)

pub cap-moved_other : (a source slot : ℕ) (cap : Cap) (f : Forest Entry) → a ≢ source → a ≢ slot → cap_at (moved source slot cap f) a ≡ cap_at f a
cap-moved_other a source slot cap f h k =
    cap_in-same_entries a (preorder (moved source slot cap f)) (preorder f) (ap (filter (is_at a)) (preorder-moved source slot cap f) ∙ entries-moved a source slot cap h k (preorder f))

-- slots stay distinct

distinct_moved : (source slot : ℕ) (cap : Cap) (l : List Entry) → AreDistinct l → Each (λ (e : Entry). (e.slot == slot) ≡ false) l → AreDistinct (map (moved_entry source slot cap) l)
distinct_moved source slot cap [] d n = distinct-nil
distinct_moved source slot cap (e ∷ l) d n =
    distinct-cons (moved_entry source slot cap e) (map (moved_entry source slot cap) l)
    (each-map (λ (y : Entry). eqb (moved_entry source slot cap e).slot y.slot ≡ false) (moved_entry source slot cap) l (each l (distinct-head e l d) n.1))
    (distinct_moved source slot cap l (distinct-tail e l d) n.1)
  where
    far : (i j slot source : ℕ) → eqb i j ≡ false → (i == slot) ≡ false → (j == slot) ≡ false → eqb (cond (i == source) slot i) (cond (j == source) slot j) ≡ false
    far i j slot source h m n =
        (elim (i == source) as (λ c. (i == source) ≡ c → eqb (cond c slot i) (cond (j == source) slot j) ≡ false) [
          | true ↦ λ t. (elim (j == source) as (λ b. (j == source) ≡ b → eqb slot (cond b slot j) ≡ false) [
            | true ↦ λ u. absurd (both t u)
            | false ↦ λ u. swap j n
          ]) refl
          | false ↦ λ t. (elim (j == source) as (λ b. (j == source) ≡ b → eqb i (cond b slot j) ≡ false) [
            | true ↦ λ u. m
            | false ↦ λ u. h
          ]) refl
        ]) refl
      where
        both : (i == source) ≡ true → (j == source) ≡ true → ⊥
        both t u = grind (arith, nat_tests)

        swap : (j : ℕ) → (j == slot) ≡ false → eqb slot j ≡ false
        swap j n = grind (arith, nat_tests)

    slot_of : (y : Entry) → (moved_entry source slot cap y).slot ≡ cond (y.slot == source) slot y.slot
    slot_of y = elim (y.slot == source) as (λ c. (cond c (entry slot cap y.original) y).slot ≡ cond c slot y.slot) [ true ↦ refl | false ↦ refl ]

    each : (m : List Entry) → IsApartFrom m e → Each (λ (y : Entry). (y.slot == slot) ≡ false) m → Each (λ (y : Entry). eqb (moved_entry source slot cap e).slot (moved_entry source slot cap y).slot ≡ false) m
    each [] h k = tt
    each (y ∷ m) h k = (ap (λ i. eqb i (moved_entry source slot cap y).slot) (slot_of e) ∙ ap (λ j. eqb (cond (e.slot == source) slot e.slot) j) (slot_of y) ∙ far e.slot y.slot slot source h.0 n.0 k.0, each m h.1 k.1)

pub distinct-moved : (source slot : ℕ) (cap : Cap) (f : Forest Entry) → IsDistinct eqb (slots f) → is_full slot f ≡ false → IsDistinct eqb (slots (moved source slot cap f))
distinct-moved source slot cap f d k =
    subst AreDistinct (sym (preorder-moved source slot cap f)) (distinct_moved source slot cap (preorder f) d (none_stands slot (preorder f) k))
