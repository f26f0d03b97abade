-- The rows of a store: where a slot's row stands, and what a further row is to the forest.
use Rattle.std.proofs.Common.{◌≡◌, ◌≢◌, ℕ, zero, suc, ◌+◌, ◌*◌, ◌<◌, ◌≤◌, Bool, true, false, cond, not, ◌&&◌, ◌||◌, ◌==◌, ltb, List, [], ◌∷◌, ◌++◌, map, length, get_or, None, refl, sym, ◌∙◌, ap, subst, arith, length-append}
use Rattle.std.specs.Prelude.{option_map}
use Rattle.std.specs.List.{AllByRecursion as Each, list_any, insert}
use Rattle.std.proofs.Math.Nat.{one-le-pow, mul-le-mul_right}
use Rattle.std.proofs.lemmas.Bool.Decides.{nat_tests}
use Rattle.cap_core.specs.declared.profile.ProfileName.{ProfileName}
use Rattle.cap_core.specs.declared.capability.Cap.{Cap}
use Rattle.cap_core.specs.declared.capability.Cap.TheVariants.{Null, Untyped, Endpoint, CNode, Tcb}
use Rattle.cap_core.specs.Numbers.{slot_bits, slot_size}
use Rattle.cap_core.specs.Objects.{is_untyped, same_object}
use Rattle.slot_core.specs.declared.slot.Slot.{Slot}
use Rattle.slot_core.specs.declared.rows.Row.{Row}
use Rattle.kernel_forest.specs.Forest.{preorder, tops, below_those, below, after, root, renamed, front_trees, build}
use Rattle.kernel_forest.specs.Entries.{Entry, entry, is_at, is_full, cap_at, cap_in, is_original, original_in, first_child, first_slot}
use Rattle.kernel_forest.specs.Derivation.{derived, rooted, retyped, is_new_original, is_last}
use Rattle.slot_core.specs.Places.{address_of}
use Rattle.slot_core.specs.Rows.{is_deeper, entry_of, forest_of, place_of, derived_depth, derived_row, names_elsewhere, IsStepwise, AreApart}
use Rattle.kernel_forest.proofs.Trees.Built.{Absent, StopsAtOnce, preorder-build, preorder-renamed, renamed-below, renamed-after, renamed-root, renamed-below_those, tops-renamed, build-below, build-after, build-root, build-below_those, tops-taken, next_passing, first_of, below_those_none}

-- slots are one where their addresses are

pub size_positive : (p : ProfileName) → 1 ≤ slot_size p
size_positive p = one-le-pow (slot_bits p) 2 (omega arith)

pub same_address : (p : ProfileName) (a b : Slot) → (address_of p a == address_of p b) ≡ (a.place == b.place)
same_address p a b = step a.place b.place (slot_size p) (size_positive p)
  where
    apart : (i j n : ℕ) → 1 ≤ n → i < j → i * n < j * n
    apart i j n h l = let d : (i + 1) * n ≤ j * n = mul-le-mul_right n (omega arith) in let e : (i + 1) * n ≡ i * n + n = grind arith in omega arith

    step : (i j n : ℕ) → 1 ≤ n → (i * n == j * n) ≡ (i == j)
    step i j n h = grind (arith, nat_tests, apart i j n h, apart j i n h)

-- the row is the slot's
abbrev pub row_is : ProfileName → Slot → Row → Bool
row_is p slot row = is_at (address_of p slot) (entry_of p row)

pub entries_of : (p : ProfileName) (l : List Row) → preorder (forest_of p l) ≡ map (entry_of p) l
entries_of p l = preorder-renamed (entry_of p) (build is_deeper l) ∙ ap (map (entry_of p)) (preorder-build is_deeper l)

any_entry : (p : ProfileName) (slot : Slot) (l : List Row) → list_any (is_at (address_of p slot)) (map (entry_of p) l) ≡ list_any (row_is p slot) l
any_entry p slot [] = refl
any_entry p slot (r ∷ l) = ap (λ b. row_is p slot r || b) (any_entry p slot l)

pub full_row : (p : ProfileName) (slot : Slot) (l : List Row) → is_full (address_of p slot) (forest_of p l) ≡ list_any (row_is p slot) l
full_row p slot l = ap (list_any (is_at (address_of p slot))) (entries_of p l) ∙ any_entry p slot l

-- where a slot's row stands
pub record Stands (p : ProfileName) (slot : Slot) (l : List Row) : Type 0 where
  pub pre : List Row
  pub row : Row
  pub post : List Row
  pub parts : l ≡ pre ++ row ∷ post
  pub is : row_is p slot row ≡ true
  pub place : place_of slot.place l ≡ length pre
  pub before : Absent (row_is p slot) pre

pub stands : (p : ProfileName) (slot : Slot) (l : List Row) → list_any (row_is p slot) l ≡ true → Stands p slot l
stands p slot [] h = cc
stands p slot (r ∷ l) h = step (row_is p slot r) refl (same_address p r.slot slot) (stands p slot l)
  where
    step : (b : Bool) → row_is p slot r ≡ b → row_is p slot r ≡ (r.slot.place == slot.place) → (list_any (row_is p slot) l ≡ true → Stands p slot l) → Stands p slot (r ∷ l)
    step true e a ih =
        let t : (r.slot.place == slot.place) ≡ true = sym a ∙ e in
        record { pre = []; row = r; post = l; parts = refl; is = e; place = rw t; before = tt }
    step false e a ih =
        let t : (r.slot.place == slot.place) ≡ false = sym a ∙ e in
        let s : Stands p slot l = ih (rw e at h) in
        let i : place_of slot.place l ≡ length s.pre = s.place in
        record { pre = r ∷ s.pre; row = s.row; post = s.post; parts = ap (λ m. r ∷ m) s.parts; is = s.is; place = rw t (omega arith); before = (e, s.before) }

-- a slot has a row where its place is below the number of rows
pub any_below : (p : ProfileName) (slot : Slot) (l : List Row) → place_of slot.place l < length l → list_any (row_is p slot) l ≡ true
any_below p slot [] h = absurd (omega arith)
any_below p slot (r ∷ l) h =
    (elim (row_is p slot r) as (λ c. row_is p slot r ≡ c → (c || list_any (row_is p slot) l) ≡ true) [
      | true ↦ λ e. refl
      | false ↦ λ e. let t : (r.slot.place == slot.place) ≡ false = sym (same_address p r.slot slot) ∙ e in any_below p slot l (let g = rw t at h in omega (arith, g))
    ]) refl

pub none_below : (p : ProfileName) (slot : Slot) (l : List Row) → length l ≤ place_of slot.place l → Absent (row_is p slot) l
none_below p slot [] h = tt
none_below p slot (r ∷ l) h =
    (elim (row_is p slot r) as (λ c. row_is p slot r ≡ c → Absent (row_is p slot) (r ∷ l)) [
      | true ↦ λ e. absurd (let t : (r.slot.place == slot.place) ≡ true = sym (same_address p r.slot slot) ∙ e in let g = rw t at h in omega (arith, g))
      | false ↦ λ e. (e, let t : (r.slot.place == slot.place) ≡ false = sym (same_address p r.slot slot) ∙ e in none_below p slot l (let g = rw t at h in omega (arith, g)))
    ]) refl

reads : (pre : List Row) (r : Row) (post : List Row) (d : Row) → get_or (pre ++ r ∷ post) (length pre) d ≡ r
reads [] r post d = refl
reads (q ∷ pre) r post d = reads pre r post d

pub standing_row : (p : ProfileName) (slot : Slot) (l : List Row) (s : Stands p slot l) (d : Row) → get_or l (place_of slot.place l) d ≡ s.row
standing_row p slot l s d = ap (λ m. get_or m (place_of slot.place l) d) s.parts ∙ ap (λ i. get_or (s.pre ++ s.row ∷ s.post) i d) s.place ∙ reads s.pre s.row s.post d

pub standing_below : (p : ProfileName) (slot : Slot) (l : List Row) → Stands p slot l → place_of slot.place l < length l
standing_below p slot l s =
    let e : length l ≡ length (s.pre ++ s.row ∷ s.post) = ap length s.parts in
    let i : place_of slot.place l ≡ length s.pre = s.place in
    omega (arith, length-append s.pre (s.row ∷ s.post))

-- what the slot holds

cap_there : (p : ProfileName) (slot : Slot) (pre : List Row) (r : Row) (post : List Row) → Absent (row_is p slot) pre → row_is p slot r ≡ true
    → cap_in (address_of p slot) (map (entry_of p) (pre ++ r ∷ post)) ≡ r.cap
cap_there p slot [] r post a e = rw e
cap_there p slot (q ∷ pre) r post a e = rw a.0 (cap_there p slot pre r post a.1 e)

pub standing_cap : (p : ProfileName) (slot : Slot) (l : List Row) (s : Stands p slot l) → cap_at (forest_of p l) (address_of p slot) ≡ s.row.cap
standing_cap p slot l s = ap (cap_in (address_of p slot)) (entries_of p l ∙ ap (map (entry_of p)) s.parts) ∙ cap_there p slot s.pre s.row s.post s.before s.is

cap_nowhere : (p : ProfileName) (slot : Slot) (l : List Row) → Absent (row_is p slot) l → cap_in (address_of p slot) (map (entry_of p) l) ≡ Null
cap_nowhere p slot [] a = refl
cap_nowhere p slot (q ∷ l) a = rw a.0 (cap_nowhere p slot l a.1)

pub absent_cap : (p : ProfileName) (slot : Slot) (l : List Row) → Absent (row_is p slot) l → cap_at (forest_of p l) (address_of p slot) ≡ Null
absent_cap p slot l a = ap (cap_in (address_of p slot)) (entries_of p l) ∙ cap_nowhere p slot l a

original_there : (p : ProfileName) (slot : Slot) (pre : List Row) (r : Row) (post : List Row) → Absent (row_is p slot) pre → row_is p slot r ≡ true
    → original_in (address_of p slot) (map (entry_of p) (pre ++ r ∷ post)) ≡ r.original
original_there p slot [] r post a e = rw e
original_there p slot (q ∷ pre) r post a e = rw a.0 (original_there p slot pre r post a.1 e)

pub standing_original : (p : ProfileName) (slot : Slot) (l : List Row) (s : Stands p slot l) → is_original (address_of p slot) (forest_of p l) ≡ s.row.original
standing_original p slot l s = ap (original_in (address_of p slot)) (entries_of p l ∙ ap (map (entry_of p)) s.parts) ∙ original_there p slot s.pre s.row s.post s.before s.is

-- no other row is the slot's

apart_behind : (p : ProfileName) (slot : Slot) (pre : List Row) (s : Row) (post : List Row) → row_is p slot s ≡ true → AreApart (pre ++ s ∷ post) → Absent (row_is p slot) post
apart_behind p slot [] s post e h = each post h.0
  where
    other : (i j n : ℕ) → (i == n) ≡ true → j ≢ i → (j == n) ≡ false
    other i j n t z = grind (arith, nat_tests)

    each : (l : List Row) → Each (λ (q : Row). q.slot.place ≢ s.slot.place) l → Absent (row_is p slot) l
    each [] k = tt
    each (q ∷ l) k = (same_address p q.slot slot ∙ other s.slot.place q.slot.place slot.place (sym (same_address p s.slot slot) ∙ e) k.0, each l k.1)
apart_behind p slot (q ∷ pre) s post e h = apart_behind p slot pre s post e h.1

pub standing_once : (p : ProfileName) (slot : Slot) (l : List Row) (s : Stands p slot l) → AreApart l → Absent (row_is p slot) s.post
standing_once p slot l s a = let P : List Row → Type 0 = AreApart in apart_behind p slot s.pre s.row s.post s.is (subst P s.parts a)

-- the rows behind it go on stepwise
stepwise_behind : (d : ℕ) (pre : List Row) (s : Row) (post : List Row) → IsStepwise d (pre ++ s ∷ post) → IsStepwise (derived_depth s) post
stepwise_behind d [] s post h = h.1
stepwise_behind d (q ∷ pre) s post h = stepwise_behind (derived_depth q) pre s post h.1

pub standing_stepwise : (p : ProfileName) (slot : Slot) (l : List Row) (s : Stands p slot l) → IsStepwise 0 l → IsStepwise (derived_depth s.row) s.post
standing_stepwise p slot l s w = let P : List Row → Type 0 = IsStepwise 0 in stepwise_behind 0 s.pre s.row s.post (subst P s.parts w)

-- the depth of a row is at most its place
pub depth_most : (d : ℕ) (l : List Row) (i : ℕ) (e : Row) → i < length l → IsStepwise d l → (get_or l i e).depth ≤ d + i
depth_most d [] i e h w = absurd (omega arith)
depth_most d (r ∷ l) zero e h w = let a : r.depth ≤ d = w.0 in omega arith
depth_most d (r ∷ l) (suc i) e h w =
    let a : r.depth ≤ d = w.0 in
    let k : i < length l = omega arith in
    let ih : (get_or l i e).depth ≤ derived_depth r + i = depth_most (derived_depth r) l i e k w.1 in
    let m : derived_depth r ≤ r.depth + 1 = most r.original r.depth in
    omega arith
  where
    most : (b : Bool) (n : ℕ) → cond b (n + 1) n ≤ n + 1
    most true n = omega arith
    most false n = omega arith

-- a further row behind all: a tree of its own

no_deeper : (a b : Row) → b.depth ≤ a.depth → is_deeper a b ≡ false
no_deeper a b h = grind (arith, nat_tests)

pub rows_root : (p : ProfileName) (slot : Slot) (cap : Cap) (l : List Row) (x : Row) → entry_of p x ≡ entry (address_of p slot) cap true → x.depth ≡ 0
    → forest_of p (l ++ x ∷ []) ≡ rooted (address_of p slot) cap (forest_of p l)
rows_root p slot cap l x e d =
    ap (renamed (entry_of p)) (build-root is_deeper x l (each l)) ∙ renamed-root (entry_of p) x (build is_deeper l) ∙ ap (λ y. root y (forest_of p l)) e
  where
    each : (m : List Row) → Each (λ (q : Row). is_deeper q x ≡ false) m
    each [] = tt
    each (q ∷ m) = (no_deeper q x (omega (arith, d)), each m)

-- a further row directly behind another

pub insert_behind : (pre : List Row) (s x : Row) (post : List Row) (i : ℕ) → i ≡ length pre → insert (pre ++ s ∷ post) (i + 1) x ≡ pre ++ s ∷ x ∷ post
insert_behind [] s x post i e = rw e
insert_behind (q ∷ pre) s x post zero e = cc
insert_behind (q ∷ pre) s x post (suc i) e =
    let h : i ≡ length pre = omega arith in
    let j : suc i + 1 ≡ suc (i + 1) = omega arith in
    rw j (ap (λ l. q ∷ l) (insert_behind pre s x post i h))

stops : (post : List Row) (x : Row) → IsStepwise x.depth post → StopsAtOnce (is_deeper x) post
stops [] x k = tt
stops (q ∷ post) x k = no_deeper x q k.0

derived_at : (p : ProfileName) (source slot : Slot) (cap : Cap) (pre : List Row) (s : Row) (post : List Row) (b : Bool) → s.original ≡ b → row_is p source s ≡ true
    → Absent (row_is p source) pre → Absent (row_is p source) post → IsStepwise (derived_depth s) post
    → forest_of p (pre ++ s ∷ derived_row s slot cap ∷ post)
    ≡ cond b (below (is_at (address_of p source)) (entry_of p (derived_row s slot cap)) (forest_of p (pre ++ s ∷ post))) (after (is_at (address_of p source)) (entry_of p (derived_row s slot cap)) (forest_of p (pre ++ s ∷ post)))
derived_at p source slot cap pre s post true o e a z w =
    let x : Row = derived_row s slot cap in
    let dx : x.depth ≡ s.depth + 1 = rw o in
    let w' : IsStepwise x.depth post = w in
    ap (renamed (entry_of p)) (build-below is_deeper (row_is p source) pre s x post e a z (under s x dx) (stops post x w'))
    ∙ renamed-below (entry_of p) (is_at (address_of p source)) x (build is_deeper (pre ++ s ∷ post))
  where
    under : (r x : Row) → x.depth ≡ r.depth + 1 → is_deeper r x ≡ true
    under r x d = grind (arith, nat_tests)
derived_at p source slot cap pre s post false o e a z w =
    let x : Row = derived_row s slot cap in
    let dx : x.depth ≡ s.depth = rw o in
    let w' : IsStepwise x.depth post = w in
    let ws : IsStepwise s.depth post = let P : ℕ → Type 0 = λ d. IsStepwise d post in subst P dx w' in
    ap (renamed (entry_of p)) (build-after is_deeper (row_is p source) pre s x post e a z (no_deeper s x (omega (arith, dx))) (stops post s ws) (stops post x w') (also pre x dx))
    ∙ renamed-after (entry_of p) (is_at (address_of p source)) x (build is_deeper (pre ++ s ∷ post))
  where
    also : (m : List Row) (x : Row) → x.depth ≡ s.depth → Each (λ (q : Row). is_deeper q s ≡ true → is_deeper q x ≡ true) m
    also [] x d = tt
    also (q ∷ m) x d = ((λ h. ap (λ n. ltb q.depth n) d ∙ h), also m x d)

pub rows_derived : (p : ProfileName) (source slot : Slot) (cap : Cap) (l : List Row) (s : Stands p source l) → AreApart l → IsStepwise 0 l
    → forest_of p (insert l (place_of source.place l + 1) (derived_row s.row slot cap)) ≡ derived (address_of p source) (address_of p slot) cap (forest_of p l)
rows_derived p source slot cap l s a w =
    let x : Row = derived_row s.row slot cap in
    let ins : insert l (place_of source.place l + 1) x ≡ s.pre ++ s.row ∷ x ∷ s.post = ap (λ m. insert m (place_of source.place l + 1) x) s.parts ∙ insert_behind s.pre s.row x s.post (place_of source.place l) s.place in
    let o : s.row.original ≡ is_original (address_of p source) (forest_of p l) = sym (standing_original p source l s) in
    let c : s.row.cap ≡ cap_at (forest_of p l) (address_of p source) = sym (standing_cap p source l s) in
    let is : Entry → Bool = is_at (address_of p source) in
    ap (forest_of p) ins
    ∙ derived_at p source slot cap s.pre s.row s.post (is_original (address_of p source) (forest_of p l)) o s.is s.before (standing_once p source l s a) (standing_stepwise p source l s w)
    ∙ ap (λ m. cond (is_original (address_of p source) (forest_of p l)) (below is (entry_of p x) (forest_of p m)) (after is (entry_of p x) (forest_of p m))) (sym s.parts)
    ∙ ap (λ k. cond (is_original (address_of p source) (forest_of p l)) (below is (entry (address_of p slot) cap (is_new_original k cap)) (forest_of p l)) (after is (entry (address_of p slot) cap (is_new_original k cap)) (forest_of p l))) c

-- a further row directly behind an original one, and one deeper: its first child
pub rows_new : (p : ProfileName) (parent slot : Slot) (cap : Cap) (l : List Row) (s : Stands p parent l) (x : Row) → AreApart l → IsStepwise 0 l → s.row.original ≡ true
    → x.depth ≡ s.row.depth + 1 → entry_of p x ≡ entry (address_of p slot) cap true
    → forest_of p (insert l (place_of parent.place l + 1) x) ≡ retyped (address_of p parent) (address_of p slot) cap (forest_of p l)
rows_new p parent slot cap l s x a w o d e =
    let ins : insert l (place_of parent.place l + 1) x ≡ s.pre ++ s.row ∷ x ∷ s.post = ap (λ m. insert m (place_of parent.place l + 1) x) s.parts ∙ insert_behind s.pre s.row x s.post (place_of parent.place l) s.place in
    let dd : derived_depth s.row ≡ x.depth = ap (λ b. cond b (s.row.depth + 1) s.row.depth) o ∙ sym d in
    let w' : IsStepwise x.depth s.post = let P : ℕ → Type 0 = λ n. IsStepwise n s.post in subst P dd (standing_stepwise p parent l s w) in
    let is : Entry → Bool = is_at (address_of p parent) in
    ap (forest_of p) ins
    ∙ ap (renamed (entry_of p)) (build-below is_deeper (row_is p parent) s.pre s.row x s.post s.is s.before (standing_once p parent l s a) (under s.row x d) (stops s.post x w'))
    ∙ renamed-below (entry_of p) is x (build is_deeper (s.pre ++ s.row ∷ s.post))
    ∙ ap (λ y. below is y (forest_of p (s.pre ++ s.row ∷ s.post))) e
    ∙ ap (λ m. retyped (address_of p parent) (address_of p slot) cap (forest_of p m)) (sym s.parts)
  where
    under : (r x : Row) → x.depth ≡ r.depth + 1 → is_deeper r x ≡ true
    under r x d = grind (arith, nat_tests)

-- the first child is the next row, where that is deeper

first_renamed : (p : ProfileName) (l : List Row) → first_slot (map (entry_of p) l) ≡ option_map (λ (r : Row). address_of p r.slot) (first_of l)
first_renamed p [] = refl
first_renamed p (r ∷ l) = refl

pub standing_child : (p : ProfileName) (slot : Slot) (l : List Row) (s : Stands p slot l) → AreApart l
    → first_child (address_of p slot) (forest_of p l) ≡ option_map (λ (r : Row). address_of p r.slot) (next_passing (is_deeper s.row) s.post)
standing_child p slot l s a =
    let is : Entry → Bool = is_at (address_of p slot) in
    ap (λ m. first_slot (tops (below_those is (forest_of p m)))) s.parts
    ∙ ap (λ f. first_slot (tops f)) (renamed-below_those (entry_of p) is (build is_deeper (s.pre ++ s.row ∷ s.post)))
    ∙ ap (λ f. first_slot (tops (renamed (entry_of p) f))) (build-below_those is_deeper (row_is p slot) s.pre s.row s.post s.is s.before (standing_once p slot l s a))
    ∙ ap first_slot (tops-renamed (entry_of p) (front_trees (is_deeper s.row) (build is_deeper s.post)))
    ∙ first_renamed p (tops (front_trees (is_deeper s.row) (build is_deeper s.post)))
    ∙ ap (option_map (λ (r : Row). address_of p r.slot)) (tops-taken is_deeper (is_deeper s.row) s.post)

below_those_nowhere : (p : ProfileName) (slot : Slot) (l : List Row) → Absent (row_is p slot) l → Absent (row_is p slot) (preorder (build is_deeper l))
below_those_nowhere p slot l a = let P : List Row → Type 0 = Absent (row_is p slot) in subst P (sym (preorder-build is_deeper l)) a

pub absent_child : (p : ProfileName) (slot : Slot) (l : List Row) → Absent (row_is p slot) l → first_child (address_of p slot) (forest_of p l) ≡ None
absent_child p slot l a =
    let is : Entry → Bool = is_at (address_of p slot) in
    ap (λ f. first_slot (tops f)) (renamed-below_those (entry_of p) is (build is_deeper l))
    ∙ ap (λ f. first_slot (tops (renamed (entry_of p) f))) (below_those_none (row_is p slot) (build is_deeper l) (below_those_nowhere p slot l a))

-- whether another slot names an object

pub not_untyped : (k : Cap) → ((base bits free : ℕ) → k ≡ Untyped base bits free → ⊥) → is_untyped k ≡ false
not_untyped Null h = refl
not_untyped (Untyped base bits free) h = absurd (h base bits free refl)
not_untyped (Endpoint base badge rights) h = refl
not_untyped (CNode base radix guard) h = refl
not_untyped (Tcb base) h = refl

elsewhere : (p : ProfileName) (slot : Slot) (cap : Cap) (l : List Row)
    → list_any (λ (e : Entry). not (e.slot == address_of p slot) && same_object e.cap cap) (map (entry_of p) l) ≡ list_any (names_elsewhere slot.place cap) l
elsewhere p slot cap [] = refl
elsewhere p slot cap (r ∷ l) =
    ap (λ b. (not b && same_object r.cap cap) || list_any (λ (e : Entry). not (e.slot == address_of p slot) && same_object e.cap cap) (map (entry_of p) l)) (same_address p r.slot slot)
    ∙ ap (λ b. (not (r.slot.place == slot.place) && same_object r.cap cap) || b) (elsewhere p slot cap l)

pub rows_last : (p : ProfileName) (slot : Slot) (l : List Row) (cap : Cap) → cap ≡ cap_at (forest_of p l) (address_of p slot) → is_untyped cap ≡ false
    → not (list_any (names_elsewhere slot.place cap) l) ≡ is_last (address_of p slot) (forest_of p l)
rows_last p slot l cap e u =
    let f = forest_of p l in
    let test : Cap → Entry → Bool = λ k e. not (e.slot == address_of p slot) && same_object e.cap k in
    let s : list_any (test cap) (preorder f) ≡ list_any (names_elsewhere slot.place cap) l = ap (list_any (test cap)) (entries_of p l) ∙ elsewhere p slot cap l in
    ap not (sym s) ∙ ap (λ b. b || not (list_any (test cap) (preorder f))) (sym u) ∙ ap (λ k. is_untyped k || not (list_any (test k) (preorder f))) e
