-- What the store's methods find in the rows, and that a further row keeps them in order.
use Rattle.std.proofs.Common.{◌≡◌, ◌≢◌, ℕ, ◌+◌, ◌*◌, ◌-◌, ◌^◌, ◌<◌, ◌≤◌, Bool, true, false, cond, ◌||◌, ◌==◌, eqb, List, [], ◌∷◌, ◌++◌, map, length, get_or, Some, None, refl, sym, ◌∙◌, ap, subst, arith, length-append}
use Rattle.std.specs.Prelude.{option_map}
use Rattle.std.specs.List.{AllByRecursion as Each, list_any, insert, IsDistinct}
use Rattle.std.proofs.Math.Nat.{mul-le-mul_right}
use Rattle.std.proofs.lemmas.Bool.Decides.{nat_tests}
use Rattle.std.proofs.lemmas.List.{length-map, get_or-append-add}
use Rattle.std.proofs.lemmas.Nat.{pow-add}
use Rattle.std.proofs.lemmas.Map.Steps.{length-le_from_distinct_below}
use Rattle.cap_core.specs.declared.profile.ProfileName.{ProfileName}
use Rattle.cap_core.specs.declared.profile.ProfileName.TheVariants.{Wide, Narrow}
use Rattle.cap_core.specs.Numbers.{slot_bits, slot_size}
use Rattle.cap_core.specs.Objects.{IsLawful, is_untyped}
use Rattle.slot_core.specs.declared.slot.Slot.{Slot}
use Rattle.slot_core.specs.declared.rows.Row.{Row}
use Rattle.kernel_forest.specs.Entries.{first_child, is_full}
use Rattle.slot_core.specs.Places.{address_of}
use Rattle.slot_core.specs.Rows.{is_deeper, forest_of, place_of, derived_depth, IsStepwise, AreApart, IsRowStore}
use Rattle.kernel_forest.proofs.Trees.Forests.{each-append, each-right_part}
use Rattle.kernel_forest.proofs.Trees.Built.{Absent, next_passing}
use Rattle.slot_core.proofs.RowStores.RowLists.{row_is, same_address, full_row, Stands, stands, any_below, none_below, standing_row, standing_below, standing_child, insert_behind, depth_most}

-- the row at the place that was found is the slot's
pub found : (p : ProfileName) (slot : Slot) (l : List Row) (i : ℕ) (r : Row) → i ≡ place_of slot.place l → i < length l → r ≡ get_or l i r → (s : Stands p slot l) × (r ≡ s.row)
found p slot l i r e h g =
    let lt : place_of slot.place l < length l = omega (arith, e) in
    let s : Stands p slot l = stands p slot l (any_below p slot l lt) in
    (s, g ∙ ap (λ k. get_or l k r) e ∙ standing_row p slot l s r)

pub not_found : (p : ProfileName) (slot : Slot) (l : List Row) (i : ℕ) → i ≡ place_of slot.place l → length l ≤ i → Absent (row_is p slot) l
not_found p slot l i e h = none_below p slot l (omega (arith, e))

-- the next row

next_in : (t : Row → Bool) (post : List Row) (q : Row) → 0 < length post → q ≡ get_or post 0 q → next_passing t post ≡ cond (t q) (Some q) None
next_in t [] q h e = absurd (omega arith)
next_in t (a ∷ post) q h e = let f : q ≡ a = e in rw f

behind : (p : ProfileName) (slot : Slot) (l : List Row) (s : Stands p slot l) (q : Row) → place_of slot.place l + 1 < length l → q ≡ get_or l (place_of slot.place l + 1) q
    → next_passing (is_deeper s.row) s.post ≡ cond (is_deeper s.row q) (Some q) None
behind p slot l s q h e =
    let n : length l ≡ length (s.pre ++ s.row ∷ s.post) = ap length s.parts in
    let i : place_of slot.place l ≡ length s.pre = s.place in
    let some : 0 < length s.post = omega (arith, length-append s.pre (s.row ∷ s.post)) in
    next_in (is_deeper s.row) s.post q some
    (e ∙ ap (λ m. get_or m (place_of slot.place l + 1) q) s.parts ∙ ap (λ k. get_or (s.pre ++ s.row ∷ s.post) (k + 1) q) i ∙ get_or-append-add s.pre (s.row ∷ s.post) 1 q)

nothing_behind : (p : ProfileName) (slot : Slot) (l : List Row) (s : Stands p slot l) → length l ≤ place_of slot.place l + 1 → next_passing (is_deeper s.row) s.post ≡ None
nothing_behind p slot l s h =
    let n : length l ≡ length (s.pre ++ s.row ∷ s.post) = ap length s.parts in
    let i : place_of slot.place l ≡ length s.pre = s.place in
    let none : length s.post ≤ 0 = omega (arith, length-append s.pre (s.row ∷ s.post)) in
    empty s.post none
  where
    empty : (post : List Row) → length post ≤ 0 → next_passing (is_deeper s.row) post ≡ None
    empty [] h = refl
    empty (a ∷ post) h = absurd (omega arith)

pub child_found : (p : ProfileName) (slot : Slot) (l : List Row) (s : Stands p slot l) (q : Row) → AreApart l → place_of slot.place l + 1 < length l
    → q ≡ get_or l (place_of slot.place l + 1) q → s.row.depth < q.depth → Some (address_of p q.slot) ≡ first_child (address_of p slot) (forest_of p l)
child_found p slot l s q a h e d =
    sym (standing_child p slot l s a ∙ ap (option_map (λ (r : Row). address_of p r.slot)) (behind p slot l s q h e ∙ ap (λ b. cond b (Some q) None) (deeper s.row q d)))
  where
    deeper : (r q : Row) → r.depth < q.depth → is_deeper r q ≡ true
    deeper r q d = grind (arith, nat_tests)

pub no_child : (p : ProfileName) (slot : Slot) (l : List Row) (s : Stands p slot l) (q : Row) → AreApart l → place_of slot.place l + 1 < length l
    → q ≡ get_or l (place_of slot.place l + 1) q → q.depth ≤ s.row.depth → None ≡ first_child (address_of p slot) (forest_of p l)
no_child p slot l s q a h e d =
    sym (standing_child p slot l s a ∙ ap (option_map (λ (r : Row). address_of p r.slot)) (behind p slot l s q h e ∙ ap (λ b. cond b (Some q) None) (not_deeper s.row q d)))
  where
    not_deeper : (r q : Row) → q.depth ≤ r.depth → is_deeper r q ≡ false
    not_deeper r q d = grind (arith, nat_tests)

pub last_row : (p : ProfileName) (slot : Slot) (l : List Row) (s : Stands p slot l) → AreApart l → length l ≤ place_of slot.place l + 1
    → None ≡ first_child (address_of p slot) (forest_of p l)
last_row p slot l s a h = sym (standing_child p slot l s a ∙ ap (option_map (λ (r : Row). address_of p r.slot)) (nothing_behind p slot l s h))

-- the room for a further row

places : List Row → List ℕ
places l = map (λ (r : Row). r.slot.place) l

distinct_places : (l : List Row) → AreApart l → IsDistinct eqb (places l)
unfolding IsDistinct places
distinct_places [] h = tt
distinct_places (r ∷ l) h = (differ l h.0, distinct_places l h.1)
  where
    other : (i j : ℕ) → j ≢ i → eqb i j ≡ false
    other i j h = grind (arith, nat_tests)

    differ : (m : List Row) → Each (λ (q : Row). q.slot.place ≢ r.slot.place) m → Each (λ j. eqb r.slot.place j ≡ false) (places m)
    differ [] n = tt
    differ (q ∷ m) n = (other r.slot.place q.slot.place n.0, differ m n.1)

places_below : (n : ℕ) (l : List Row) → Each (λ (r : Row). r.slot.place < n) l → (q : ℕ) → list_any (eqb q) (places l) ≡ true → q < n
unfolding places
places_below n [] w q h = cc
places_below n (r ∷ l) w q h = step n r.slot.place q (list_any (eqb q) (places l)) w.0 (places_below n l w.1 q) h
  where
    step : (n i q : ℕ) (b : Bool) → i < n → (b ≡ true → q < n) → (eqb q i || b) ≡ true → q < n
    step n i q b w ih h = grind (arith, nat_tests)

few_rows : (n : ℕ) (l : List Row) → AreApart l → Each (λ (r : Row). r.slot.place < n) l → length l ≤ n
unfolding places
few_rows n l a w =
    let e : length (places l) ≤ n = length-le_from_distinct_below (places l) n (distinct_places l a) (places_below n l w) in
    omega (arith, length-map l (λ (r : Row). r.slot.place))

-- a place within the memory has its row in the vector
place_within : (p : ProfileName) (m c : ℕ) (slot : Slot) → 2 ^ m ≤ c * slot_size p → address_of p slot < 2 ^ m → slot.place < c
place_within p m c slot room h = step slot.place c (slot_size p) (2 ^ m) room h
  where
    times : (i c n : ℕ) → c ≤ i → c * n ≤ i * n
    times i c n h = mul-le-mul_right n h

    step : (i c n s : ℕ) → s ≤ c * n → i * n < s → i < c
    step i c n s room h = grind (arith, times i c n)

each_within : (p : ProfileName) (m c : ℕ) (l : List Row) → 2 ^ m ≤ c * slot_size p → Each (λ (r : Row). address_of p r.slot < 2 ^ m) l → Each (λ (r : Row). r.slot.place < c) l
each_within p m c [] room h = tt
each_within p m c (r ∷ l) room h = (place_within p m c r.slot room h.0, each_within p m c l room h.1)

-- a slot with no row is none of the rows' slots
others : (p : ProfileName) (slot : Slot) (l : List Row) → list_any (row_is p slot) l ≡ false → Each (λ (q : Row). q.slot.place ≢ slot.place) l
others p slot [] h = tt
others p slot (r ∷ l) h = (front (row_is p slot r) (list_any (row_is p slot) l) r.slot.place slot.place (same_address p r.slot slot) h, others p slot l (rest (row_is p slot r) (list_any (row_is p slot) l) h))
  where
    front : (a b : Bool) (i n : ℕ) → a ≡ (i == n) → (a || b) ≡ false → i ≢ n
    front a b i n e h = grind (arith, nat_tests)

    rest : (a b : Bool) → (a || b) ≡ false → b ≡ false
    rest true b h = cc
    rest false b h = h

pub empty_others : (p : ProfileName) (slot : Slot) (l : List Row) → is_full (address_of p slot) (forest_of p l) ≡ false → Each (λ (q : Row). q.slot.place ≢ slot.place) l
empty_others p slot l h = others p slot l (sym (full_row p slot l) ∙ h)

pub room_left : (p : ProfileName) (m c : ℕ) (l : List Row) (x : Row) → IsRowStore p m c l → address_of p x.slot < 2 ^ m → is_full (address_of p x.slot) (forest_of p l) ≡ false → length l < c
room_left p m c l x s w h =
    let e : length (x ∷ l) ≤ c = few_rows c (x ∷ l) (empty_others p x.slot l h, s.apart) (place_within p m c x.slot s.room w, each_within p m c l s.room s.within) in
    e

-- a further row behind all

apart_push : (l : List Row) (x : Row) → AreApart l → Each (λ (q : Row). q.slot.place ≢ x.slot.place) l → AreApart (l ++ x ∷ [])
apart_push [] x a h = (tt, tt)
apart_push (q ∷ l) x a h = (each-append (λ (o : Row). o.slot.place ≢ q.slot.place) l (x ∷ []) a.0 ((λ e. h.0 (sym e)), tt), apart_push l x a.1 h.1)

stepwise_push : (d : ℕ) (l : List Row) (x : Row) → IsStepwise d l → x.depth ≡ 0 → IsStepwise d (l ++ x ∷ [])
stepwise_push d [] x w e = (omega (arith, e), tt)
stepwise_push d (q ∷ l) x w e = (w.0, stepwise_push (derived_depth q) l x w.1 e)

room_kept : (p : ProfileName) (m c c' : ℕ) → 2 ^ m ≤ c * slot_size p → c ≤ c' → 2 ^ m ≤ c' * slot_size p
room_kept p m c c' h k = let e : c * slot_size p ≤ c' * slot_size p = mul-le-mul_right (slot_size p) k in omega arith

pub store_pushed : (p : ProfileName) (m c c' : ℕ) (l : List Row) (x : Row) → IsRowStore p m c l → c ≤ c' → address_of p x.slot < 2 ^ m → is_full (address_of p x.slot) (forest_of p l) ≡ false
    → IsLawful p m x.cap → x.depth ≡ 0 → (is_untyped x.cap ≡ true → x.original ≡ true) → IsRowStore p m c' (l ++ x ∷ [])
store_pushed p m c c' l x s k w h f d u = record {
  apart = apart_push l x s.apart (empty_others p x.slot l h);
  stepwise = stepwise_push 0 l x s.stepwise d;
  within = each-append (λ (r : Row). address_of p r.slot < 2 ^ m) l (x ∷ []) s.within (w, tt);
  lawful = each-append (λ (r : Row). IsLawful p m r.cap) l (x ∷ []) s.lawful (f, tt);
  untyped = each-append (λ (r : Row). is_untyped r.cap ≡ true → r.original ≡ true) l (x ∷ []) s.untyped (u, tt);
  room = room_kept p m c c' s.room k;
}

-- a further row directly behind another

each_put : (P : Row → Type 0) (pre : List Row) (s x : Row) (post : List Row) → Each P (pre ++ s ∷ post) → P x → Each P (pre ++ s ∷ x ∷ post)
each_put P [] s x post h k = (h.0, (k, h.1))
each_put P (q ∷ pre) s x post h k = (h.0, each_put P pre s x post h.1 k)

apart_put : (pre : List Row) (s x : Row) (post : List Row) → AreApart (pre ++ s ∷ post) → Each (λ (q : Row). q.slot.place ≢ x.slot.place) (pre ++ s ∷ post) → AreApart (pre ++ s ∷ x ∷ post)
apart_put [] s x post h k = (((λ e. k.0 (sym e)), h.0), (k.1, h.1))
apart_put (q ∷ pre) s x post h k = (each_put (λ (o : Row). o.slot.place ≢ q.slot.place) pre s x post h.0 (λ e. k.0 (sym e)), apart_put pre s x post h.1 k.1)

derived_most : (b : Bool) (n : ℕ) → n ≤ cond b (n + 1) n
derived_most true n = omega arith
derived_most false n = omega arith

stepwise_put : (d : ℕ) (pre : List Row) (s x : Row) (post : List Row) → IsStepwise d (pre ++ s ∷ post) → x.depth ≡ derived_depth s → IsStepwise d (pre ++ s ∷ x ∷ post)
stepwise_put d [] s x post h e =
    (h.0, ((omega (arith, e)), higher (derived_depth s) (derived_depth x) post h.1 (let k : x.depth ≤ derived_depth x = derived_most x.original x.depth in omega (arith, e))))
  where
    higher : (a b : ℕ) (l : List Row) → IsStepwise a l → a ≤ b → IsStepwise b l
    higher a b [] k le = tt
    higher a b (r ∷ l) k le = ((let z : r.depth ≤ a = k.0 in omega arith), k.1)
stepwise_put d (q ∷ pre) s x post h e = (h.0, stepwise_put (derived_depth q) pre s x post h.1 e)

pub store_derived : (p : ProfileName) (m c c' : ℕ) (source : Slot) (l : List Row) (s : Stands p source l) (x : Row) → IsRowStore p m c l → c ≤ c' → address_of p x.slot < 2 ^ m
    → is_full (address_of p x.slot) (forest_of p l) ≡ false → IsLawful p m x.cap → x.depth ≡ derived_depth s.row → (is_untyped x.cap ≡ true → x.original ≡ true) → IsRowStore p m c' (insert l (place_of source.place l + 1) x)
store_derived p m c c' source l s x t k w h f d u =
    let ins : insert l (place_of source.place l + 1) x ≡ s.pre ++ s.row ∷ x ∷ s.post = ap (λ n. insert n (place_of source.place l + 1) x) s.parts ∙ insert_behind s.pre s.row x s.post (place_of source.place l) s.place in
    let P : List Row → Type 0 = IsRowStore p m c' in
    subst P (sym ins) (record {
      apart = apart_put s.pre s.row x s.post (let Q : List Row → Type 0 = AreApart in subst Q s.parts t.apart) (let Q : List Row → Type 0 = Each (λ (q : Row). q.slot.place ≢ x.slot.place) in subst Q s.parts (empty_others p x.slot l h));
      stepwise = stepwise_put 0 s.pre s.row x s.post (let Q : List Row → Type 0 = IsStepwise 0 in subst Q s.parts t.stepwise) d;
      within = each_put (λ (r : Row). address_of p r.slot < 2 ^ m) s.pre s.row x s.post (let Q : List Row → Type 0 = Each (λ (r : Row). address_of p r.slot < 2 ^ m) in subst Q s.parts t.within) w;
      lawful = each_put (λ (r : Row). IsLawful p m r.cap) s.pre s.row x s.post (let Q : List Row → Type 0 = Each (λ (r : Row). IsLawful p m r.cap) in subst Q s.parts t.lawful) f;
      untyped = each_put (λ (r : Row). is_untyped r.cap ≡ true → r.original ≡ true) s.pre s.row x s.post (let Q : List Row → Type 0 = Each (λ (r : Row). is_untyped r.cap ≡ true → r.original ≡ true) in subst Q s.parts t.untyped) u;
      room = room_kept p m c c' t.room k;
    })

-- what the source's row is, where the source is full
pub source_row : (p : ProfileName) (source : Slot) (l : List Row) (i : ℕ) (r : Row) → i ≡ place_of source.place l → is_full (address_of p source) (forest_of p l) ≡ true → r ≡ get_or l i r
    → (s : Stands p source l) × (r ≡ s.row)
source_row p source l i r e h g =
    let s : Stands p source l = stands p source l (sym (full_row p source l) ∙ h) in
    (s, g ∙ ap (λ k. get_or l k r) e ∙ standing_row p source l s r)

pub source_below : (p : ProfileName) (source : Slot) (l : List Row) → is_full (address_of p source) (forest_of p l) ≡ true → place_of source.place l < length l
source_below p source l h = standing_below p source l (stands p source l (sym (full_row p source l) ∙ h))

pub source_depth : (p : ProfileName) (source : Slot) (l : List Row) (i : ℕ) (r : Row) → i ≡ place_of source.place l → is_full (address_of p source) (forest_of p l) ≡ true → r ≡ get_or l i r
    → IsStepwise 0 l → r.depth ≤ i
source_depth p source l i r e h g w =
    let lt : place_of source.place l < length l = source_below p source l h in
    let d : (get_or l i r).depth ≤ 0 + i = depth_most 0 l i r (omega (arith, e)) w in
    let same : r.depth ≡ (get_or l i r).depth = ap (λ (q : Row). q.depth) g in
    omega arith

-- a slot with a row lies within the memory
pub row_within : (p : ProfileName) (m : ℕ) (slot : Slot) (l : List Row) → Stands p slot l → Each (λ (r : Row). address_of p r.slot < 2 ^ m) l → address_of p slot < 2 ^ m
row_within p m slot l s h =
    let Q : List Row → Type 0 = Each (λ (r : Row). address_of p r.slot < 2 ^ m) in
    step (address_of p s.row.slot) (address_of p slot) (2 ^ m) s.is (each-right_part (λ (r : Row). address_of p r.slot < 2 ^ m) s.pre (s.row ∷ s.post) (subst Q s.parts h)).0
  where
    step : (i j n : ℕ) → (i == j) ≡ true → i < n → j < n
    step i j n e h = grind (arith, nat_tests)

-- the vector of an empty store

pub slot_bits-most : (p : ProfileName) → slot_bits p ≤ 5
slot_bits-most Wide = omega arith
slot_bits-most Narrow = omega arith

pub store_made : (p : ProfileName) (m c : ℕ) → slot_bits p ≤ m → c ≡ 2 ^ (m - slot_bits p) → IsRowStore p m c []
store_made p m c h e =
    let sum : (m - slot_bits p) + slot_bits p ≡ m = omega arith in
    let product : 2 ^ (m - slot_bits p) * 2 ^ slot_bits p ≡ 2 ^ m = sym (pow-add 2 (m - slot_bits p) (slot_bits p)) ∙ ap (λ k. 2 ^ k) sum in
    record { apart = tt; stepwise = tt; within = tt; lawful = tt; untyped = tt; room = rw (e, product) (omega arith) }
