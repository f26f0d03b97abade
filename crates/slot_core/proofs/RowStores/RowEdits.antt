-- The rows of a store where one of them is changed and keeps its place, its depth, and whether it is original.
use Rattle.std.proofs.Common.{◌≡◌, ◌≢◌, ℕ, ◌+◌, ◌^◌, ◌<◌, ◌≤◌, true, false, cond, ◌||◌, ◌==◌, ltb, List, [], ◌∷◌, ◌++◌, map, set, refl, sym, ◌∙◌, ap, subst, arith}
use Rattle.std.specs.List.{AllByRecursion as Each, list_any}
use Rattle.std.proofs.Math.Seq.{set-append_seam}
use Rattle.cap_core.specs.declared.profile.ProfileName.{ProfileName}
use Rattle.cap_core.specs.declared.capability.Cap.{Cap}
use Rattle.cap_core.specs.declared.capability.Cap.TheVariants.{Null, Untyped, Endpoint, CNode, Tcb}
use Rattle.cap_core.specs.Objects.{is_untyped, IsLawful}
use Rattle.slot_core.specs.declared.slot.Slot.{Slot}
use Rattle.slot_core.specs.declared.rows.Row.{Row}
use Rattle.kernel_forest.specs.Forest.{Forest, none, tree, renamed, build}
use Rattle.kernel_forest.specs.Entries.{Entry, entry, is_at, is_full, cap_at, cap_in}
use Rattle.kernel_forest.specs.Derivation.{moved, freed, with_free, names_same}
use Rattle.slot_core.specs.Places.{address_of}
use Rattle.slot_core.specs.Rows.{is_deeper, entry_of, forest_of, place_of, derived_depth, IsStepwise, AreApart, IsRowStore}
use Rattle.kernel_forest.proofs.Trees.Forests.{each-right_part}
use Rattle.kernel_forest.proofs.Trees.Built.{Absent}
use Rattle.kernel_forest.proofs.Trees.BuiltRenamed.{AgreeUnder, build-renamed}
use Rattle.slot_core.proofs.RowStores.RowLists.{row_is, Stands, standing_once, standing_cap}
use Rattle.slot_core.proofs.RowStores.RowSteps.{empty_others}

-- the row of a slot is changed, and every other row stays
abbrev pub edited : ProfileName → Slot → (Row → Row) → Row → Row
edited p slot h r = cond (row_is p slot r) (h r) r

edited_nowhere : (p : ProfileName) (slot : Slot) (h : Row → Row) (l : List Row) → Absent (row_is p slot) l → map (edited p slot h) l ≡ l
edited_nowhere p slot h [] a = refl
edited_nowhere p slot h (q ∷ l) a = rw a.0 (ap (λ m. q ∷ m) (edited_nowhere p slot h l a.1))

edited_there : (p : ProfileName) (slot : Slot) (h : Row → Row) (pre : List Row) (s : Row) (post : List Row) → row_is p slot s ≡ true → Absent (row_is p slot) pre
    → Absent (row_is p slot) post → map (edited p slot h) (pre ++ s ∷ post) ≡ pre ++ h s ∷ post
edited_there p slot h [] s post e a b = rw e (ap (λ m. h s ∷ m) (edited_nowhere p slot h post b))
edited_there p slot h (q ∷ pre) s post e a b = rw a.0 (ap (λ m. q ∷ m) (edited_there p slot h pre s post e a.1 b))

edited_deeper : (p : ProfileName) (slot : Slot) (h : Row → Row) → ((r : Row) → (h r).depth ≡ r.depth) → (l : List Row) → AgreeUnder (edited p slot h) is_deeper is_deeper l
edited_deeper p slot h d [] = tt
edited_deeper p slot h d (a ∷ l) = (each l, edited_deeper p slot h d l)
  where
    depth : (r : Row) → (edited p slot h r).depth ≡ r.depth
    depth r = elim (row_is p slot r) as (λ c. (cond c (h r) r).depth ≡ r.depth) [ true ↦ d r | false ↦ refl ]

    each : (m : List Row) → Each (λ (b : Row). is_deeper (edited p slot h a) (edited p slot h b) ≡ is_deeper a b) m
    each [] = tt
    each (b ∷ m) = (ap (λ n. ltb n (edited p slot h b).depth) (depth a) ∙ ap (λ n. ltb a.depth n) (depth b), each m)

edited_entries : (p : ProfileName) (slot : Slot) (h : Row → Row) (w : Entry → Entry) → ((r : Row) → entry_of p (h r) ≡ w (entry_of p r)) → (f : Forest Row)
    → renamed (entry_of p) (renamed (edited p slot h) f) ≡ renamed (λ (e : Entry). cond (is_at (address_of p slot) e) (w e) e) (renamed (entry_of p) f)
edited_entries p slot h w k none = refl
edited_entries p slot h w k (tree a under others) = rw (edited_entries p slot h w k under, edited_entries p slot h w k others) (ap (λ e. tree e under' others') (one a))
  where
    under' : Forest Entry
    under' = renamed (λ (e : Entry). cond (is_at (address_of p slot) e) (w e) e) (renamed (entry_of p) under)

    others' : Forest Entry
    others' = renamed (λ (e : Entry). cond (is_at (address_of p slot) e) (w e) e) (renamed (entry_of p) others)

    one : (r : Row) → entry_of p (edited p slot h r) ≡ cond (is_at (address_of p slot) (entry_of p r)) (w (entry_of p r)) (entry_of p r)
    one r = elim (row_is p slot r) as (λ c. entry_of p (cond c (h r) r) ≡ cond c (w (entry_of p r)) (entry_of p r)) [ true ↦ k r | false ↦ refl ]

set_there : (p : ProfileName) (slot : Slot) (l : List Row) (s : Stands p slot l) (x : Row) → set l (place_of slot.place l) x ≡ s.pre ++ x ∷ s.post
set_there p slot l s x =
    ap (λ m. set m (place_of slot.place l) x) s.parts ∙ ap (λ i. set (s.pre ++ s.row ∷ s.post) i x) s.place ∙ set-append_seam s.pre s.row s.post x

rows_edited : (p : ProfileName) (slot : Slot) (h : Row → Row) (w : Entry → Entry) (l : List Row) (s : Stands p slot l) → AreApart l → ((r : Row) → (h r).depth ≡ r.depth)
    → ((r : Row) → entry_of p (h r) ≡ w (entry_of p r))
    → forest_of p (set l (place_of slot.place l) (h s.row)) ≡ renamed (λ (e : Entry). cond (is_at (address_of p slot) e) (w e) e) (forest_of p l)
rows_edited p slot h w l s a d k =
    let m : List Row = s.pre ++ s.row ∷ s.post in
    ap (forest_of p) (set_there p slot l s (h s.row) ∙ sym (edited_there p slot h s.pre s.row s.post s.is s.before (standing_once p slot l s a)))
    ∙ ap (renamed (entry_of p)) (build-renamed (edited p slot h) is_deeper is_deeper m (edited_deeper p slot h d m))
    ∙ edited_entries p slot h w k (build is_deeper m)
    ∙ ap (λ n. renamed (λ (e : Entry). cond (is_at (address_of p slot) e) (w e) e) (forest_of p n)) (sym s.parts)

-- the row in another slot, with another capability
abbrev pub moved_row : Slot → Cap → Row → Row
moved_row slot cap r = record { slot = slot; cap = cap; original = r.original; depth = r.depth }

pub rows_moved : (p : ProfileName) (source slot : Slot) (cap : Cap) (l : List Row) (s : Stands p source l) → AreApart l
    → forest_of p (set l (place_of source.place l) (moved_row slot cap s.row)) ≡ moved (address_of p source) (address_of p slot) cap (forest_of p l)
rows_moved p source slot cap l s a = rows_edited p source (moved_row slot cap) (λ (e : Entry). entry (address_of p slot) cap e.original) l s a (λ r. refl) (λ r. refl)

-- the row with another free index
abbrev pub freed_row : ℕ → Row → Row
freed_row free r = record { slot = r.slot; cap = with_free free r.cap; original = r.original; depth = r.depth }

pub rows_freed : (p : ProfileName) (slot : Slot) (free : ℕ) (l : List Row) (s : Stands p slot l) → AreApart l
    → forest_of p (set l (place_of slot.place l) (freed_row free s.row)) ≡ freed (address_of p slot) free (forest_of p l)
rows_freed p slot free l s a = rows_edited p slot (freed_row free) (λ (e : Entry). entry e.slot (with_free free e.cap) e.original) l s a (λ r. refl) (λ r. refl)

-- the rows stay in order

each_swap : (P : Row → Type 0) (pre : List Row) (s x : Row) (post : List Row) → Each P (pre ++ s ∷ post) → (P s → P x) → Each P (pre ++ x ∷ post)
each_swap P [] s x post h k = (k h.0, h.1)
each_swap P (q ∷ pre) s x post h k = (h.0, each_swap P pre s x post h.1 k)

apart_here : (pre : List Row) (s x : Row) (post : List Row) → AreApart (pre ++ s ∷ post) → x.slot.place ≡ s.slot.place → AreApart (pre ++ x ∷ post)
apart_here [] s x post h e = (let P : ℕ → Type 0 = λ n. Each (λ (q : Row). q.slot.place ≢ n) post in subst P (sym e) h.0, h.1)
apart_here (q ∷ pre) s x post h e = (each_swap (λ (o : Row). o.slot.place ≢ q.slot.place) pre s x post h.0 (λ n c. n (sym e ∙ c)), apart_here pre s x post h.1 e)

apart_moved : (pre : List Row) (s x : Row) (post : List Row) → AreApart (pre ++ s ∷ post) → Each (λ (q : Row). q.slot.place ≢ x.slot.place) (pre ++ s ∷ post) → AreApart (pre ++ x ∷ post)
apart_moved [] s x post h k = (k.1, h.1)
apart_moved (q ∷ pre) s x post h k = (each_swap (λ (o : Row). o.slot.place ≢ q.slot.place) pre s x post h.0 (λ n c. k.0 (sym c)), apart_moved pre s x post h.1 k.1)

stepwise_here : (d : ℕ) (pre : List Row) (s x : Row) (post : List Row) → IsStepwise d (pre ++ s ∷ post) → x.depth ≡ s.depth → x.original ≡ s.original → IsStepwise d (pre ++ x ∷ post)
stepwise_here d [] s x post h e o =
    let a : s.depth ≤ d = h.0 in
    let b : derived_depth x ≡ derived_depth s = ap (λ c. cond c (x.depth + 1) x.depth) o ∙ ap (λ n. cond s.original (n + 1) n) e in
    (omega arith, let P : ℕ → Type 0 = λ n. IsStepwise n post in subst P (sym b) h.1)
stepwise_here d (q ∷ pre) s x post h e o = (h.0, stepwise_here (derived_depth q) pre s x post h.1 e o)

store_edited : (p : ProfileName) (m c : ℕ) (slot : Slot) (l : List Row) (s : Stands p slot l) (x : Row) → IsRowStore p m c l → AreApart (s.pre ++ x ∷ s.post) → address_of p x.slot < 2 ^ m
    → IsLawful p m x.cap → x.depth ≡ s.row.depth → x.original ≡ s.row.original → (is_untyped x.cap ≡ true → x.original ≡ true) → IsRowStore p m c (set l (place_of slot.place l) x)
store_edited p m c slot l s x t a w f d o u =
    let P : List Row → Type 0 = IsRowStore p m c in
    subst P (sym (set_there p slot l s x)) (record {
      apart = a;
      stepwise = stepwise_here 0 s.pre s.row x s.post (let Q : List Row → Type 0 = IsStepwise 0 in subst Q s.parts t.stepwise) d o;
      within = each_swap (λ (r : Row). address_of p r.slot < 2 ^ m) s.pre s.row x s.post (let Q : List Row → Type 0 = Each (λ (r : Row). address_of p r.slot < 2 ^ m) in subst Q s.parts t.within) (λ h. w);
      lawful = each_swap (λ (r : Row). IsLawful p m r.cap) s.pre s.row x s.post (let Q : List Row → Type 0 = Each (λ (r : Row). IsLawful p m r.cap) in subst Q s.parts t.lawful) (λ h. f);
      untyped = each_swap (λ (r : Row). is_untyped r.cap ≡ true → r.original ≡ true) s.pre s.row x s.post (let Q : List Row → Type 0 = Each (λ (r : Row). is_untyped r.cap ≡ true → r.original ≡ true) in subst Q s.parts t.untyped) (λ h. u);
      room = t.room;
    })

-- an untyped row is original
pub standing_untyped : (p : ProfileName) (slot : Slot) (l : List Row) (s : Stands p slot l) → Each (λ (r : Row). is_untyped r.cap ≡ true → r.original ≡ true) l → is_untyped s.row.cap ≡ true
    → s.row.original ≡ true
standing_untyped p slot l s h =
    let Q : List Row → Type 0 = Each (λ (r : Row). is_untyped r.cap ≡ true → r.original ≡ true) in
    (each-right_part (λ (r : Row). is_untyped r.cap ≡ true → r.original ≡ true) s.pre (s.row ∷ s.post) (subst Q s.parts h)).0

-- what names the same is untyped where the other is
pub named_untyped : (a b : Cap) → names_same a b ≡ true → is_untyped a ≡ is_untyped b
named_untyped (Untyped i bits free) (Untyped j bits' free') h = refl
named_untyped (Untyped i bits free) Null h = absurd (let n : false ≡ true = h in cc)
named_untyped (Untyped i bits free) (Endpoint j badge rights) h = absurd (let n : false ≡ true = h in cc)
named_untyped (Untyped i bits free) (CNode j radix guard) h = absurd (let n : false ≡ true = h in cc)
named_untyped (Untyped i bits free) (Tcb j) h = absurd (let n : false ≡ true = h in cc)
named_untyped Null b h = absurd (let n : false ≡ true = h in cc)
named_untyped (Endpoint i badge rights) (Untyped j bits free) h = absurd (let n : false ≡ true = h in cc)
named_untyped (Endpoint i badge rights) Null h = refl
named_untyped (Endpoint i badge rights) (Endpoint j badge' rights') h = refl
named_untyped (Endpoint i badge rights) (CNode j radix guard) h = refl
named_untyped (Endpoint i badge rights) (Tcb j) h = refl
named_untyped (CNode i radix guard) (Untyped j bits free) h = absurd (let n : false ≡ true = h in cc)
named_untyped (CNode i radix guard) Null h = refl
named_untyped (CNode i radix guard) (Endpoint j badge rights) h = refl
named_untyped (CNode i radix guard) (CNode j radix' guard') h = refl
named_untyped (CNode i radix guard) (Tcb j) h = refl
named_untyped (Tcb i) (Untyped j bits free) h = absurd (let n : false ≡ true = h in cc)
named_untyped (Tcb i) Null h = refl
named_untyped (Tcb i) (Endpoint j badge rights) h = refl
named_untyped (Tcb i) (CNode j radix guard) h = refl
named_untyped (Tcb i) (Tcb j) h = refl

pub store_moved : (p : ProfileName) (m c : ℕ) (source slot : Slot) (cap : Cap) (l : List Row) (s : Stands p source l) → IsRowStore p m c l → address_of p slot < 2 ^ m
    → is_full (address_of p slot) (forest_of p l) ≡ false → IsLawful p m cap → names_same (cap_at (forest_of p l) (address_of p source)) cap ≡ true
    → IsRowStore p m c (set l (place_of source.place l) (moved_row slot cap s.row))
store_moved p m c source slot cap l s t w h f n =
    let named : is_untyped s.row.cap ≡ is_untyped cap = named_untyped s.row.cap cap (ap (λ (k : Cap). names_same k cap) (sym (standing_cap p source l s)) ∙ n) in
    store_edited p m c source l s (moved_row slot cap s.row) t
    (apart_moved s.pre s.row (moved_row slot cap s.row) s.post (let Q : List Row → Type 0 = AreApart in subst Q s.parts t.apart)
    (let Q : List Row → Type 0 = Each (λ (q : Row). q.slot.place ≢ slot.place) in subst Q s.parts (empty_others p slot l h)))
    w f refl refl (λ u. standing_untyped p source l s t.untyped (named ∙ u))

-- an untyped capability is in a full slot
pub untyped_full : (a : ℕ) (es : List Entry) → is_untyped (cap_in a es) ≡ true → list_any (is_at a) es ≡ true
untyped_full a [] h = absurd (let n : false ≡ true = h in cc)
untyped_full a (e ∷ es) h =
    (elim (e.slot == a) as (λ c. is_untyped (cond c e.cap (cap_in a es)) ≡ true → (c || list_any (is_at a) es) ≡ true) [
      | true ↦ λ k. refl
      | false ↦ λ k. untyped_full a es k
    ]) h

freed_untyped : (free : ℕ) (cap : Cap) → is_untyped (with_free free cap) ≡ is_untyped cap
freed_untyped free Null = refl
freed_untyped free (Untyped base bits former) = refl
freed_untyped free (Endpoint base badge rights) = refl
freed_untyped free (CNode base radix guard) = refl
freed_untyped free (Tcb base) = refl

pub store_freed : (p : ProfileName) (m c : ℕ) (slot : Slot) (free : ℕ) (l : List Row) (s : Stands p slot l) → IsRowStore p m c l
    → IsLawful p m (with_free free (cap_at (forest_of p l) (address_of p slot))) → IsRowStore p m c (set l (place_of slot.place l) (freed_row free s.row))
store_freed p m c slot free l s t f =
    store_edited p m c slot l s (freed_row free s.row) t
    (apart_here s.pre s.row (freed_row free s.row) s.post (let Q : List Row → Type 0 = AreApart in subst Q s.parts t.apart) refl)
    ((each-right_part (λ (r : Row). address_of p r.slot < 2 ^ m) s.pre (s.row ∷ s.post) (let Q : List Row → Type 0 = Each (λ (r : Row). address_of p r.slot < 2 ^ m) in subst Q s.parts t.within)).0)
    (let P : Cap → Type 0 = λ k. IsLawful p m (with_free free k) in subst P (standing_cap p slot l s) f)
    refl refl (λ u. standing_untyped p slot l s t.untyped (sym (freed_untyped free s.row.cap) ∙ u))
