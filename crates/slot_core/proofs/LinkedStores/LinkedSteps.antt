-- The edits of the table, seen as the store's calls: what the store keeps, and what each is to its forest.
use Rattle.std.proofs.Common.{nat_le, ◌≡◌, ◌≢◌, ℕ, ◌+◌, ◌*◌, ◌^◌, ◌<◌, ◌≤◌, Bool, true, false, ◌==◌, List, [], ◌∷◌, ◌++◌, map, length, Option, Some, None, ◌⊎◌, refl, sym, ◌∙◌, ap, subst, arith, IfSome}
use Rattle.std.specs.List.{AllByRecursion as Each, list_any}
use Rattle.std.proofs.Math.Nat.{one-le-pow, mul-le-mul_right}
use Rattle.std.proofs.lemmas.Bool.{eqb-true}
use Rattle.std.proofs.lemmas.Bool.Decides.{nat_tests}
use Rattle.cap_core.specs.declared.profile.ProfileName.{ProfileName}
use Rattle.cap_core.specs.declared.capability.Cap.{Cap}
use Rattle.cap_core.specs.Numbers.{slot_bits, slot_size}
use Rattle.cap_core.specs.Objects.{is_untyped, badge_of, contains, IsLawful}
use Rattle.slot_core.specs.declared.linked.table.Link.{Link}
use Rattle.kernel_forest.specs.Forest.{Forest}
use Rattle.kernel_forest.specs.Entries.{Entry, is_at, is_full, cap_at, first_child}
use Rattle.kernel_forest.specs.Derivation.{derived, rooted, retyped, moved, emptied, is_new_original, names_same, is_named}
use Rattle.kernel_forest.specs.Disjoint.{IsDisjoint}
use Rattle.kernel_forest.specs.Marked.{Marked, marked, at_place, with_cap, entry_of, forest_of, stands_at, IsMarkedList}
use Rattle.slot_core.specs.TableEdits.{PutsBehind, Appends, TakesOut, Replaces}
use Rattle.slot_core.specs.Links.{next_of, previous_of, row_of, head_or, last_or, Lacks, IsApart, IsLinked, order_of, rows_of, exponent, memory_of, IsLinkedStore}
use Rattle.kernel_forest.proofs.Trees.Built.{Absent}
use Rattle.slot_core.proofs.LinkedStores.Chains.{each-at}
use Rattle.slot_core.proofs.LinkedStores.Linkings.{walked, map-parts, StandsBetween, between, inserted, appended}
use Rattle.slot_core.proofs.LinkedStores.Unlinkings.{removed, replaced}
use Rattle.kernel_forest.specs.MarkedEdits.{appended as list_appended, object_behind, derived_behind, moved_to, handed_on, taken_out}
use Rattle.kernel_forest.proofs.Marked.ListEdits.{put_behind-at, derived_behind-at, changed_at-at, taken_out-at}
use Rattle.kernel_forest.proofs.Marked.MarkedLines.{entries_of, absent_at}
use Rattle.kernel_forest.proofs.Marked.MarkedSteps.{StandsIn, cap_standing, derived_list}
use Rattle.kernel_forest.proofs.Marked.MarkedEdits.{AreApart, stands_in, rooted_list, retyped_list, moved_list, removed_list}

-- places and addresses

pub size_positive : (p : ProfileName) → 1 ≤ slot_size p
size_positive p = one-le-pow (slot_bits p) 2 (omega arith)

pub same_place : (p : ProfileName) (i j : ℕ) → (i * slot_size p == j * slot_size p) ≡ (i == j)
same_place p i j = step i j (slot_size p) (size_positive p)
  where
    apart : (i j n : ℕ) → 1 ≤ n → i < j → i * n < j * n
    apart i j n h l = let d : (i + 1) * n ≤ j * n = mul-le-mul_right n (omega arith) in let e : (i + 1) * n ≡ i * n + n = grind arith in omega arith

    step : (i j n : ℕ) → 1 ≤ n → (i * n == j * n) ≡ (i == j)
    step i j n h = grind (arith, nat_tests, apart i j n h, apart j i n h)

pub place_within : (p : ProfileName) (s c i : ℕ) → s ≡ c * slot_size p → i * slot_size p < s → i < c
place_within p s c i room h = step i c (slot_size p) s room h
  where
    le_of : (c i : ℕ) → nat_le c i ≡ true → c ≤ i
    le_of c i e = grind (arith, nat_tests)

    lt_of : (c i : ℕ) → nat_le c i ≡ false → i < c
    lt_of c i e = grind (arith, nat_tests)

    times : (i c n : ℕ) → c ≤ i → c * n ≤ i * n
    times i c n h = mul-le-mul_right n h

    step : (i c n s : ℕ) → s ≡ c * n → i * n < s → i < c
    step i c n s room h = (elim (nat_le c i) as (λ b. nat_le c i ≡ b → i < c) [ true ↦ λ e. absurd (let d : c * n ≤ i * n = times i c n (le_of c i e) in omega arith) | false ↦ λ e. lt_of c i e ]) refl

-- the rows of slots that are apart

other_number : (i j : ℕ) → j ≢ i → (j == i) ≡ false
other_number i j h = grind (arith, nat_tests)

differ : (i j : ℕ) → (j == i) ≡ false → j ≢ i
differ i j h = grind (arith, nat_tests)

pub absent_rows : (p : ProfileName) (links : List Link) (n : ℕ) (l : List ℕ) → Lacks n l → Absent (stands_at p n) (map (row_of links) l)
absent_rows p links n [] h = tt
absent_rows p links n (i ∷ l) h = (same_place p i n ∙ other_number n i h.0, absent_rows p links n l h.1)

pub lacks_rows : (p : ProfileName) (links : List Link) (n : ℕ) (l : List ℕ) → Absent (stands_at p n) (map (row_of links) l) → Lacks n l
lacks_rows p links n [] h = tt
lacks_rows p links n (i ∷ l) h = (differ n i (sym (same_place p i n) ∙ h.0), lacks_rows p links n l h.1)

pub apart_rows : (p : ProfileName) (links : List Link) (l : List ℕ) → IsApart l → AreApart p (map (row_of links) l)
apart_rows p links [] h = tt
apart_rows p links (i ∷ l) h = (absent_rows p links i l h.0, apart_rows p links l h.1)

-- where a full slot stands in the list
order_split : (p : ProfileName) (links : List Link) (n : ℕ) (l : List ℕ) → list_any (is_at (n * slot_size p)) (map (entry_of p) (map (row_of links) l)) ≡ true
    → (pre : List ℕ) × (post : List ℕ) × (l ≡ pre ++ n ∷ post)
order_split p links n [] h = cc
order_split p links n (i ∷ l) h = step (i * slot_size p == n * slot_size p) refl (order_split p links n l)
  where
    step : (b : Bool) → (i * slot_size p == n * slot_size p) ≡ b
        → (list_any (is_at (n * slot_size p)) (map (entry_of p) (map (row_of links) l)) ≡ true → (pre : List ℕ) × (post : List ℕ) × (l ≡ pre ++ n ∷ post))
        → (pre : List ℕ) × (post : List ℕ) × (i ∷ l ≡ pre ++ n ∷ post)
    step true e ih = ([], l, ap (λ j. j ∷ l) (eqb-true i n (sym (same_place p i n) ∙ e)))
    step false e ih =
        let r : (pre : List ℕ) × (post : List ℕ) × (l ≡ pre ++ n ∷ post) = ih (rw e at h) in
        (i ∷ r.0, r.1, ap (λ m. i ∷ m) r.2)

-- a full slot in its list
pub record Splits (p : ProfileName) (links : List Link) (first last : Option ℕ) (n : ℕ) : Type 0 where
  pub pre : List ℕ
  pub post : List ℕ
  pub order : order_of links first ≡ pre ++ n ∷ post
  pub linked : IsLinked links first last (pre ++ n ∷ post)
  pub rows : rows_of links first ≡ map (row_of links) pre ++ row_of links n ∷ map (row_of links) post
  pub kept : IsMarkedList p (memory_of p links) (map (row_of links) pre ++ row_of links n ∷ map (row_of links) post)
  pub apart : AreApart p (map (row_of links) pre ++ row_of links n ∷ map (row_of links) post)
  pub stands : StandsIn p (map (row_of links) pre) (row_of links n) (map (row_of links) post)
  pub within : n < length links
  pub between : StandsBetween links first last pre n post

pub splits : (p : ProfileName) (links : List Link) (first last : Option ℕ) (n : ℕ) → IsLinkedStore p links first last
    → is_full (n * slot_size p) (forest_of p (rows_of links first)) ≡ true → Splits p links first last n
splits p links first last n inv full =
    let r : (pre : List ℕ) × (post : List ℕ) × (order_of links first ≡ pre ++ n ∷ post) =
    order_split p links n (order_of links first) (sym (ap (list_any (is_at (n * slot_size p))) (entries_of p (rows_of links first))) ∙ full) in
    let L : List ℕ → Type 0 = IsLinked links first last in
    let linked : IsLinked links first last (r.0 ++ n ∷ r.1) = subst L r.2 inv.linked in
    let rows : rows_of links first ≡ map (row_of links) r.0 ++ row_of links n ∷ map (row_of links) r.1 = ap (map (row_of links)) r.2 ∙ map-parts (row_of links) r.0 (n ∷ r.1) in
    let K : List Marked → Type 0 = IsMarkedList p (memory_of p links) in
    let A : List Marked → Type 0 = AreApart p in
    let apart : AreApart p (map (row_of links) r.0 ++ row_of links n ∷ map (row_of links) r.1) = subst A rows (apart_rows p links (order_of links first) inv.linked.apart) in
    record {
      pre = r.0;
      post = r.1;
      order = r.2;
      linked = linked;
      rows = rows;
      kept = subst K rows inv.kept;
      apart = apart;
      stands = stands_in p (map (row_of links) r.0) (row_of links n) (map (row_of links) r.1) apart;
      within = each-at (λ i. i < length links) r.0 n r.1 linked.within;
      between = between links first last r.0 n r.1 linked;
    }

pub cap_split : (p : ProfileName) (links : List Link) (first last : Option ℕ) (n : ℕ) → Splits p links first last n
    → cap_at (forest_of p (rows_of links first)) (n * slot_size p) ≡ (row_of links n).cap
cap_split p links first last n s =
    ap (λ (l : List Marked). cap_at (forest_of p l) (n * slot_size p)) s.rows
    ∙ cap_standing p (map (row_of links) s.pre) (row_of links n) (map (row_of links) s.post) s.stands.front

-- an empty slot is not in the list
pub empty_lacks : (p : ProfileName) (links : List Link) (first : Option ℕ) (n : ℕ) → is_full (n * slot_size p) (forest_of p (rows_of links first)) ≡ false → Lacks n (order_of links first)
empty_lacks p links first n h = lacks_rows p links n (order_of links first) (absent_at p n (rows_of links first) h)

-- the neighbours lie within the table

if_head : (n : ℕ) (l : List ℕ) → Each (λ i. i < n) l → IfSome (head_or l None) (λ i. i < n)
if_head n [] h = tt
if_head n (i ∷ l) h = h.0

if_last : (n : ℕ) (before : Option ℕ) (l : List ℕ) → IfSome before (λ i. i < n) → Each (λ i. i < n) l → IfSome (last_or before l) (λ i. i < n)
if_last n before [] b h = b
if_last n before (i ∷ l) b h = if_last n (Some i) l h.0 h.1

back_of : (P : ℕ → Type 0) (pre : List ℕ) (n : ℕ) (post : List ℕ) → Each P (pre ++ n ∷ post) → Each P post
back_of P [] n post h = h.1
back_of P (a ∷ pre) n post h = back_of P pre n post h.1

front_of : (P : ℕ → Type 0) (pre : List ℕ) (n : ℕ) (post : List ℕ) → Each P (pre ++ n ∷ post) → Each P pre
front_of P [] n post h = tt
front_of P (a ∷ pre) n post h = (h.0, front_of P pre n post h.1)

pub next_within : (p : ProfileName) (links : List Link) (first last : Option ℕ) (n : ℕ) → Splits p links first last n → IfSome (next_of links n) (λ i. i < length links)
next_within p links first last n s =
    let Q : Option ℕ → Type 0 = λ o. IfSome o (λ i. i < length links) in
    subst Q (sym s.between.next) (if_head (length links) s.post (back_of (λ i. i < length links) s.pre n s.post s.linked.within))

pub previous_within : (p : ProfileName) (links : List Link) (first last : Option ℕ) (n : ℕ) → Splits p links first last n → IfSome (previous_of links n) (λ i. i < length links)
previous_within p links first last n s =
    let Q : Option ℕ → Type 0 = λ o. IfSome o (λ i. i < length links) in
    subst Q (sym s.between.previous) (if_last (length links) None s.pre tt (front_of (λ i. i < length links) s.pre n s.post s.linked.within))

pub last_within : (p : ProfileName) (links : List Link) (first last : Option ℕ) → IsLinkedStore p links first last → IfSome last (λ i. i < length links)
last_within p links first last inv =
    let Q : Option ℕ → Type 0 = λ o. IfSome o (λ i. i < length links) in
    subst Q (sym inv.linked.ends) (if_last (length links) None (order_of links first) tt inv.linked.within)

-- what the table is after a call: a store with that list, which stands for that forest, and the memory as it was
pub record Becomes (p : ProfileName) (links : List Link) (first last : Option ℕ) (bits : ℕ) (rows : List Marked) (f : Forest Entry) : Type 0 where
  pub kept : IsLinkedStore p links first last
  pub list : rows_of links first ≡ rows
  pub memory : memory_of p links ≡ bits
  pub forest : forest_of p (rows_of links first) ≡ f

-- a store, of what its list is
pub finished : (p : ProfileName) (links links' : List Link) (first' last' : Option ℕ) (order : List ℕ) (rows list : List Marked) (f : Forest Entry) → 2 ^ memory_of p links ≡ length links * slot_size p
    → length links' ≡ length links → IsLinked links' first' last' order → map (row_of links') order ≡ rows → list ≡ rows → IsMarkedList p (memory_of p links) rows → forest_of p rows ≡ f
    → Becomes p links' first' last' (memory_of p links) list f
finished p links links' first' last' order rows list f size long ok is named kept e =
    let o : order_of links' first' ≡ order = walked links' first' last' order ok in
    let is' : rows_of links' first' ≡ rows = ap (map (row_of links')) o ∙ is in
    let memory : memory_of p links' ≡ memory_of p links = ap (λ n. slot_bits p + exponent n n) long in
    let L : List ℕ → Type 0 = IsLinked links' first' last' in
    let K : List Marked → Type 0 = IsMarkedList p (memory_of p links) in
    let M : ℕ → Type 0 = λ m. IsMarkedList p m (rows_of links' first') in
    record {
      kept = record {
        linked = subst L (sym o) ok;
        kept = subst M (sym memory) (subst K (sym is') kept);
        size = ap (λ n. 2 ^ n) memory ∙ size ∙ ap (λ n. n * slot_size p) (sym long);
      };
      list = is' ∙ sym named;
      memory = memory;
      forest = ap (forest_of p) is' ∙ e;
    }

-- the store's calls

pub rooted_store : (p : ProfileName) (links links' : List Link) (first first' last last' : Option ℕ) (n : ℕ) (cap : Cap) → IsLinkedStore p links first last
    → n * slot_size p < 2 ^ memory_of p links → is_full (n * slot_size p) (forest_of p (rows_of links first)) ≡ false → IsLawful p (memory_of p links) cap
    → is_named cap (forest_of p (rows_of links first)) ≡ false → IsDisjoint p (rooted (n * slot_size p) cap (forest_of p (rows_of links first)))
    → Appends links links' first first' last last' n (marked n cap true true)
    → Becomes p links' first' last' (memory_of p links) (list_appended n cap (rows_of links first)) (rooted (n * slot_size p) cap (forest_of p (rows_of links first)))
rooted_store p links links' first first' last last' n cap inv within empty lawful named dis w =
    let a = appended links links' first first' last last' (order_of links first) n (marked n cap true true) inv.linked (empty_lacks p links first n empty) (place_within p (2 ^ memory_of p links) (length links) n inv.size within) w in
    let k = rooted_list p (memory_of p links) (rows_of links first) n cap inv.kept lawful empty named dis in
    finished p links links' first' last' (order_of links first ++ n ∷ []) (rows_of links first ++ marked n cap true true ∷ []) (list_appended n cap (rows_of links first)) (rooted (n * slot_size p) cap (forest_of p (rows_of links first)))
    inv.size w.size a.0 a.1 refl k.0 k.1

pub retyped_store : (p : ProfileName) (links links' : List Link) (first first' last last' : Option ℕ) (u n : ℕ) (cap : Cap) → IsLinkedStore p links first last → Splits p links first last u
    → is_untyped (cap_at (forest_of p (rows_of links first)) (u * slot_size p)) ≡ true → contains p (cap_at (forest_of p (rows_of links first)) (u * slot_size p)) cap ≡ true
    → n * slot_size p < 2 ^ memory_of p links → is_full (n * slot_size p) (forest_of p (rows_of links first)) ≡ false → IsLawful p (memory_of p links) cap
    → is_named cap (forest_of p (rows_of links first)) ≡ false → IsDisjoint p (retyped (u * slot_size p) (n * slot_size p) cap (forest_of p (rows_of links first)))
    → PutsBehind links links' first first' last last' u n (marked n cap true true)
    → Becomes p links' first' last' (memory_of p links) (object_behind u n cap (rows_of links first)) (retyped (u * slot_size p) (n * slot_size p) cap (forest_of p (rows_of links first)))
retyped_store p links links' first first' last last' u n cap inv s untyped inside within empty lawful named dis w =
    let R : ℕ → Marked = row_of links in
    let rows : List Marked = map R s.pre ++ R u ∷ map R s.post in
    let c : cap_at (forest_of p (rows_of links first)) (u * slot_size p) ≡ (R u).cap = cap_split p links first last u s in
    let L : List ℕ → Type 0 = Lacks n in
    let F : List Marked → Type 0 = λ l. is_full (n * slot_size p) (forest_of p l) ≡ false in
    let N : List Marked → Type 0 = λ l. is_named cap (forest_of p l) ≡ false in
    let D : List Marked → Type 0 = λ l. IsDisjoint p (retyped (u * slot_size p) (n * slot_size p) cap (forest_of p l)) in
    let U : Cap → Type 0 = λ a. is_untyped a ≡ true in
    let C : Cap → Type 0 = λ a. contains p a cap ≡ true in
    let a = inserted links links' first first' last last' s.pre u n s.post (marked n cap true true) s.linked (subst L s.order (empty_lacks p links first n empty))
    (place_within p (2 ^ memory_of p links) (length links) n inv.size within) w in
    let k = retyped_list p (memory_of p links) (map R s.pre) (R u) (map R s.post) n cap s.kept s.apart (subst U c untyped) (subst C c inside) lawful (subst F s.rows empty) (subst N s.rows named) (subst D s.rows dis) in
    finished p links links' first' last' (s.pre ++ u ∷ n ∷ s.post) (map R s.pre ++ R u ∷ marked n cap true true ∷ map R s.post) (object_behind u n cap (rows_of links first)) (retyped (u * slot_size p) (n * slot_size p) cap (forest_of p (rows_of links first)))
    inv.size w.size a.0 a.1 (ap (object_behind u n cap) s.rows ∙ put_behind-at p (marked n cap true true) (map R s.pre) (R u) (map R s.post) s.stands.front) k.0 (k.1 ∙ ap (λ (l : List Marked). retyped (u * slot_size p) (n * slot_size p) cap (forest_of p l)) (sym s.rows))

pub derived_store : (p : ProfileName) (links links' : List Link) (first first' last last' : Option ℕ) (s n : ℕ) (cap : Cap) (o : Bool) → IsLinkedStore p links first last → Splits p links first last s
    → o ≡ is_new_original (row_of links s).cap cap → n * slot_size p < 2 ^ memory_of p links → is_full (n * slot_size p) (forest_of p (rows_of links first)) ≡ false → IsLawful p (memory_of p links) cap
    → names_same (cap_at (forest_of p (rows_of links first)) (s * slot_size p)) cap ≡ true
    → (badge_of cap ≡ badge_of (cap_at (forest_of p (rows_of links first)) (s * slot_size p))) ⊎ (badge_of (cap_at (forest_of p (rows_of links first)) (s * slot_size p)) ≡ 0)
    → (is_untyped cap ≡ true → first_child (s * slot_size p) (forest_of p (rows_of links first)) ≡ None)
    → IsDisjoint p (derived (s * slot_size p) (n * slot_size p) cap (forest_of p (rows_of links first)))
    → PutsBehind links links' first first' last last' s n (marked n cap o o)
    → Becomes p links' first' last' (memory_of p links) (derived_behind s n cap (rows_of links first)) (derived (s * slot_size p) (n * slot_size p) cap (forest_of p (rows_of links first)))
derived_store p links links' first first' last last' s n cap o inv sp is within empty lawful same badge childless dis w =
    let R : ℕ → Marked = row_of links in
    let x : Marked = marked n cap (is_new_original (R s).cap cap) (is_new_original (R s).cap cap) in
    let c : cap_at (forest_of p (rows_of links first)) (s * slot_size p) ≡ (R s).cap = cap_split p links first last s sp in
    let W : Bool → Type 0 = λ b. PutsBehind links links' first first' last last' s n (marked n cap b b) in
    let L : List ℕ → Type 0 = Lacks n in
    let S : Cap → Type 0 = λ a. names_same a cap ≡ true in
    let B : Cap → Type 0 = λ a. (badge_of cap ≡ badge_of a) ⊎ (badge_of a ≡ 0) in
    let H : List Marked → Type 0 = λ l. is_untyped cap ≡ true → first_child (s * slot_size p) (forest_of p l) ≡ None in
    let D : List Marked → Type 0 = λ l. IsDisjoint p (derived (s * slot_size p) (n * slot_size p) cap (forest_of p l)) in
    let w' : PutsBehind links links' first first' last last' s n x = subst W is w in
    let a = inserted links links' first first' last last' sp.pre s n sp.post x sp.linked (subst L sp.order (empty_lacks p links first n empty))
    (place_within p (2 ^ memory_of p links) (length links) n inv.size within) w' in
    let k = derived_list p (memory_of p links) (map R sp.pre) (R s) (map R sp.post) n cap sp.kept sp.stands lawful (subst S c same) (subst B c badge) (subst H sp.rows childless) (subst D sp.rows dis) in
    finished p links links' first' last' (sp.pre ++ s ∷ n ∷ sp.post) (map R sp.pre ++ R s ∷ x ∷ map R sp.post) (derived_behind s n cap (rows_of links first)) (derived (s * slot_size p) (n * slot_size p) cap (forest_of p (rows_of links first)))
    inv.size w.size a.0 a.1 (ap (derived_behind s n cap) sp.rows ∙ derived_behind-at p n cap (map R sp.pre) (R s) (map R sp.post) sp.stands.front) k.0 (k.1 ∙ ap (λ (l : List Marked). derived (s * slot_size p) (n * slot_size p) cap (forest_of p l)) (sym sp.rows))

pub moved_store : (p : ProfileName) (links links' : List Link) (first first' last last' : Option ℕ) (s n : ℕ) (cap : Cap) → IsLinkedStore p links first last → Splits p links first last s
    → n * slot_size p < 2 ^ memory_of p links → is_full (n * slot_size p) (forest_of p (rows_of links first)) ≡ false → IsLawful p (memory_of p links) cap
    → names_same (cap_at (forest_of p (rows_of links first)) (s * slot_size p)) cap ≡ true → badge_of cap ≡ badge_of (cap_at (forest_of p (rows_of links first)) (s * slot_size p))
    → IsDisjoint p (moved (s * slot_size p) (n * slot_size p) cap (forest_of p (rows_of links first)))
    → Replaces links links' first first' last last' s n cap
    → Becomes p links' first' last' (memory_of p links) (moved_to s n cap (rows_of links first)) (moved (s * slot_size p) (n * slot_size p) cap (forest_of p (rows_of links first)))
moved_store p links links' first first' last last' s n cap inv sp within empty lawful same badge dis w =
    let R : ℕ → Marked = row_of links in
    let c : cap_at (forest_of p (rows_of links first)) (s * slot_size p) ≡ (R s).cap = cap_split p links first last s sp in
    let L : List ℕ → Type 0 = Lacks n in
    let S : Cap → Type 0 = λ a. names_same a cap ≡ true in
    let D : List Marked → Type 0 = λ l. IsDisjoint p (moved (s * slot_size p) (n * slot_size p) cap (forest_of p l)) in
    let a = replaced links links' first first' last last' sp.pre s n sp.post cap sp.linked (subst L sp.order (empty_lacks p links first n empty))
    (place_within p (2 ^ memory_of p links) (length links) n inv.size within) w in
    let k = moved_list p (memory_of p links) (map R sp.pre) (R s) (map R sp.post) n cap sp.kept sp.stands lawful (subst S c same) (badge ∙ ap badge_of c) (subst D sp.rows dis) in
    finished p links links' first' last' (sp.pre ++ n ∷ sp.post) (map R sp.pre ++ at_place n (with_cap cap (R s)) ∷ map R sp.post) (moved_to s n cap (rows_of links first)) (moved (s * slot_size p) (n * slot_size p) cap (forest_of p (rows_of links first)))
    inv.size w.size a.0 a.1 (ap (moved_to s n cap) sp.rows ∙ changed_at-at p (λ (r : Marked). at_place n (with_cap cap r)) (map R sp.pre) (R s) (map R sp.post) sp.stands.front) k.0 (k.1 ∙ ap (λ (l : List Marked). moved (s * slot_size p) (n * slot_size p) cap (forest_of p l)) (sym sp.rows))

pub emptied_store : (p : ProfileName) (links links' : List Link) (first first' last last' : Option ℕ) (s : ℕ) → IsLinkedStore p links first last → Splits p links first last s
    → TakesOut links links' first first' last last' s
    → Becomes p links' first' last' (memory_of p links) (taken_out s (rows_of links first)) (emptied (s * slot_size p) (forest_of p (rows_of links first)))
emptied_store p links links' first first' last last' s inv sp w =
    let R : ℕ → Marked = row_of links in
    let a = removed links links' first first' last last' sp.pre s sp.post sp.linked w in
    let k = removed_list p (memory_of p links) (map R sp.pre) (R s) (map R sp.post) sp.kept sp.apart in
    finished p links links' first' last' (sp.pre ++ sp.post) (map R sp.pre ++ handed_on (R s).first_badged (map R sp.post)) (taken_out s (rows_of links first)) (emptied (s * slot_size p) (forest_of p (rows_of links first)))
    inv.size w.size a.0 a.1 (ap (taken_out s) sp.rows ∙ taken_out-at p (map R sp.pre) (R s) (map R sp.post) sp.stands.front) k.0 (k.1 ∙ ap (λ (l : List Marked). emptied (s * slot_size p) (forest_of p l)) (sym sp.rows))

-- seen through the slice of a vector
pub through : (p : ProfileName) (old mid new k : List Link) (first last first' last' : Option ℕ) (value : List Marked × ℕ) (list : List Marked → List Marked) (edit : Forest Entry → Forest Entry)
    → mid ≡ old → k ≡ new → (rows_of old first, memory_of p old) ≡ value → IsLinkedStore p old first last
    → ((rows_of mid first, memory_of p mid) ≡ value → IsLinkedStore p mid first last → Becomes p new first' last' (memory_of p mid) (list (rows_of mid first)) (edit (forest_of p (rows_of mid first))))
    → Becomes p k first' last' value.1 (list value.0) (edit (forest_of p value.0))
through p old mid new k first last first' last' value list edit e ek v inv step =
    let V : List Link → Type 0 = λ m. (rows_of m first, memory_of p m) ≡ value in
    let I : List Link → Type 0 = λ m. IsLinkedStore p m first last in
    let B : List Link → Type 0 = λ m. Becomes p m first' last' value.1 (list value.0) (edit (forest_of p value.0)) in
    let C : List Marked × ℕ → Type 0 = λ x. Becomes p new first' last' x.1 (list x.0) (edit (forest_of p x.0)) in
    let v' : (rows_of mid first, memory_of p mid) ≡ value = subst V (sym e) v in
    subst B (sym ek) (subst C v' (step v' (subst I (sym e) inv)))
