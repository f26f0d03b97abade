-- The other calls' edits of the marked list: what the list keeps, and what each edit is to its forest.
use Rattle.std.proofs.Common.{◌≡◌, ◌≢◌, ℕ, ◌*◌, true, false, cond, not, ◌==◌, eq-eqb, List, [], ◌∷◌, ◌++◌, map, Some, None, refl, sym, ◌∙◌, ap, subst}
use Rattle.std.specs.Bool.{⊤}
use Rattle.std.specs.List.{AllByRecursion as Each}
use Rattle.std.proofs.lemmas.Bool.{eqb-true, and_from}
use Rattle.cap_core.specs.declared.profile.ProfileName.{ProfileName}
use Rattle.cap_core.specs.declared.capability.Cap.{Cap}
use Rattle.cap_core.specs.declared.capability.Cap.TheVariants.{Null, Untyped, Endpoint, CNode, Tcb}
use Rattle.cap_core.specs.Numbers.{slot_size}
use Rattle.cap_core.specs.Objects.{is_null, is_untyped, badge_of, same_object, contains, in_region, IsLawful}
use Rattle.kernel_forest.specs.Forest.{Forest, preorder, renamed as relabelled}
use Rattle.kernel_forest.specs.Entries.{Entry, entry, is_at, is_full}
use Rattle.kernel_forest.specs.Derivation.{rooted, retyped, moved, freed, emptied, with_free, names_same, is_named}
use Rattle.kernel_forest.specs.Disjoint.{IsDisjoint}
use Rattle.kernel_forest.specs.MarkedEdits.{handed_on}
use Rattle.kernel_forest.specs.Marked.{Marked, marked, at_place, with_cap, with_mark, entry_of, forest_of, stands_at, IsGathered, IsLed, IsNamedFirst, HasMarks, IsMarkedList}
use Rattle.kernel_forest.proofs.Trees.Forests.{each-left_part, each-right_part, each-append, each-weaker}
use Rattle.kernel_forest.proofs.Trees.Built.{Absent, Once, StopsAtOnce, at_one}
use Rattle.kernel_forest.proofs.Disjoint.Disjointness.{same_object-swap}
use Rattle.kernel_forest.proofs.Disjoint.DisjointRenamed.{disjoint-freed}
use Rattle.kernel_forest.proofs.Disjoint.DisjointEmptied.{disjoint-emptied}
use Rattle.kernel_forest.proofs.Disjoint.Alike.{alike_freed}
use Rattle.kernel_forest.proofs.Disjoint.InRegion.{NamesOne, names_one, one_alike, untyped-badge}
use Rattle.kernel_forest.proofs.Marked.MarkedPuts.{retype_below, root_behind}
use Rattle.kernel_forest.proofs.Marked.MarkedRenamed.{IsSameRow, row-self, forest_renamed, gathered-renamed, led-renamed, first-renamed, marks-renamed}
use Rattle.kernel_forest.proofs.Marked.MarkedRemoval.{remove_before, remove_last}
use Rattle.kernel_forest.proofs.Marked.MarkedKept.{Outside, each-put, each-gone, each-back, each-marked, gathered-push, gathered-gone, gathered-marked, led-back, led-put, led-push, led-gone, led-cut, first-gone, first-marked, marks-marked}
use Rattle.kernel_forest.proofs.Marked.MarkedLines.{entries_of, root_outside, unnamed, IsRetype}
use Rattle.kernel_forest.proofs.Marked.MarkedRetype.{IsOther, retype_takes_none, retype_outside, gathered-retype}
use Rattle.kernel_forest.proofs.Marked.MarkedSteps.{StandsIn}

-- no two of the list stand at one place
abbrev pub AreApart : ProfileName → List Marked → Type 0
AreApart p [] = ⊤
AreApart p (a ∷ l) = Absent (stands_at p a.place) l × AreApart p l

swap : (i j : ℕ) → (i == j) ≡ false → (j == i) ≡ false
swap i j h = (elim (j == i) as (λ c. (j == i) ≡ c → c ≡ false) [ true ↦ λ t. (let d : j ≡ i = eqb-true j i t in let t' : (i == j) ≡ true = eq-eqb i j (sym d) in cc) | false ↦ λ t. refl ]) refl

other_way : (p : ProfileName) (a b : Marked) → stands_at p a.place b ≡ false → stands_at p b.place a ≡ false
other_way p a b h = swap (b.place * slot_size p) (a.place * slot_size p) h

pub apart-front : (p : ProfileName) (xs ys : List Marked) → AreApart p (xs ++ ys) → AreApart p xs
apart-front p [] ys h = tt
apart-front p (x ∷ xs) ys h = (each-left_part (λ (b : Marked). stands_at p x.place b ≡ false) xs ys h.0, apart-front p xs ys h.1)

pub apart-back : (p : ProfileName) (xs ys : List Marked) → AreApart p (xs ++ ys) → AreApart p ys
apart-back p [] ys h = h
apart-back p (x ∷ xs) ys h = apart-back p xs ys h.1

pub absent-front : (p : ProfileName) (xs : List Marked) (s : Marked) (ys : List Marked) → AreApart p (xs ++ s ∷ ys) → Absent (stands_at p s.place) xs
absent-front p [] s ys h = tt
absent-front p (x ∷ xs) s ys h = (other_way p x s (each-right_part (λ (b : Marked). stands_at p x.place b ≡ false) xs (s ∷ ys) h.0).0, absent-front p xs s ys h.1)

pub stands_in : (p : ProfileName) (pre : List Marked) (s : Marked) (post : List Marked) → AreApart p (pre ++ s ∷ post) → StandsIn p pre s post
stands_in p pre s post h = record { front = absent-front p pre s post h; back = (apart-back p pre (s ∷ post) h).0 }

-- each of the front is apart from what follows
front_others : (p : ProfileName) (xs ys : List Marked) → AreApart p (xs ++ ys) → Each (λ (a : Marked). Absent (stands_at p a.place) ys) xs
front_others p [] ys h = tt
front_others p (x ∷ xs) ys h = (each-right_part (λ (b : Marked). stands_at p x.place b ≡ false) xs ys h.0, front_others p xs ys h.1)

back_others : (p : ProfileName) (pre : List Marked) (u : Marked) (post : List Marked) → AreApart p (pre ++ u ∷ post) → Each (IsOther p pre u) post
back_others p [] u post h = each-weaker (λ (b : Marked). stands_at p u.place b ≡ false) (IsOther p [] u) (λ b k. (tt, other_way p u b k)) post h.0
back_others p (x ∷ pre) u post h =
    both post (each-right_part (λ (b : Marked). stands_at p x.place b ≡ false) pre (u ∷ post) h.0).1 (back_others p pre u post h.1)
  where
    both : (l : List Marked) → Absent (stands_at p x.place) l → Each (IsOther p pre u) l → Each (IsOther p (x ∷ pre) u) l
    both [] a b = tt
    both (c ∷ l) a b = (((other_way p x c a.0, b.0.0), b.0.1), both l a.1 b.1)

-- a root capability, behind all

pub rooted_list : (p : ProfileName) (memory : ℕ) (l : List Marked) (n : ℕ) (cap : Cap) → IsMarkedList p memory l → IsLawful p memory cap
    → is_full (n * slot_size p) (forest_of p l) ≡ false → is_named cap (forest_of p l) ≡ false → IsDisjoint p (rooted (n * slot_size p) cap (forest_of p l))
    → IsMarkedList p memory (l ++ marked n cap true true ∷ []) × (forest_of p (l ++ marked n cap true true ∷ []) ≡ rooted (n * slot_size p) cap (forest_of p l))
rooted_list p memory l n cap k lawful empty named dis = (
  record {
    lawful = each-append (λ (r : Marked). IsLawful p memory r.cap) l (x ∷ []) k.lawful (lawful, tt);
    disjoint = (let P : Forest Entry → Type 0 = IsDisjoint p in subst P (sym forest) dis);
    gathered = gathered-push p l x outside k.gathered;
    led = led-push None l x refl k.led;
    named_first = first l (unnamed p cap l named) k.named_first;
    marks = each-append HasMarks l (x ∷ []) k.marks (record { untyped = λ u. refl; badged = λ z r. refl }, tt);
  },
  forest,
)
  where
    x : Marked
    x = marked n cap true true

    outside : Each (λ (a : Marked). in_region p a.cap cap ≡ false) l
    outside = root_outside p l n cap dis empty named

    forest : forest_of p (l ++ x ∷ []) ≡ rooted (n * slot_size p) cap (forest_of p l)
    forest = root_behind p l x outside

    first : (m : List Marked) → Each (λ (a : Marked). same_object a.cap cap ≡ false) m → IsNamedFirst m → IsNamedFirst (m ++ x ∷ [])
    first [] u h = (tt, tt)
    first (a ∷ m) u h = (
      each-append (λ (b : Marked). same_object a.cap b.cap ≡ true → b.revocable ≡ true → badge_of b.cap ≢ 0) m (x ∷ []) h.0
          ((λ e r. absurd (let no' : true ≡ false = sym e ∙ u.0 in cc)), tt),
      first m u.1 h.1,
    )

-- a new object's capability, directly behind its untyped region

not-null : (p : ProfileName) (a c : Cap) → is_untyped a ≡ true → is_null c ≡ false → contains p a c ≡ true → in_region p a c ≡ true
not-null p (Untyped i bits free) c u n h = and_from (not (is_null c)) (contains p (Untyped i bits free) c) (ap not n) h
not-null p Null c u n h = absurd (let no' : false ≡ true = u in cc)
not-null p (Endpoint i badge rights) c u n h = absurd (let no' : false ≡ true = u in cc)
not-null p (CNode i radix guard) c u n h = absurd (let no' : false ≡ true = u in cc)
not-null p (Tcb i) c u n h = absurd (let no' : false ≡ true = u in cc)

pub retyped_list : (p : ProfileName) (memory : ℕ) (pre : List Marked) (u : Marked) (post : List Marked) (n : ℕ) (cap : Cap) → IsMarkedList p memory (pre ++ u ∷ post) → AreApart p (pre ++ u ∷ post)
    → is_untyped u.cap ≡ true → contains p u.cap cap ≡ true → IsLawful p memory cap
    → is_full (n * slot_size p) (forest_of p (pre ++ u ∷ post)) ≡ false → is_named cap (forest_of p (pre ++ u ∷ post)) ≡ false
    → IsDisjoint p (retyped (u.place * slot_size p) (n * slot_size p) cap (forest_of p (pre ++ u ∷ post)))
    → IsMarkedList p memory (pre ++ u ∷ marked n cap true true ∷ post)
    × (forest_of p (pre ++ u ∷ marked n cap true true ∷ post) ≡ retyped (u.place * slot_size p) (n * slot_size p) cap (forest_of p (pre ++ u ∷ post)))
retyped_list p memory pre u post n cap k apart untyped inside lawful empty named dis = (
  record {
    lawful = put (λ (r : Marked). IsLawful p memory r.cap) pre k.lawful lawful;
    disjoint = (let P : Forest Entry → Type 0 = IsDisjoint p in subst P (sym forest) dis);
    gathered = gathered-retype p pre u x post region front_outside takes_none k.gathered;
    led = led-put None pre u x post (λ z e. absurd (let no' : true ≡ false = e in cc)) (behind post (led-back None pre u post k.led)) k.led;
    named_first = first pre (unnamed p cap (pre ++ u ∷ post) named) k.named_first;
    marks = put HasMarks pre k.marks (record { untyped = λ w. refl; badged = λ z r. refl });
  },
  forest,
)
  where
    x : Marked
    x = marked n cap true true

    st : StandsIn p pre u post
    st = stands_in p pre u post apart

    r : IsRetype p pre u post n cap
    r = record { disjoint = dis; empty = empty; named = named; front = st.front; back = st.back }

    mu : HasMarks u
    mu = (each-back HasMarks pre (u ∷ post) k.marks).0

    zero_badge : badge_of u.cap ≡ 0
    zero_badge = untyped-badge u.cap untyped

    region : in_region p u.cap cap ≡ true
    region = not-null p u.cap cap untyped lawful.full inside

    takes_none : Outside p x post
    takes_none = retype_takes_none p pre u post n cap r (back_others p pre u post apart)

    front_outside : Each (λ (a : Marked). in_region p a.cap u.cap ≡ false → in_region p a.cap cap ≡ false) pre
    front_outside = retype_outside p pre u post n cap r
        (each-weaker (λ (a : Marked). Absent (stands_at p a.place) (u ∷ post)) (λ (a : Marked). Absent (stands_at p a.place) post) (λ a h. h.1) pre (front_others p pre (u ∷ post) apart))
        (each-weaker (λ (a : Marked). Absent (stands_at p a.place) (u ∷ post)) (λ (a : Marked). stands_at p a.place u ≡ false) (λ a h. h.0) pre (front_others p pre (u ∷ post) apart))
        (λ first a rest e. let w : AreApart p (first ++ a ∷ rest) = (let Q : List Marked → Type 0 = AreApart p in subst Q (sym e) (apart-front p pre (u ∷ post) apart)) in
        (absent-front p first a rest w, (apart-back p first (a ∷ rest) w).0))

    stops : (l : List Marked) → Outside p x l → StopsAtOnce (λ (c : Marked). in_region p cap c.cap) l
    stops [] h = tt
    stops (c ∷ l) h = h.0

    forest : forest_of p (pre ++ u ∷ x ∷ post) ≡ retyped (u.place * slot_size p) (n * slot_size p) cap (forest_of p (pre ++ u ∷ post))
    forest = retype_below p pre u x post (mu.untyped untyped) zero_badge region (stops post takes_none) st.front st.back

    put : (P : Marked → Type 0) (m : List Marked) → Each P (m ++ u ∷ post) → P x → Each P (m ++ u ∷ x ∷ post)
    put P [] h q = (h.0, (q, h.1))
    put P (a ∷ m) h q = (h.0, put P m h.1 q)

    behind : (m : List Marked) → IsLed (Some u) m → IsLed (Some x) m
    behind [] h = tt
    behind (h ∷ m) f = ((λ z e. absurd (z (sym (f.0 z e).1 ∙ zero_badge))), f.1)

    unnamed_in : (m : List Marked) → Each (λ (a : Marked). same_object a.cap cap ≡ false) m
        → Each (λ (b : Marked). same_object cap b.cap ≡ true → b.revocable ≡ true → badge_of b.cap ≢ 0) m
    unnamed_in [] h = tt
    unnamed_in (b ∷ m) h = ((λ e t. absurd (let no' : true ≡ false = sym e ∙ same_object-swap cap b.cap ∙ h.0 in cc)), unnamed_in m h.1)

    first : (m : List Marked) → Each (λ (a : Marked). same_object a.cap cap ≡ false) (m ++ u ∷ post) → IsNamedFirst (m ++ u ∷ post) → IsNamedFirst (m ++ u ∷ x ∷ post)
    first [] w h = (((λ e t. absurd (let no' : true ≡ false = sym e ∙ w.0 in cc)), h.0), (unnamed_in post w.1, h.1))
    first (a ∷ m) w h =
        (put (λ (b : Marked). same_object a.cap b.cap ≡ true → b.revocable ≡ true → badge_of b.cap ≢ 0) m h.0 (λ e t. absurd (let no' : true ≡ false = sym e ∙ w.0 in cc)), first m w.1 h.1)

-- one row under another label

abbrev pub changing : ProfileName → ℕ → (Marked → Marked) → Marked → Marked
changing p n g r = cond (stands_at p n r) (g r) r

map_fixed : (p : ProfileName) (n : ℕ) (g : Marked → Marked) (l : List Marked) → Absent (stands_at p n) l → map (changing p n g) l ≡ l
map_fixed p n g [] h = refl
map_fixed p n g (a ∷ l) h = rw (h.0, map_fixed p n g l h.1)

pub map_changing : (p : ProfileName) (g : Marked → Marked) (pre : List Marked) (s : Marked) (post : List Marked) → StandsIn p pre s post
    → map (changing p s.place g) (pre ++ s ∷ post) ≡ pre ++ g s ∷ post
map_changing p g pre s post st = go pre st.front
  where
    go : (l : List Marked) → Absent (stands_at p s.place) l → map (changing p s.place g) (l ++ s ∷ post) ≡ l ++ g s ∷ post
    go [] h = let e : (s.place * slot_size p == s.place * slot_size p) ≡ true = eq-eqb (s.place * slot_size p) (s.place * slot_size p) refl in rw (e, map_fixed p s.place g post st.back)
    go (a ∷ l) h = rw (h.0, go l h.1)

same_rows : (p : ProfileName) (g : Marked → Marked) (pre : List Marked) (s : Marked) (post : List Marked) → StandsIn p pre s post → IsSameRow p s (g s)
    → Each (λ (a : Marked). IsSameRow p a (changing p s.place g a)) (pre ++ s ∷ post)
same_rows p g pre s post st h = go (pre ++ s ∷ post) (at_one (stands_at p s.place) (λ (a : Marked). IsSameRow p a (g a)) pre s post st.front st.back h)
  where
    go : (l : List Marked) → Each (λ (a : Marked). stands_at p s.place a ≡ true → IsSameRow p a (g a)) l → Each (λ (a : Marked). IsSameRow p a (changing p s.place g a)) l
    go [] k = tt
    go (a ∷ l) k =
        ((elim (stands_at p s.place a) as (λ c. stands_at p s.place a ≡ c → IsSameRow p a (cond c (g a) a)) [ true ↦ λ e. k.0 e | false ↦ λ e. row-self p a ]) refl, go l k.1)

-- what is kept under it, but for disjoint objects
pub changed_list : (p : ProfileName) (memory : ℕ) (g : Marked → Marked) (h : Entry → Entry) (pre : List Marked) (s : Marked) (post : List Marked) → IsMarkedList p memory (pre ++ s ∷ post) → StandsIn p pre s post
    → IsSameRow p s (g s) → IsLawful p memory (g s).cap → ((a : Marked) → entry_of p (changing p s.place g a) ≡ h (entry_of p a))
    → IsDisjoint p (relabelled h (forest_of p (pre ++ s ∷ post)))
    → IsMarkedList p memory (pre ++ g s ∷ post) × (forest_of p (pre ++ g s ∷ post) ≡ relabelled h (forest_of p (pre ++ s ∷ post)))
changed_list p memory g h pre s post k st same lawful e dis =
    let w : Marked → Marked = changing p s.place g in
    let l : List Marked = pre ++ s ∷ post in
    let m : map w l ≡ pre ++ g s ∷ post = map_changing p g pre s post st in
    let each : Each (λ (a : Marked). IsSameRow p a (w a)) l = same_rows p g pre s post st same in
    let forest : forest_of p (pre ++ g s ∷ post) ≡ relabelled h (forest_of p l) = ap (forest_of p) (sym m) ∙ forest_renamed p w h l e each in
    let G : List Marked → Type 0 = IsGathered p in
    let L : List Marked → Type 0 = IsLed None in
    let F : List Marked → Type 0 = IsNamedFirst in
    let M : List Marked → Type 0 = Each HasMarks in (
      record {
        lawful = each-put (λ (r : Marked). IsLawful p memory r.cap) pre (g s) post (each-gone (λ (r : Marked). IsLawful p memory r.cap) pre s post k.lawful) lawful;
        disjoint = (let P : Forest Entry → Type 0 = IsDisjoint p in subst P (sym forest) dis);
        gathered = subst G m (gathered-renamed p w l each k.gathered);
        led = subst L m (led-renamed p w None None l (λ b b' i f. f) each k.led);
        named_first = subst F m (first-renamed p w l each k.named_first);
        marks = subst M m (marks-renamed p w l each k.marks);
      },
      forest,
    )

-- a capability that moves
pub moved_list : (p : ProfileName) (memory : ℕ) (pre : List Marked) (s : Marked) (post : List Marked) (n : ℕ) (cap : Cap) → IsMarkedList p memory (pre ++ s ∷ post) → StandsIn p pre s post
    → IsLawful p memory cap → names_same s.cap cap ≡ true → badge_of cap ≡ badge_of s.cap → IsDisjoint p (moved (s.place * slot_size p) (n * slot_size p) cap (forest_of p (pre ++ s ∷ post)))
    → IsMarkedList p memory (pre ++ at_place n (with_cap cap s) ∷ post)
    × (forest_of p (pre ++ at_place n (with_cap cap s) ∷ post) ≡ moved (s.place * slot_size p) (n * slot_size p) cap (forest_of p (pre ++ s ∷ post)))
moved_list p memory pre s post n cap k st lawful same badge dis =
    changed_list p memory (λ r. at_place n (with_cap cap r)) (λ (e : Entry). cond (is_at (s.place * slot_size p) e) (entry (n * slot_size p) cap e.original) e) pre s post k st
    (record { names = names_one p s.cap cap same; badge = badge; revocable = refl; first = refl }) lawful
    (λ a. elim (stands_at p s.place a) as (λ c. entry_of p (cond c (at_place n (with_cap cap a)) a) ≡ cond c (entry (n * slot_size p) cap a.revocable) (entry_of p a)) [ true ↦ refl | false ↦ refl ])
    dis

-- another free index

freed_null : (free : ℕ) (a : Cap) → (is_null (with_free free a) ≡ is_null a) × (badge_of (with_free free a) ≡ badge_of a)
freed_null free (Untyped i bits old) = (refl, refl)
freed_null free Null = (refl, refl)
freed_null free (Endpoint i badge rights) = (refl, refl)
freed_null free (CNode i radix guard) = (refl, refl)
freed_null free (Tcb i) = (refl, refl)

freed_one : (p : ProfileName) (free : ℕ) (a : Cap) → NamesOne p a (with_free free a) × (badge_of (with_free free a) ≡ badge_of a)
freed_one p free a = (one_alike p a (with_free free a) (sym (freed_null free a).0) (alike_freed p free a), (freed_null free a).1)

pub freed_list : (p : ProfileName) (memory : ℕ) (pre : List Marked) (s : Marked) (post : List Marked) (free : ℕ) → IsMarkedList p memory (pre ++ s ∷ post) → StandsIn p pre s post
    → IsLawful p memory (with_free free s.cap)
    → IsMarkedList p memory (pre ++ with_cap (with_free free s.cap) s ∷ post)
    × (forest_of p (pre ++ with_cap (with_free free s.cap) s ∷ post) ≡ freed (s.place * slot_size p) free (forest_of p (pre ++ s ∷ post)))
freed_list p memory pre s post free k st lawful =
    changed_list p memory (λ r. with_cap (with_free free r.cap) r) (λ (e : Entry). cond (is_at (s.place * slot_size p) e) (entry e.slot (with_free free e.cap) e.original) e) pre s post k st
    (record { names = (freed_one p free s.cap).0; badge = (freed_one p free s.cap).1; revocable = refl; first = refl }) lawful
    (λ a. elim (stands_at p s.place a) as (λ c. entry_of p (cond c (with_cap (with_free free a.cap) a) a) ≡ cond c (entry (a.place * slot_size p) (with_free free a.cap) a.revocable) (entry_of p a)) [ true ↦ refl | false ↦ refl ])
    (disjoint-freed p (s.place * slot_size p) free (forest_of p (pre ++ s ∷ post)) k.disjoint)

-- a slot that is emptied

entries_once : (p : ProfileName) (l : List Marked) → AreApart p l → (n : ℕ) → Once (is_at n) (map (entry_of p) l)
entries_once p [] h n = tt
entries_once p (a ∷ l) h n = ((λ e. away l (eqb-true (a.place * slot_size p) n e) h.0), entries_once p l h.1 n)
  where
    away : (m : List Marked) → a.place * slot_size p ≡ n → Absent (stands_at p a.place) m → Absent (is_at n) (map (entry_of p) m)
    away [] e k = tt
    away (b ∷ m) e k = (sym (ap (λ i. b.place * slot_size p == i) e) ∙ k.0, away m e k.1)

pub removed_list : (p : ProfileName) (memory : ℕ) (pre : List Marked) (s : Marked) (post : List Marked) → IsMarkedList p memory (pre ++ s ∷ post) → AreApart p (pre ++ s ∷ post)
    → IsMarkedList p memory (pre ++ handed_on s.first_badged post)
    × (forest_of p (pre ++ handed_on s.first_badged post) ≡ emptied (s.place * slot_size p) (forest_of p (pre ++ s ∷ post)))
removed_list p memory pre s [] k apart =
    let st : StandsIn p pre s [] = stands_in p pre s [] apart in
    let forest : forest_of p (pre ++ []) ≡ emptied (s.place * slot_size p) (forest_of p (pre ++ s ∷ [])) = remove_last p pre s st.front in
    let once : (n : ℕ) → Once (is_at n) (preorder (forest_of p (pre ++ s ∷ []))) = λ n. (let Q : List Entry → Type 0 = Once (is_at n) in subst Q (sym (entries_of p (pre ++ s ∷ []))) (entries_once p (pre ++ s ∷ []) apart n)) in (
      record {
        lawful = each-gone (λ (r : Marked). IsLawful p memory r.cap) pre s [] k.lawful;
        disjoint = (let P : Forest Entry → Type 0 = IsDisjoint p in subst P (sym forest) (disjoint-emptied p (s.place * slot_size p) (forest_of p (pre ++ s ∷ [])) once k.disjoint));
        gathered = gathered-gone p pre s [] k.gathered;
        led = led-cut None pre s k.led;
        named_first = first-gone pre s [] k.named_first;
        marks = each-gone HasMarks pre s [] k.marks;
      },
      forest,
    )
removed_list p memory pre s (h ∷ q) k apart =
    let st : StandsIn p pre s (h ∷ q) = stands_in p pre s (h ∷ q) apart in
    let sh : Absent (stands_at p h.place) pre × (stands_at p h.place s ≡ false) = (back_others p pre s (h ∷ q) apart).0 in
    let tail : AreApart p (s ∷ h ∷ q) = apart-back p pre (s ∷ h ∷ q) apart in
    let led : IsLed (Some s) (h ∷ q) = led-back None pre s (h ∷ q) k.led in
    let forest : forest_of p (pre ++ with_mark s.first_badged h ∷ q) ≡ emptied (s.place * slot_size p) (forest_of p (pre ++ s ∷ h ∷ q)) =
    remove_before p pre s h q k.gathered (λ z e. (led.0 z e).1) st.front st.back sh.0 tail.1.0 in
    let once : (n : ℕ) → Once (is_at n) (preorder (forest_of p (pre ++ s ∷ h ∷ q))) = λ n. (let Q : List Entry → Type 0 = Once (is_at n) in subst Q (sym (entries_of p (pre ++ s ∷ h ∷ q))) (entries_once p (pre ++ s ∷ h ∷ q) apart n)) in (
      record {
        lawful = each-marked (λ (r : Marked). IsLawful p memory r.cap) s.first_badged pre h q (λ z. z) (each-gone (λ (r : Marked). IsLawful p memory r.cap) pre s (h ∷ q) k.lawful);
        disjoint = (let P : Forest Entry → Type 0 = IsDisjoint p in subst P (sym forest) (disjoint-emptied p (s.place * slot_size p) (forest_of p (pre ++ s ∷ h ∷ q)) once k.disjoint));
        gathered = gathered-marked p s.first_badged pre h q (gathered-gone p pre s (h ∷ q) k.gathered);
        led = led-gone None pre s h q k.led;
        named_first = first-marked s.first_badged pre h q (first-gone pre s (h ∷ q) k.named_first);
        marks = each-marked HasMarks s.first_badged pre h q (marks-marked s.first_badged h) (each-gone HasMarks pre s (h ∷ q) k.marks);
      },
      forest,
    )
