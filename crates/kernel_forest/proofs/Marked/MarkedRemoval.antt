-- A slot leaves the marked list and hands its first-badged mark on: in the forest, what stood below it takes its place.
use Rattle.std.proofs.Common.{◌≡◌, ◌≢◌, ℕ, ◌*◌, Bool, true, false, cond, not, ◌&&◌, ◌||◌, ◌==◌, eq-eqb, List, [], ◌∷◌, ◌++◌, map, refl, sym, ◌∙◌, ap, arith}
use Rattle.std.specs.List.{AllByRecursion as Each}
use Rattle.std.proofs.lemmas.Bool.Decides.{nat_tests}
use Rattle.cap_core.specs.declared.profile.ProfileName.{ProfileName}
use Rattle.cap_core.specs.Numbers.{slot_size}
use Rattle.cap_core.specs.Objects.{badge_of, in_region}
use Rattle.kernel_forest.specs.Forest.{Forest, none, tree, out, renamed, build}
use Rattle.kernel_forest.specs.Entries.{is_at}
use Rattle.kernel_forest.specs.Marked.{Marked, badge_fits, is_parent, entry_of, forest_of, with_mark, IsFront, IsGathered, stands_at}
use Rattle.kernel_forest.proofs.Trees.Built.{Absent}
use Rattle.kernel_forest.proofs.Trees.BuiltOut.{AgreeOn, Handed, build-out, renamed-out}
use Rattle.kernel_forest.proofs.Trees.BuiltRenamed.{AgreeUnder, build-renamed}
use Rattle.kernel_forest.proofs.Marked.Parents.{BadgeFits, badge_fits_is, badge_fits_from, parent_parts, parent_from, parent-transitive}

-- the slot at a place gets the mark
abbrev pub handing : ProfileName → Bool → ℕ → Marked → Marked
handing p mark n r = cond (stands_at p n r) (with_mark mark r) r

pub parent-handing_left : (p : ProfileName) (mark : Bool) (n : ℕ) (a b : Marked) → is_parent p (handing p mark n a) b ≡ is_parent p a b
parent-handing_left p mark n a b = elim (stands_at p n a) as (λ c. is_parent p (cond c (with_mark mark a) a) b ≡ is_parent p a b) [ true ↦ refl | false ↦ refl ]

-- the mark changes nothing for what has no badge, nor where there is none
unmarked_fits : (i j : ℕ) (first mark : Bool) → (i ≢ 0 → mark ≡ false) → ((i == 0) || ((j == i) && not (first || mark))) ≡ ((i == 0) || ((j == i) && not first))
unmarked_fits i j first mark h = grind (arith, nat_tests)

pub parent-marked : (p : ProfileName) (mark : Bool) (a b : Marked) → (badge_of a.cap ≢ 0 → mark ≡ false) → is_parent p a (with_mark mark b) ≡ is_parent p a b
parent-marked p mark a b h = ap (λ t. a.revocable && (in_region p a.cap b.cap && t)) (unmarked_fits (badge_of a.cap) (badge_of b.cap) b.first_badged mark h)

pub parent-handing_right : (p : ProfileName) (mark : Bool) (n : ℕ) (a b : Marked) → (badge_of a.cap ≢ 0 → mark ≡ false) → is_parent p a (handing p mark n b) ≡ is_parent p a b
parent-handing_right p mark n a b h = elim (stands_at p n b) as (λ c. is_parent p a (cond c (with_mark mark b) b) ≡ is_parent p a b) [ true ↦ parent-marked p mark a b h | false ↦ refl ]

-- what is not parent of s is not parent of what then follows it
pub stops_behind : (p : ProfileName) (a s h : Marked) → (in_region p a.cap s.cap ≡ false → in_region p a.cap h.cap ≡ false)
    → (badge_of h.cap ≢ 0 → h.first_badged ≡ false → badge_of s.cap ≡ badge_of h.cap) → is_parent p a s ≡ false → is_parent p a (with_mark s.first_badged h) ≡ false
stops_behind p a s h front led e =
    (elim (is_parent p a (with_mark s.first_badged h)) as (λ c. is_parent p a (with_mark s.first_badged h) ≡ c → c ≡ false) [
      | true ↦ λ d. absurd (contra d)
      | false ↦ λ d. refl
    ]) refl
  where
    or_parts : (x y : Bool) → (x || y) ≡ false → (x ≡ false) × (y ≡ false)
    or_parts true y i = cc
    or_parts false y i = (refl, i)

    contra : is_parent p a (with_mark s.first_badged h) ≡ true → ⊥
    contra d =
        let q : (a.revocable ≡ true) × (in_region p a.cap h.cap ≡ true) × (badge_fits a (with_mark s.first_badged h) ≡ true) = parent_parts p a (with_mark s.first_badged h) d in
        let fits : BadgeFits a (with_mark s.first_badged h) = badge_fits_is a (with_mark s.first_badged h) q.2 in
        let cs : in_region p a.cap s.cap ≡ true = (elim (in_region p a.cap s.cap) as (λ c. in_region p a.cap s.cap ≡ c → c ≡ true) [
          | true ↦ λ _. refl
          | false ↦ λ i. absurd (let j : in_region p a.cap h.cap ≡ false = front i in let k : in_region p a.cap h.cap ≡ true = q.1 in cc)
        ]) refl in
        let unmarked : badge_of a.cap ≢ 0 → (h.first_badged ≡ false) × (s.first_badged ≡ false) = λ z. or_parts h.first_badged s.first_badged (fits.first z) in
        let bs : badge_fits a s ≡ true = badge_fits_from a s (record {
          badge = λ z. led (λ y. z (sym (fits.badge z) ∙ y)) (unmarked z).0 ∙ fits.badge z;
          first = λ z. (unmarked z).1;
        }) in
        let all : is_parent p a s ≡ true = parent_from p a s q.0 cs bs in
        (let no' : true ≡ false = sym all ∙ e in cc)

-- the test after the removal
abbrev pub after_test : ProfileName → Bool → ℕ → Marked → Marked → Bool
after_test p mark n a b = is_parent p (handing p mark n a) (handing p mark n b)

pub fixed-handing : (p : ProfileName) (mark : Bool) (n : ℕ) (b : Marked) → stands_at p n b ≡ false → handing p mark n b ≡ b
fixed-handing p mark n b e = rw e

pub front_at : (p : ProfileName) (a : Marked) (l : List Marked) (s h : Marked) (q : List Marked) → IsFront p a (l ++ s ∷ h ∷ q) → in_region p a.cap s.cap ≡ false → in_region p a.cap h.cap ≡ false
front_at p a [] s h q f e = (f.0 e).0
front_at p a (b ∷ l) s h q f e = front_at p a l s h q f.1 e

pub handed : (p : ProfileName) (s h : Marked) (pre q : List Marked) → IsGathered p (pre ++ s ∷ h ∷ q) → (badge_of h.cap ≢ 0 → h.first_badged ≡ false → badge_of s.cap ≡ badge_of h.cap)
    → Absent (stands_at p h.place) pre → Absent (stands_at p h.place) q → Handed (is_parent p) (after_test p s.first_badged h.place) s pre (h ∷ q)
handed p s h [] q ga led a b = (agree h q b, agrees q b)
  where
    t' : Marked → Marked → Bool
    t' = after_test p s.first_badged h.place

    agree : (x : Marked) (l : List Marked) → Absent (stands_at p h.place) l → Each (λ (c : Marked). t' x c ≡ is_parent p x c) l
    agree x [] n = tt
    agree x (c ∷ l) n = (parent-handing_left p s.first_badged h.place x (handing p s.first_badged h.place c) ∙ ap (is_parent p x) (fixed-handing p s.first_badged h.place c n.0), agree x l n.1)

    agrees : (l : List Marked) → Absent (stands_at p h.place) l → AgreeOn (is_parent p) t' l
    agrees [] n = tt
    agrees (x ∷ l) n = (agree x l n.1, agrees l n.1)
handed p s h (x ∷ pre) q ga led a b =
    ((λ e. everywhere (pre ++ h ∷ q) (λ z. (badge_fits_is x s (parent_parts p x s e).2).first z)), (λ e. (agree pre a.1, stop e)), handed p s h pre q ga.1 led a.1 b)
  where
    t' : Marked → Marked → Bool
    t' = after_test p s.first_badged h.place

    everywhere : (l : List Marked) → (badge_of x.cap ≢ 0 → s.first_badged ≡ false) → Each (λ (c : Marked). t' x c ≡ is_parent p x c) l
    everywhere [] z = tt
    everywhere (c ∷ l) z = (parent-handing_left p s.first_badged h.place x (handing p s.first_badged h.place c) ∙ parent-handing_right p s.first_badged h.place x c z, everywhere l z)

    agree : (l : List Marked) → Absent (stands_at p h.place) l → Each (λ (c : Marked). t' x c ≡ is_parent p x c) l
    agree [] n = tt
    agree (c ∷ l) n = (parent-handing_left p s.first_badged h.place x (handing p s.first_badged h.place c) ∙ ap (is_parent p x) (fixed-handing p s.first_badged h.place c n.0), agree l n.1)

    stop : is_parent p x s ≡ false → t' x h ≡ false
    stop e =
        let e1 : (h.place * slot_size p == h.place * slot_size p) ≡ true = eq-eqb (h.place * slot_size p) (h.place * slot_size p) refl in
        let here : handing p s.first_badged h.place h ≡ with_mark s.first_badged h = rw e1 in
        parent-handing_left p s.first_badged h.place x (handing p s.first_badged h.place h) ∙ ap (is_parent p x) here
        ∙ stops_behind p x s h (front_at p x pre s h q ga.0) led e

pub under_handing : (p : ProfileName) (mark : Bool) (n : ℕ) (l : List Marked) → AgreeUnder (handing p mark n) (after_test p mark n) (is_parent p) l
under_handing p mark n [] = tt
under_handing p mark n (a ∷ l) = (same l, under_handing p mark n l)
  where
    same : (m : List Marked) → Each (λ (b : Marked). is_parent p (handing p mark n a) (handing p mark n b) ≡ after_test p mark n a b) m
    same [] = tt
    same (b ∷ m) = (refl, same m)

pub map_fixed : (p : ProfileName) (mark : Bool) (n : ℕ) (l : List Marked) → Absent (stands_at p n) l → map (handing p mark n) l ≡ l
map_fixed p mark n [] h = refl
map_fixed p mark n (b ∷ l) h = rw (fixed-handing p mark n b h.0, map_fixed p mark n l h.1)

pub map_handing : (p : ProfileName) (mark : Bool) (h : Marked) (pre q : List Marked) → Absent (stands_at p h.place) pre → Absent (stands_at p h.place) q
    → map (handing p mark h.place) (pre ++ h ∷ q) ≡ pre ++ with_mark mark h ∷ q
map_handing p mark h [] q a b =
    let e1 : (h.place * slot_size p == h.place * slot_size p) ≡ true = eq-eqb (h.place * slot_size p) (h.place * slot_size p) refl in
    rw (e1, map_fixed p mark h.place q b)
map_handing p mark h (x ∷ pre) q a b = rw (fixed-handing p mark h.place x a.0, map_handing p mark h pre q a.1 b)

entry-handing : (p : ProfileName) (mark : Bool) (n : ℕ) (b : Marked) → entry_of p (handing p mark n b) ≡ entry_of p b
entry-handing p mark n b = elim (stands_at p n b) as (λ c. entry_of p (cond c (with_mark mark b) b) ≡ entry_of p b) [ true ↦ refl | false ↦ refl ]

entries-handing : (p : ProfileName) (mark : Bool) (n : ℕ) (f : Forest Marked) → renamed (entry_of p) (renamed (handing p mark n) f) ≡ renamed (entry_of p) f
entries-handing p mark n none = refl
entries-handing p mark n (tree a k r) = rw (entry-handing p mark n a, entries-handing p mark n k, entries-handing p mark n r)

-- s is removed, and the next gets its mark
pub remove_before : (p : ProfileName) (pre : List Marked) (s h : Marked) (q : List Marked)
    → IsGathered p (pre ++ s ∷ h ∷ q) → (badge_of h.cap ≢ 0 → h.first_badged ≡ false → badge_of s.cap ≡ badge_of h.cap)
    → Absent (stands_at p s.place) pre → Absent (stands_at p s.place) (h ∷ q) → Absent (stands_at p h.place) pre → Absent (stands_at p h.place) q
    → forest_of p (pre ++ with_mark s.first_badged h ∷ q) ≡ out (is_at (s.place * slot_size p)) (forest_of p (pre ++ s ∷ h ∷ q))
remove_before p pre s h q ga led a b c d =
    let e1 : (s.place * slot_size p == s.place * slot_size p) ≡ true = eq-eqb (s.place * slot_size p) (s.place * slot_size p) refl in
    let mark : Bool = s.first_badged in
    let t' : Marked → Marked → Bool = after_test p mark h.place in
    let built : build t' (pre ++ h ∷ q) ≡ out (stands_at p s.place) (build (is_parent p) (pre ++ s ∷ h ∷ q)) =
    build-out (is_parent p) t' (parent-transitive p) (stands_at p s.place) pre s (h ∷ q) e1 a b (handed p s h pre q ga led c d) in
    ap (forest_of p) (sym (map_handing p mark h pre q c d))
    ∙ ap (renamed (entry_of p)) (build-renamed (handing p mark h.place) t' (is_parent p) (pre ++ h ∷ q) (under_handing p mark h.place (pre ++ h ∷ q)))
    ∙ entries-handing p mark h.place (build t' (pre ++ h ∷ q))
    ∙ ap (renamed (entry_of p)) built
    ∙ renamed-out (entry_of p) (is_at (s.place * slot_size p)) (build (is_parent p) (pre ++ s ∷ h ∷ q))

-- s is the last of the list
pub remove_last : (p : ProfileName) (pre : List Marked) (s : Marked) → Absent (stands_at p s.place) pre
    → forest_of p (pre ++ []) ≡ out (is_at (s.place * slot_size p)) (forest_of p (pre ++ s ∷ []))
remove_last p pre s a =
    let e1 : (s.place * slot_size p == s.place * slot_size p) ≡ true = eq-eqb (s.place * slot_size p) (s.place * slot_size p) refl in
    ap (renamed (entry_of p)) (build-out (is_parent p) (is_parent p) (parent-transitive p) (stands_at p s.place) pre s [] e1 a tt (handed_last pre))
    ∙ renamed-out (entry_of p) (is_at (s.place * slot_size p)) (build (is_parent p) (pre ++ s ∷ []))
  where
    each : (x : Marked) (l : List Marked) → Each (λ (c : Marked). is_parent p x c ≡ is_parent p x c) l
    each x [] = tt
    each x (c ∷ l) = (refl, each x l)

    handed_last : (l : List Marked) → Handed (is_parent p) (is_parent p) s l []
    handed_last [] = tt
    handed_last (x ∷ l) = ((λ e. each x (l ++ [])), (λ e. (each x l, tt)), handed_last l)
