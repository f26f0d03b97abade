-- Each call's edit of the marked list: what the list keeps, and what the edit is to its forest.
use Rattle.std.proofs.Common.{◌≡◌, ◌≢◌, ℕ, ◌*◌, Bool, true, false, cond, not, ◌||◌, ◌==◌, List, [], ◌∷◌, ◌++◌, map, Some, None, ◌⊎◌, inl, inr, refl, sym, ◌∙◌, ap, subst}
use Rattle.std.specs.Prelude.{option_map}
use Rattle.std.specs.List.{AllByRecursion as Each}
use Rattle.std.proofs.lemmas.Bool.{eqb-true}
use Rattle.cap_core.specs.declared.profile.ProfileName.{ProfileName}
use Rattle.cap_core.specs.declared.capability.Cap.{Cap}
use Rattle.cap_core.specs.declared.capability.Cap.TheVariants.{Null}
use Rattle.cap_core.specs.Numbers.{slot_size}
use Rattle.cap_core.specs.Objects.{is_null, is_untyped, badge_of, same_object, in_region, IsLawful}
use Rattle.kernel_forest.specs.Forest.{Forest, tops, below, after, renamed, front_trees, build}
use Rattle.kernel_forest.specs.Entries.{Entry, is_at, cap_at, cap_in, is_original, original_in, first_child, first_slot}
use Rattle.kernel_forest.specs.Derivation.{derived, is_new_original, names_same}
use Rattle.kernel_forest.specs.Disjoint.{IsDisjoint}
use Rattle.kernel_forest.specs.Marked.{Marked, marked, is_parent, entry_of, forest_of, stands_at, IsLed, IsNamedFirst, HasMarks, IsMarkedList}
use Rattle.kernel_forest.proofs.Trees.Built.{Absent, StopsAtOnce, renamed-below_those, build-below_those, tops-renamed, tops-taken, next_passing, first_of, below_those_none, preorder-build}
use Rattle.kernel_forest.proofs.Disjoint.Disjointness.{same_number}
use Rattle.kernel_forest.proofs.Disjoint.InRegion.{names_one, region-self, region_same, same_one, named_typed, untyped-badge}
use Rattle.kernel_forest.proofs.Marked.Parents.{badge_fits_from, parent_from}
use Rattle.kernel_forest.proofs.Marked.MarkedPuts.{IsDerived, badge_typed, derive_below, derive_after}
use Rattle.kernel_forest.proofs.Marked.MarkedKept.{each-back, gathered-derive, led-back, led-put}
use Rattle.kernel_forest.proofs.Marked.MarkedLines.{entries_of}

-- what is read off the forest at a place where s stands

pub cap_standing : (p : ProfileName) (pre : List Marked) (s : Marked) (post : List Marked) → Absent (stands_at p s.place) pre → cap_at (forest_of p (pre ++ s ∷ post)) (s.place * slot_size p) ≡ s.cap
cap_standing p pre s post h = ap (cap_in (s.place * slot_size p)) (entries_of p (pre ++ s ∷ post)) ∙ go pre h
  where
    go : (l : List Marked) → Absent (stands_at p s.place) l → cap_in (s.place * slot_size p) (map (entry_of p) (l ++ s ∷ post)) ≡ s.cap
    go [] k = rw (same_number (s.place * slot_size p))
    go (a ∷ l) k = rw k.0 (go l k.1)

pub original_standing : (p : ProfileName) (pre : List Marked) (s : Marked) (post : List Marked) → Absent (stands_at p s.place) pre
    → is_original (s.place * slot_size p) (forest_of p (pre ++ s ∷ post)) ≡ s.revocable
original_standing p pre s post h = ap (original_in (s.place * slot_size p)) (entries_of p (pre ++ s ∷ post)) ∙ go pre h
  where
    go : (l : List Marked) → Absent (stands_at p s.place) l → original_in (s.place * slot_size p) (map (entry_of p) (l ++ s ∷ post)) ≡ s.revocable
    go [] k = rw (same_number (s.place * slot_size p))
    go (a ∷ l) k = rw k.0 (go l k.1)

pub cap_nowhere : (p : ProfileName) (n : ℕ) (l : List Marked) → Absent (stands_at p n) l → cap_at (forest_of p l) (n * slot_size p) ≡ Null
cap_nowhere p n l h = ap (cap_in (n * slot_size p)) (entries_of p l) ∙ go l h
  where
    go : (m : List Marked) → Absent (stands_at p n) m → cap_in (n * slot_size p) (map (entry_of p) m) ≡ Null
    go [] k = refl
    go (a ∷ m) k = rw k.0 (go m k.1)

first_renamed : (p : ProfileName) (l : List Marked) → first_slot (map (entry_of p) l) ≡ option_map (λ (r : Marked). r.place * slot_size p) (first_of l)
first_renamed p [] = refl
first_renamed p (r ∷ l) = refl

pub child_standing : (p : ProfileName) (pre : List Marked) (s : Marked) (post : List Marked) → Absent (stands_at p s.place) pre → Absent (stands_at p s.place) post
    → first_child (s.place * slot_size p) (forest_of p (pre ++ s ∷ post)) ≡ option_map (λ (r : Marked). r.place * slot_size p) (next_passing (is_parent p s) post)
child_standing p pre s post a b =
    let is : Entry → Bool = is_at (s.place * slot_size p) in
    ap (λ f. first_slot (tops f)) (renamed-below_those (entry_of p) is (build (is_parent p) (pre ++ s ∷ post)))
    ∙ ap (λ f. first_slot (tops (renamed (entry_of p) f))) (build-below_those (is_parent p) (stands_at p s.place) pre s post (same_number (s.place * slot_size p)) a b)
    ∙ ap first_slot (tops-renamed (entry_of p) (front_trees (is_parent p s) (build (is_parent p) post)))
    ∙ first_renamed p (tops (front_trees (is_parent p s) (build (is_parent p) post)))
    ∙ ap (option_map (λ (r : Marked). r.place * slot_size p)) (tops-taken (is_parent p) (is_parent p s) post)

pub child_nowhere : (p : ProfileName) (n : ℕ) (l : List Marked) → Absent (stands_at p n) l → first_child (n * slot_size p) (forest_of p l) ≡ None
child_nowhere p n l a =
    let is : Entry → Bool = is_at (n * slot_size p) in
    ap (λ f. first_slot (tops f)) (renamed-below_those (entry_of p) is (build (is_parent p) l))
    ∙ ap (λ f. first_slot (tops (renamed (entry_of p) f))) (below_those_none (stands_at p n) (build (is_parent p) l) (let P : List Marked → Type 0 = Absent (stands_at p n) in subst P (sym (preorder-build (is_parent p) l)) a))

-- s stands in the list
pub record StandsIn (p : ProfileName) (pre : List Marked) (s : Marked) (post : List Marked) : Type 0 where
  pub front : Absent (stands_at p s.place) pre
  pub back : Absent (stands_at p s.place) post

each_at : (P : Marked → Type 0) (pre : List Marked) (s : Marked) (post : List Marked) → Each P (pre ++ s ∷ post) → P s
each_at P pre s post h = (each-back P pre (s ∷ post) h).0

-- a derived capability

new_marks : (p : ProfileName) (from cap : Cap) (place : ℕ) → names_same from cap ≡ true → (badge_of cap ≡ badge_of from) ⊎ (badge_of from ≡ 0)
    → IsDerived p (marked place from true true) (marked place cap (is_new_original from cap) (is_new_original from cap))
new_marks p from cap place n b =
    record {
      names = names_one p from cap n;
      badge = λ z. elim b [ inl e ↦ e | inr e ↦ absurd (z e) ];
      not_original = λ u e. (unmarked u e, unmarked u e);
    }
  where
    unmarked : is_untyped from ≡ false → badge_of cap ≡ badge_of from → is_new_original from cap ≡ false
    unmarked u e = rw (sym (names_one p from cap n).untyped ∙ u, e, same_number (badge_of from))

derived_is : (p : ProfileName) (s : Marked) (cap : Cap) (n : ℕ) → names_same s.cap cap ≡ true → (badge_of cap ≡ badge_of s.cap) ⊎ (badge_of s.cap ≡ 0)
    → IsDerived p s (marked n cap (is_new_original s.cap cap) (is_new_original s.cap cap))
derived_is p s cap n e b =
    let d : IsDerived p (marked n s.cap true true) (marked n cap (is_new_original s.cap cap) (is_new_original s.cap cap)) = new_marks p s.cap cap n e b in
    record { names = d.names; badge = d.badge; not_original = d.not_original }

-- an untyped source with no child has nothing of its region behind it
childless_stops : (p : ProfileName) (pre : List Marked) (s : Marked) (post : List Marked) → StandsIn p pre s post → HasMarks s
    → (is_untyped s.cap ≡ true → first_child (s.place * slot_size p) (forest_of p (pre ++ s ∷ post)) ≡ None)
    → is_untyped s.cap ≡ true → StopsAtOnce (λ (c : Marked). in_region p s.cap c.cap) post
childless_stops p pre s post st m none u = go post (sym (child_standing p pre s post st.front st.back) ∙ none u)
  where
    go : (l : List Marked) → option_map (λ (r : Marked). r.place * slot_size p) (next_passing (is_parent p s) l) ≡ None → StopsAtOnce (λ (c : Marked). in_region p s.cap c.cap) l
    go [] e = tt
    go (h ∷ l) e = (elim (in_region p s.cap h.cap) as (λ c. in_region p s.cap h.cap ≡ c → c ≡ false) [ true ↦ λ t. absurd (contra t) | false ↦ λ t. refl ]) refl
      where
        contra : in_region p s.cap h.cap ≡ true → ⊥
        contra t =
            let z : badge_of s.cap ≡ 0 = untyped-badge s.cap u in
            let q : is_parent p s h ≡ true = parent_from p s h (m.untyped u) t (badge_fits_from s h (record { badge = λ n. absurd (n z); first = λ n. absurd (n z) })) in
            let f : option_map (λ (r : Marked). r.place * slot_size p) (cond true (Some h) None) ≡ None = (rw q at e) in
            cc

pub derived_list : (p : ProfileName) (memory : ℕ) (pre : List Marked) (s : Marked) (post : List Marked) (n : ℕ) (cap : Cap) → IsMarkedList p memory (pre ++ s ∷ post) → StandsIn p pre s post
    → IsLawful p memory cap → names_same s.cap cap ≡ true → (badge_of cap ≡ badge_of s.cap) ⊎ (badge_of s.cap ≡ 0)
    → (is_untyped cap ≡ true → first_child (s.place * slot_size p) (forest_of p (pre ++ s ∷ post)) ≡ None)
    → IsDisjoint p (derived (s.place * slot_size p) (n * slot_size p) cap (forest_of p (pre ++ s ∷ post)))
    → IsMarkedList p memory (pre ++ s ∷ marked n cap (is_new_original s.cap cap) (is_new_original s.cap cap) ∷ post)
    × (forest_of p (pre ++ s ∷ marked n cap (is_new_original s.cap cap) (is_new_original s.cap cap) ∷ post) ≡ derived (s.place * slot_size p) (n * slot_size p) cap (forest_of p (pre ++ s ∷ post)))
derived_list p memory pre s post n cap l st lawful same badge childless dis = (
  record {
    lawful = each_put (λ (r : Marked). IsLawful p memory r.cap) pre l.lawful lawful;
    disjoint = (let P : Forest Entry → Type 0 = IsDisjoint p in subst P (sym forest) dis);
    gathered = gathered-derive p pre s x post d.names (region-self p s.cap not_null) l.gathered;
    led = led-put None pre s x post (λ z e. follows z e) (behind post (led-back None pre s post l.led)) l.led;
    named_first = first pre (λ (a : Marked) e. e) l.named_first;
    marks = each_put HasMarks pre l.marks (record { untyped = λ u. original u; badged = λ z r. r });
  },
  forest,
)
  where
    o : Bool
    o = is_new_original s.cap cap

    x : Marked
    x = marked n cap o o

    d : IsDerived p s x
    d = derived_is p s cap n same badge

    ms : HasMarks s
    ms = each_at HasMarks pre s post l.marks

    not_null : is_null s.cap ≡ false
    not_null = (each_at (λ (r : Marked). IsLawful p memory r.cap) pre s post l.lawful).full

    original : is_untyped cap ≡ true → o ≡ true
    original u = rw u

    -- where the new one lacks the mark, its badge is that of s
    same_badge : o ≡ false → badge_of s.cap ≡ badge_of cap
    same_badge e = typed (is_untyped cap) (badge_of cap == badge_of s.cap) refl refl e
      where
        typed : (u b : Bool) → is_untyped cap ≡ u → (badge_of cap == badge_of s.cap) ≡ b → (u || not b) ≡ false → badge_of s.cap ≡ badge_of cap
        typed true b h k e = cc
        typed false true h k e = sym (eqb-true (badge_of cap) (badge_of s.cap) k)
        typed false false h k e = cc

    each_put : (P : Marked → Type 0) (m : List Marked) → Each P (m ++ s ∷ post) → P x → Each P (m ++ s ∷ x ∷ post)
    each_put P [] h k = (h.0, (k, h.1))
    each_put P (a ∷ m) h k = (h.0, each_put P m h.1 k)

    -- the names of one badged object are no untyped one's
    same_named : badge_of cap ≢ 0 → same_object s.cap cap ≡ true
    same_named z = sym (region_same p s.cap cap not_untyped) ∙ sym (d.names.of s.cap) ∙ region-self p s.cap not_null
      where
        not_untyped : is_untyped s.cap ≡ false
        not_untyped = d.names.untyped ∙ badge_typed p x z

    follows : badge_of cap ≢ 0 → o ≡ false → (same_object s.cap cap ≡ true) × (badge_of s.cap ≡ badge_of cap)
    follows z e = (same_named z, same_badge e)

    behind : (m : List Marked) → IsLed (Some s) m → IsLed (Some x) m
    behind [] k = tt
    behind (h ∷ m) k = ((λ z e. after_x z (k.0 z e)), k.1)
      where
        after_x : badge_of h.cap ≢ 0 → (same_object s.cap h.cap ≡ true) × (badge_of s.cap ≡ badge_of h.cap) → (same_object cap h.cap ≡ true) × (badge_of cap ≡ badge_of h.cap)
        after_x z f = (sym (d.names.same h.cap) ∙ f.0, d.badge (λ y. z (sym f.1 ∙ y)) ∙ f.1)

    -- a revocable x of no untyped region has another badge than s, which is not 0
    badged : is_untyped cap ≡ false → o ≡ true → badge_of cap ≢ 0
    badged u r z =
        let e : badge_of cap ≡ badge_of s.cap = elim badge [ inl e ↦ e | inr e ↦ z ∙ sym e ] in
        (let f : o ≡ false = (d.not_original (d.names.untyped ∙ u) e).0 in let no' : true ≡ false = sym r ∙ f in cc)

    not_untyped_of : (a : Cap) → same_object a cap ≡ true → is_untyped cap ≡ false
    not_untyped_of a e = sym (same_one p a cap e).untyped ∙ named_typed a cap e

    first : (m : List Marked) → ((a : Marked) → same_object a.cap cap ≡ true → same_object a.cap cap ≡ true) → IsNamedFirst (m ++ s ∷ post) → IsNamedFirst (m ++ s ∷ x ∷ post)
    first [] i h = (((λ e r. badged (not_untyped_of s.cap e) r), h.0), (others post h.0, h.1))
      where
        others : (q : List Marked) → Each (λ (b : Marked). same_object s.cap b.cap ≡ true → b.revocable ≡ true → badge_of b.cap ≢ 0) q
            → Each (λ (b : Marked). same_object cap b.cap ≡ true → b.revocable ≡ true → badge_of b.cap ≢ 0) q
        others [] k = tt
        others (b ∷ q) k = ((λ e. k.0 (d.names.same b.cap ∙ e)), others q k.1)
    first (a ∷ m) i h =
        (each_put (λ (b : Marked). same_object a.cap b.cap ≡ true → b.revocable ≡ true → badge_of b.cap ≢ 0) m h.0 (λ e r. badged (not_untyped_of a.cap e) r), first m i h.1)

    stops : is_untyped s.cap ≡ true → StopsAtOnce (λ (c : Marked). in_region p s.cap c.cap) post
    stops = childless_stops p pre s post st ms (λ u. childless (sym d.names.untyped ∙ u))

    forest : forest_of p (pre ++ s ∷ x ∷ post) ≡ derived (s.place * slot_size p) (n * slot_size p) cap (forest_of p (pre ++ s ∷ post))
    forest =
        let f : Forest Entry = forest_of p (pre ++ s ∷ post) in
        let is : Entry → Bool = is_at (s.place * slot_size p) in
        rw (original_standing p pre s post st.front, cap_standing p pre s post st.front)
        ((elim s.revocable as (λ c. s.revocable ≡ c → forest_of p (pre ++ s ∷ x ∷ post) ≡ cond c (below is (entry_of p x) f) (after is (entry_of p x) f)) [
          | true ↦ λ r. derive_below p pre s x post r not_null d (led-back None pre s post l.led) stops st.front st.back
          | false ↦ λ r. derive_after p pre s x post r d (led-back None pre s post l.led) stops st.front st.back
        ]) refl)
