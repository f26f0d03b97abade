-- What a further slot of the marked list is to the forest that the list stands for.
use Rattle.std.proofs.Common.{◌≡◌, ◌≢◌, ℕ, zero, suc, ◌*◌, Bool, true, false, eq-eqb, Some, List, [], ◌∷◌, ◌++◌, refl, sym, ◌∙◌, ap}
use Rattle.std.specs.List.{AllByRecursion as Each}
use Rattle.cap_core.specs.declared.profile.ProfileName.{ProfileName}
use Rattle.cap_core.specs.Numbers.{slot_size}
use Rattle.cap_core.specs.Objects.{is_null, is_untyped, badge_of, in_region}
use Rattle.kernel_forest.specs.Forest.{below, after, root, renamed, build}
use Rattle.kernel_forest.specs.Entries.{is_at}
use Rattle.kernel_forest.specs.Marked.{Marked, badge_fits, is_parent, entry_of, forest_of, IsLed, stands_at}
use Rattle.kernel_forest.proofs.Trees.Built.{Absent, StopsAtOnce, build-below, build-after, build-root, renamed-below, renamed-after, renamed-root}
use Rattle.kernel_forest.proofs.Disjoint.InRegion.{NamesOne, region-self, untyped-badge}
use Rattle.kernel_forest.proofs.Marked.Parents.{BadgeFits, badge_fits_is, badge_fits_from, parent_parts, parent_from, parent_outside, not_revocable}

-- x is derived from s: another name, with the badge of s or a new one, and both marks say whether it is original
pub record IsDerived (p : ProfileName) (s x : Marked) : Type 0 where
  pub names : NamesOne p s.cap x.cap
  pub badge : badge_of s.cap ≢ 0 → badge_of x.cap ≡ badge_of s.cap
  pub not_original : is_untyped s.cap ≡ false → badge_of x.cap ≡ badge_of s.cap → (x.revocable ≡ false) × (x.first_badged ≡ false)

pub zero_from : (n : ℕ) → (n ≢ 0 → ⊥) → n ≡ 0
zero_from zero h = refl
zero_from (suc n) h = absurd (h (λ e. cc))

-- what has a badge is no untyped one
pub badge_typed : (p : ProfileName) (r : Marked) → badge_of r.cap ≢ 0 → is_untyped r.cap ≡ false
badge_typed p r h = (elim (is_untyped r.cap) as (λ c. is_untyped r.cap ≡ c → c ≡ false) [ true ↦ λ e. absurd (h (untyped-badge r.cap e)) | false ↦ λ e. refl ]) refl

-- x takes nothing of what follows s
pub derived_stops : (p : ProfileName) (s x : Marked) (post : List Marked) → IsDerived p s x → IsLed (Some s) post
    → (is_untyped s.cap ≡ true → StopsAtOnce (λ (c : Marked). in_region p s.cap c.cap) post) → StopsAtOnce (is_parent p x) post
derived_stops p s x [] d led childless = tt
derived_stops p s x (h ∷ q) d led childless =
    (elim (is_parent p x h) as (λ c. is_parent p x h ≡ c → c ≡ false) [ true ↦ λ e. absurd (contra e) | false ↦ λ e. refl ]) refl
  where
    same_badge : is_untyped s.cap ≡ false → x.revocable ≡ true → badge_of x.cap ≡ badge_of s.cap → ⊥
    same_badge z r b = let w : x.revocable ≡ false = (d.not_original z b).0 in (let no' : true ≡ false = sym r ∙ w in cc)

    typed : (k : Bool) → is_untyped s.cap ≡ k → (x.revocable ≡ true) × (in_region p x.cap h.cap ≡ true) × (badge_fits x h ≡ true) → BadgeFits x h → ⊥
    typed true z q fits = (let no' : true ≡ false = sym q.1 ∙ sym (d.names.by h.cap) ∙ childless z in cc)
    typed false z q fits =
        let sb : badge_of s.cap ≢ 0 → ⊥ = λ w. same_badge z q.0 (d.badge w) in
        let xb : badge_of x.cap ≢ 0 = λ w. same_badge z q.0 (w ∙ sym (zero_from (badge_of s.cap) sb)) in
        sb (λ w. xb (sym (fits.badge xb) ∙ sym (led.0 (λ y. xb (sym (fits.badge xb) ∙ y)) (fits.first xb)).1 ∙ w))

    contra : is_parent p x h ≡ true → ⊥
    contra e =
        let q : (x.revocable ≡ true) × (in_region p x.cap h.cap ≡ true) × (badge_fits x h ≡ true) = parent_parts p x h e in
        typed (is_untyped s.cap) refl q (badge_fits_is x h q.2)

-- wherever s passed, x does
pub derived_passes : (p : ProfileName) (s x a : Marked) → IsDerived p s x → is_parent p a s ≡ true → is_parent p a x ≡ true
derived_passes p s x a d e =
    let q : (a.revocable ≡ true) × (in_region p a.cap s.cap ≡ true) × (badge_fits a s ≡ true) = parent_parts p a s e in
    let fits : BadgeFits a s = badge_fits_is a s q.2 in
    let some : badge_of a.cap ≢ 0 → badge_of s.cap ≢ 0 = λ z y. z (sym (fits.badge z) ∙ y) in
    parent_from p a x q.0 (sym (d.names.of a.cap) ∙ q.1) (badge_fits_from a x (record {
      badge = λ z. d.badge (some z) ∙ fits.badge z;
      first = λ z. (d.not_original (badge_typed p s (some z)) (d.badge (some z))).1;
    }))

-- s is original: x is its first child
pub derive_below : (p : ProfileName) (pre : List Marked) (s x : Marked) (post : List Marked) → s.revocable ≡ true → is_null s.cap ≡ false → IsDerived p s x
    → IsLed (Some s) post → (is_untyped s.cap ≡ true → StopsAtOnce (λ (c : Marked). in_region p s.cap c.cap) post)
    → Absent (stands_at p s.place) pre → Absent (stands_at p s.place) post
    → forest_of p (pre ++ s ∷ x ∷ post) ≡ below (is_at (s.place * slot_size p)) (entry_of p x) (forest_of p (pre ++ s ∷ post))
derive_below p pre s x post r n d led childless a b =
    ap (renamed (entry_of p)) (build-below (is_parent p) (stands_at p s.place) pre s x post (eq-eqb (s.place * slot_size p) (s.place * slot_size p) refl) a b
    (parent_from p s x r (sym (d.names.of s.cap) ∙ region-self p s.cap n) (badge_fits_from s x (record { badge = d.badge; first = λ z. (d.not_original (badge_typed p s z) (d.badge z)).1 })))
    (derived_stops p s x post d led childless))
    ∙ renamed-below (entry_of p) (is_at (s.place * slot_size p)) x (build (is_parent p) (pre ++ s ∷ post))

-- s is not: x is its next sibling
pub derive_after : (p : ProfileName) (pre : List Marked) (s x : Marked) (post : List Marked) → s.revocable ≡ false → IsDerived p s x
    → IsLed (Some s) post → (is_untyped s.cap ≡ true → StopsAtOnce (λ (c : Marked). in_region p s.cap c.cap) post)
    → Absent (stands_at p s.place) pre → Absent (stands_at p s.place) post
    → forest_of p (pre ++ s ∷ x ∷ post) ≡ after (is_at (s.place * slot_size p)) (entry_of p x) (forest_of p (pre ++ s ∷ post))
derive_after p pre s x post r d led childless a b =
    ap (renamed (entry_of p)) (build-after (is_parent p) (stands_at p s.place) pre s x post (eq-eqb (s.place * slot_size p) (s.place * slot_size p) refl) a b
    (not_revocable p s x r) (stops post) (derived_stops p s x post d led childless) (each pre))
    ∙ renamed-after (entry_of p) (is_at (s.place * slot_size p)) x (build (is_parent p) (pre ++ s ∷ post))
  where
    stops : (l : List Marked) → StopsAtOnce (is_parent p s) l
    stops [] = tt
    stops (h ∷ l) = not_revocable p s h r

    each : (l : List Marked) → Each (λ (a : Marked). is_parent p a s ≡ true → is_parent p a x ≡ true) l
    each [] = tt
    each (a ∷ l) = ((λ e. derived_passes p s x a d e), each l)

-- x is made in the untyped u: its first child
pub retype_below : (p : ProfileName) (pre : List Marked) (u x : Marked) (post : List Marked) → u.revocable ≡ true → badge_of u.cap ≡ 0
    → in_region p u.cap x.cap ≡ true → StopsAtOnce (λ (c : Marked). in_region p x.cap c.cap) post → Absent (stands_at p u.place) pre → Absent (stands_at p u.place) post
    → forest_of p (pre ++ u ∷ x ∷ post) ≡ below (is_at (u.place * slot_size p)) (entry_of p x) (forest_of p (pre ++ u ∷ post))
retype_below p pre u x post r z c stop a b =
    ap (renamed (entry_of p)) (build-below (is_parent p) (stands_at p u.place) pre u x post (eq-eqb (u.place * slot_size p) (u.place * slot_size p) refl) a b
    (parent_from p u x r c (badge_fits_from u x (record { badge = λ n. absurd (n z); first = λ n. absurd (n z) }))) (stops post stop))
    ∙ renamed-below (entry_of p) (is_at (u.place * slot_size p)) x (build (is_parent p) (pre ++ u ∷ post))
  where
    stops : (l : List Marked) → StopsAtOnce (λ (c : Marked). in_region p x.cap c.cap) l → StopsAtOnce (is_parent p x) l
    stops [] n = tt
    stops (h ∷ l) n = parent_outside p x h n

-- x lies in nobody's region, and stands at the end: it is a tree of its own
pub root_behind : (p : ProfileName) (l : List Marked) (x : Marked) → Each (λ (a : Marked). in_region p a.cap x.cap ≡ false) l
    → forest_of p (l ++ x ∷ []) ≡ root (entry_of p x) (forest_of p l)
root_behind p l x h =
    ap (renamed (entry_of p)) (build-root (is_parent p) x l (each l h)) ∙ renamed-root (entry_of p) x (build (is_parent p) l)
  where
    each : (m : List Marked) → Each (λ (a : Marked). in_region p a.cap x.cap ≡ false) m → Each (λ (a : Marked). is_parent p a x ≡ false) m
    each [] n = tt
    each (a ∷ m) n = (parent_outside p a x n.0, each m n.1)
