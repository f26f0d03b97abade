-- The capability of a new object, directly behind its untyped region: it takes nothing, and the marked list stays gathered.
use Rattle.std.proofs.Common.{◌≡◌, ℕ, ◌*◌, Bool, true, false, ◌==◌, eq-eqb, List, [], ◌∷◌, ◌++◌, inl, inr, refl, sym, ◌∙◌, ap, subst, arith, append_assoc}
use Rattle.std.specs.List.{AllByRecursion as Each, Contains}
use Rattle.cap_core.specs.declared.profile.ProfileName.{ProfileName}
use Rattle.cap_core.specs.declared.capability.Cap.{Cap}
use Rattle.cap_core.specs.Numbers.{slot_size}
use Rattle.cap_core.specs.Objects.{is_untyped, same_object, contains, in_region}
use Rattle.std.proofs.lemmas.Bool.{eqb-true}
use Rattle.kernel_forest.specs.Forest.{Forest, preorder, below_those, ancestors, below, renamed, front_trees, build}
use Rattle.kernel_forest.specs.Entries.{Entry, entry, is_at}
use Rattle.kernel_forest.specs.Marked.{Marked, is_parent, entry_of, forest_of, IsFront, IsGathered, stands_at}
use Rattle.kernel_forest.proofs.Trees.Forests.{contains-below_old, ancestors-below}
use Rattle.kernel_forest.proofs.Trees.Built.{Absent, at_one, preorder-build, preorder-renamed, build-below_those, renamed-below_those}
use Rattle.kernel_forest.proofs.Trees.Nested.{whole-nested, nested-build, each-taken}
use Rattle.kernel_forest.proofs.Disjoint.Disjointness.{same_object-swap, same_number}
use Rattle.kernel_forest.proofs.Disjoint.InRegion.{region-transitive}
use Rattle.kernel_forest.proofs.Marked.Parents.{parent_parts, parent-transitive}
use Rattle.kernel_forest.proofs.Trees.Above.{each-below_those, each-ancestors, each-taken_part, ancestors_before, below_those-new, ancestors-new, below_those-other}
use Rattle.kernel_forest.proofs.Trees.Renamed.{ancestors-renamed, each-map}
use Rattle.kernel_forest.proofs.Trees.Lines.{any_none}
use Rattle.kernel_forest.proofs.Marked.MarkedLines.{each-from_entry, members, absent_at, unnamed, outside_by, nowhere, IsRetype, new_is_there}
use Rattle.kernel_forest.proofs.Marked.MarkedKept.{Outside, front-behind, front-at}

-- it stands at another place than all in front, and than u
abbrev pub IsOther : ProfileName → List Marked → Marked → Marked → Type 0
IsOther p pre u h = Absent (stands_at p h.place) pre × (stands_at p h.place u ≡ false)

-- nothing behind u lies in the region of the new capability
pub retype_takes_none : (p : ProfileName) (pre : List Marked) (u : Marked) (post : List Marked) (n : ℕ) (cap : Cap) → IsRetype p pre u post n cap
    → Each (IsOther p pre u) post → Each (λ (h : Marked). in_region p cap h.cap ≡ false) post
retype_takes_none p pre u post n cap r others =
    go post others (back (λ (a : Marked). Contains (preorder f) (entry_of p a)) pre (members p l)) (back (λ (a : Marked). stands_at p n a ≡ false) pre (absent_at p n l r.empty))
    (back (λ (a : Marked). same_object a.cap cap ≡ false) pre (unnamed p cap l r.named))
  where
    l : List Marked
    l = pre ++ u ∷ post

    f : Forest Entry
    f = forest_of p l

    x : Entry
    x = entry (n * slot_size p) cap true

    is : Entry → Bool
    is = is_at (u.place * slot_size p)

    q : Entry → Bool
    q = is_at (n * slot_size p)

    back : (P : Marked → Type 0) (m : List Marked) → Each P (m ++ u ∷ post) → Each P post
    back P [] h = h.1
    back P (a ∷ m) h = back P m h.1

    absent : Absent q (preorder f)
    absent = any_none q (preorder f) r.empty

    above : (h : Marked) → IsOther p pre u h → Each (λ (e : Entry). (e.slot == h.place * slot_size p) ≡ false) (ancestors q (below is x f))
    above h o =
        let P : Entry → Type 0 = λ e. (e.slot == h.place * slot_size p) ≡ false in
        ancestors-new P is q x f (same_number (n * slot_size p)) absent
        (let Q : List Entry → Type 0 = Each P in subst Q (sym (ancestors-renamed (entry_of p) is (build (is_parent p) l)))
        (each-map P (entry_of p) (ancestors (stands_at p u.place) (build (is_parent p) l))
        (ancestors_before (λ (a : Marked). stands_at p h.place a ≡ false) (is_parent p) (stands_at p u.place) pre u post r.front r.back o.0)))
        (each-from_entry p (λ (e : Entry). is e ≡ true → P e) l (at_one (stands_at p u.place) (λ (a : Marked). stands_at p h.place a ≡ false) pre u post r.front r.back o.1))

    not_in : (h : Marked) → IsOther p pre u h → Contains (preorder f) (entry_of p h) → stands_at p n h ≡ false → is_untyped cap ≡ true → contains p cap h.cap ≡ true → ⊥
    not_in h o m s z c =
        elim (r.disjoint.lines x (entry_of p h) (new_is_there p pre u post n cap r) (contains-below_old is x f (entry_of p h) m) z c) [
          | inl e ↦ (let t : stands_at p n h ≡ true = eq-eqb (h.place * slot_size p) (n * slot_size p) e in let no' : true ≡ false = sym t ∙ s in cc)
          | inr k ↦ elim k [
            | inl i ↦ absurd (let Q : Forest Entry → Type 0 = λ g. Contains (preorder g) (entry_of p h) in
                omega (arith, (subst Q (below_those-new is q x f (same_number (n * slot_size p)) absent) i).1))
            | inr i ↦ nowhere (h.place * slot_size p) (ancestors q (below is x f)) (entry_of p h) refl (above h o) i
          ]
        ]

    go : (m : List Marked) → Each (IsOther p pre u) m → Each (λ (a : Marked). Contains (preorder f) (entry_of p a)) m → Absent (stands_at p n) m
        → Each (λ (a : Marked). same_object a.cap cap ≡ false) m → Each (λ (h : Marked). in_region p cap h.cap ≡ false) m
    go [] o h s w = tt
    go (a ∷ m) o h s w = (outside_by p cap a.cap (same_object-swap cap a.cap ∙ w.0) (not_in a o.0 h.0 s.0), go m o.1 h.1 s.1 w.1)

-- what does not have u in its region, and comes before it, does not have the new capability
pub retype_outside : (p : ProfileName) (pre : List Marked) (u : Marked) (post : List Marked) (n : ℕ) (cap : Cap) → IsRetype p pre u post n cap
    → Each (λ (a : Marked). Absent (stands_at p a.place) post) pre → (own : Each (λ (a : Marked). stands_at p a.place u ≡ false) pre)
    → ((front : List Marked) (a : Marked) (rest : List Marked) → front ++ a ∷ rest ≡ pre → Absent (stands_at p a.place) front × Absent (stands_at p a.place) rest)
    → Each (λ (a : Marked). in_region p a.cap u.cap ≡ false → in_region p a.cap cap ≡ false) pre
retype_outside p pre u post n cap r others own apart =
    go [] pre refl (front (λ (a : Marked). Contains (preorder f) (entry_of p a)) pre (members p l)) (front (λ (a : Marked). stands_at p n a ≡ false) pre (absent_at p n l r.empty))
    (front (λ (a : Marked). same_object a.cap cap ≡ false) pre (unnamed p cap l r.named)) others own
  where
    l : List Marked
    l = pre ++ u ∷ post

    f : Forest Entry
    f = forest_of p l

    x : Entry
    x = entry (n * slot_size p) cap true

    is : Entry → Bool
    is = is_at (u.place * slot_size p)

    front : (P : Marked → Type 0) (m : List Marked) → Each P (m ++ u ∷ post) → Each P m
    front P [] h = tt
    front P (a ∷ m) h = (h.0, front P m h.1)

    none : Each (λ (e : Entry). (e.slot == n * slot_size p) ≡ false) (preorder f)
    none = any_none (is_at (n * slot_size p)) (preorder f) r.empty

    -- u does not stand below a
    apart_below : (first : List Marked) (a : Marked) (rest : List Marked) → first ++ a ∷ rest ≡ pre → Absent (stands_at p a.place) post → stands_at p a.place u ≡ false
        → in_region p a.cap u.cap ≡ false → Absent is (preorder (below_those (is_at (a.place * slot_size p)) f))
    apart_below first a rest e b o out =
        let t : Marked → Marked → Bool = is_parent p in
        let behind : List Marked = rest ++ u ∷ post in
        let whole : first ++ a ∷ behind ≡ l = sym (append_assoc first (a ∷ rest) (u ∷ post)) ∙ ap (λ (m : List Marked). m ++ u ∷ post) e in
        let rest_part : Absent (stands_at p u.place) rest = last_part first (let Q : List Marked → Type 0 = Absent (stands_at p u.place) in subst Q (sym e) r.front) in
        let ab : Absent (stands_at p a.place) behind = joined rest (apart first a rest e).1 in
        let g : Forest Marked = front_trees (t a) (build t behind) in
        let all : Each (λ (c : Marked). t a c ≡ true) (preorder g) = each-taken (t a) (build t behind) (whole-nested t (parent-transitive p) a (build t behind) (nested-build t (parent-transitive p) behind)) in
        let ones : Each (λ (c : Marked). stands_at p u.place c ≡ true → in_region p a.cap c.cap ≡ false) (preorder g) =
        each-taken_part (λ (c : Marked). stands_at p u.place c ≡ true → in_region p a.cap c.cap ≡ false) (t a) (build t behind)
        (let Q : List Marked → Type 0 = Each (λ (c : Marked). stands_at p u.place c ≡ true → in_region p a.cap c.cap ≡ false) in
        subst Q (sym (preorder-build t behind)) (at_one (stands_at p u.place) (λ (c : Marked). in_region p a.cap c.cap ≡ false) rest u post rest_part r.back out)) in
        let same : below_those (is_at (a.place * slot_size p)) f ≡ renamed (entry_of p) g =
        ap (λ (m : List Marked). below_those (is_at (a.place * slot_size p)) (forest_of p m)) (sym whole)
        ∙ renamed-below_those (entry_of p) (is_at (a.place * slot_size p)) (build t (first ++ a ∷ behind))
        ∙ ap (renamed (entry_of p)) (build-below_those t (stands_at p a.place) first a behind (same_number (a.place * slot_size p)) (apart first a rest e).0 ab) in
        let Q : List Entry → Type 0 = Absent is in
        subst Q (sym (ap preorder same ∙ preorder-renamed (entry_of p) g)) (each-map (λ (c : Entry). is c ≡ false) (entry_of p) (preorder g) (never (preorder g) all ones))
      where
        last_part : (m : List Marked) → Absent (stands_at p u.place) (m ++ a ∷ rest) → Absent (stands_at p u.place) rest
        last_part [] h = h.1
        last_part (c ∷ m) h = last_part m h.1

        joined : (m : List Marked) → Absent (stands_at p a.place) m → Absent (stands_at p a.place) (m ++ u ∷ post)
        joined [] h = (o, b)
        joined (c ∷ m) h = (h.0, joined m h.1)

        never : (m : List Marked) → Each (λ (c : Marked). is_parent p a c ≡ true) m → Each (λ (c : Marked). stands_at p u.place c ≡ true → in_region p a.cap c.cap ≡ false) m → Absent (stands_at p u.place) m
        never [] h k = tt
        never (c ∷ m) h k = (
          (elim (stands_at p u.place c) as (λ b. stands_at p u.place c ≡ b → b ≡ false) [
            | true ↦ λ t. absurd (let y : in_region p a.cap c.cap ≡ true = (parent_parts p a c h.0).1 in let z : in_region p a.cap c.cap ≡ false = k.0 t in cc)
            | false ↦ λ t. refl
          ]) refl,
          never m h.1 k.1,
        )

    not_in : (first : List Marked) (a : Marked) (rest : List Marked) → first ++ a ∷ rest ≡ pre → Absent (stands_at p a.place) post → stands_at p a.place u ≡ false
        → in_region p a.cap u.cap ≡ false → Contains (preorder f) (entry_of p a) → stands_at p n a ≡ false → is_untyped a.cap ≡ true → contains p a.cap cap ≡ true → ⊥
    not_in first a rest e b o out m s z c =
        elim (r.disjoint.lines (entry_of p a) x (contains-below_old is x f (entry_of p a) m) (new_is_there p pre u post n cap r) z c) [
          | inl i ↦ (let t : stands_at p n a ≡ true = eq-eqb (a.place * slot_size p) (n * slot_size p) (sym i) in let no' : true ≡ false = sym t ∙ s in cc)
          | inr k ↦ elim k [
            | inl i ↦ nowhere (n * slot_size p) (preorder (below_those q f)) x refl (each-below_those (λ (d : Entry). (d.slot == n * slot_size p) ≡ false) q f none)
                (let Q : Forest Entry → Type 0 = λ g. Contains (preorder g) x in
                subst Q (below_those-other is q x f other differ (apart_below first a rest e b o out)) i)
            | inr i ↦ nowhere (n * slot_size p) (ancestors q f) x refl (each-ancestors (λ (d : Entry). (d.slot == n * slot_size p) ≡ false) q f none)
                (let Q : List Entry → Type 0 = λ g. Contains g x in subst Q (ancestors-below is q x f other) i)
          ]
        ]
      where
        q : Entry → Bool
        q = is_at (a.place * slot_size p)

        swap : (i j : ℕ) → (i == j) ≡ false → (j == i) ≡ false
        swap i j h = (elim (j == i) as (λ c. (j == i) ≡ c → c ≡ false) [ true ↦ λ t. (let d : j ≡ i = eqb-true j i t in let t' : (i == j) ≡ true = eq-eqb i j (sym d) in cc) | false ↦ λ t. refl ]) refl

        other : q x ≡ false
        other = swap (a.place * slot_size p) (n * slot_size p) s

        differ : Each (λ (d : Entry). q d ≡ true → is d ≡ false) (preorder f)
        differ = each-from-any (preorder f)
          where
            through : (d : Entry) → q d ≡ true → is d ≡ false
            through d t =
                let i : d.slot ≡ a.place * slot_size p = eqb-true d.slot (a.place * slot_size p) t in
                let Q : ℕ → Type 0 = λ k. (k == u.place * slot_size p) ≡ false in
                subst Q (sym i) (swap (u.place * slot_size p) (a.place * slot_size p) o)

            each-from-any : (m : List Entry) → Each (λ (d : Entry). q d ≡ true → is d ≡ false) m
            each-from-any [] = tt
            each-from-any (d ∷ m) = (through d, each-from-any m)

    go : (first rest : List Marked) → first ++ rest ≡ pre → Each (λ (a : Marked). Contains (preorder f) (entry_of p a)) rest → Absent (stands_at p n) rest
        → Each (λ (a : Marked). same_object a.cap cap ≡ false) rest → Each (λ (a : Marked). Absent (stands_at p a.place) post) rest → Each (λ (a : Marked). stands_at p a.place u ≡ false) rest
        → Each (λ (a : Marked). in_region p a.cap u.cap ≡ false → in_region p a.cap cap ≡ false) rest
    go first [] e h s w b o = tt
    go first (a ∷ rest) e h s w b o = (
      (λ out. outside_by p a.cap cap w.0 (not_in first a rest e b.0 o.0 out h.0 s.0)),
      go (first ++ a ∷ []) rest (append_assoc first (a ∷ []) rest ∙ e) h.1 s.1 w.1 b.1 o.1,
    )

-- the list stays gathered
pub gathered-retype : (p : ProfileName) (pre : List Marked) (u x : Marked) (post : List Marked) → in_region p u.cap x.cap ≡ true
    → Each (λ (a : Marked). in_region p a.cap u.cap ≡ false → in_region p a.cap x.cap ≡ false) pre → Outside p x post
    → IsGathered p (pre ++ u ∷ post) → IsGathered p (pre ++ u ∷ x ∷ post)
gathered-retype p [] u x post c n o h = (((λ e. absurd (let no' : true ≡ false = sym c ∙ e in cc)), h.0), (alone post o, h.1))
  where
    alone : (l : List Marked) → Outside p x l → IsFront p x l
    alone [] k = tt
    alone (b ∷ l) k = ((λ e. k.1), alone l k.1)
gathered-retype p (a ∷ pre) u x post c n o h =
    (front-behind p a pre u x post n.0 (λ e. front-at p a pre u post h.0 (not_u e)) h.0, gathered-retype p pre u x post c n.1 o h.1)
  where
    not_u : in_region p a.cap x.cap ≡ false → in_region p a.cap u.cap ≡ false
    not_u e =
        (elim (in_region p a.cap u.cap) as (λ b. in_region p a.cap u.cap ≡ b → b ≡ false) [
          | true ↦ λ t. absurd (let y : in_region p a.cap x.cap ≡ true = region-transitive p a.cap u.cap x.cap t c in cc)
          | false ↦ λ t. refl
        ]) refl
