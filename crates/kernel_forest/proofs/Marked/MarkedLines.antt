-- What disjoint objects say of a further slot: in whose region it lies, and what lies in its own.
use Rattle.std.proofs.Common.{◌≡◌, ℕ, ◌*◌, Bool, true, false, not, ◌||◌, ◌==◌, eq-eqb, List, [], ◌∷◌, ◌++◌, map, inl, inr, refl, sym, ◌∙◌, ap, subst, arith}
use Rattle.std.specs.List.{AllByRecursion as Each, Contains, list_any}
use Rattle.std.proofs.lemmas.Bool.{and_parts}
use Rattle.std.proofs.lemmas.List.Elements.{Contains-append_right}
use Rattle.cap_core.specs.declared.profile.ProfileName.{ProfileName}
use Rattle.cap_core.specs.declared.capability.Cap.{Cap}
use Rattle.cap_core.specs.declared.capability.Cap.TheVariants.{Null, Untyped, Endpoint, CNode, Tcb}
use Rattle.cap_core.specs.Numbers.{slot_size}
use Rattle.cap_core.specs.Objects.{is_null, is_untyped, same_object, contains, in_region}
use Rattle.kernel_forest.specs.Forest.{Forest, preorder, below_those, ancestors, below, build}
use Rattle.kernel_forest.specs.Entries.{Entry, entry, is_at, is_full}
use Rattle.kernel_forest.specs.Derivation.{rooted, retyped, is_named}
use Rattle.kernel_forest.specs.Disjoint.{IsDisjoint}
use Rattle.kernel_forest.specs.Marked.{Marked, is_parent, entry_of, forest_of, stands_at}
use Rattle.kernel_forest.proofs.Trees.Forests.{each-contained, each-contains, contains-root_old, contains-root_new, below_those-root, ancestors-root}
use Rattle.kernel_forest.proofs.Trees.Renamed.{each-map}
use Rattle.kernel_forest.proofs.Trees.Lines.{any_none}
use Rattle.kernel_forest.proofs.Disjoint.Disjointness.{same_number}
use Rattle.kernel_forest.proofs.Trees.Built.{Absent, Once, once-split, preorder-build, preorder-renamed}
use Rattle.kernel_forest.proofs.Slots.Distinct.{IsInserted, inserted-below}
use Rattle.kernel_forest.proofs.Disjoint.InRegion.{region_same}
use Rattle.kernel_forest.proofs.Trees.Above.{each-below_those, each-ancestors}

-- the entries of a marked list

pub entries_of : (p : ProfileName) (l : List Marked) → preorder (forest_of p l) ≡ map (entry_of p) l
entries_of p l = preorder-renamed (entry_of p) (build (is_parent p) l) ∙ ap (map (entry_of p)) (preorder-build (is_parent p) l)

pub each-mapped : {A B : Type 0} (Q : B → Type 0) (w : A → B) (l : List A) → Each Q (map w l) → Each (λ a. Q (w a)) l
each-mapped Q w [] h = tt
each-mapped Q w (a ∷ l) h = (h.0, each-mapped Q w l h.1)

pub each-entry : (p : ProfileName) (Q : Entry → Type 0) (l : List Marked) → Each Q (preorder (forest_of p l)) → Each (λ (a : Marked). Q (entry_of p a)) l
each-entry p Q l h = each-mapped Q (entry_of p) l (let P : List Entry → Type 0 = Each Q in subst P (entries_of p l) h)

pub each-from_entry : (p : ProfileName) (Q : Entry → Type 0) (l : List Marked) → Each (λ (a : Marked). Q (entry_of p a)) l → Each Q (preorder (forest_of p l))
each-from_entry p Q l h = let P : List Entry → Type 0 = Each Q in subst P (sym (entries_of p l)) (each-map Q (entry_of p) l h)

pub members : (p : ProfileName) (l : List Marked) → Each (λ (a : Marked). Contains (preorder (forest_of p l)) (entry_of p a)) l
members p l = each-entry p (Contains (preorder (forest_of p l))) l (each-contains (preorder (forest_of p l)))

pub absent_at : (p : ProfileName) (n : ℕ) (l : List Marked) → is_full (n * slot_size p) (forest_of p l) ≡ false → Absent (stands_at p n) l
absent_at p n l h = each-entry p (λ (e : Entry). is_at (n * slot_size p) e ≡ false) l (any_none (is_at (n * slot_size p)) (preorder (forest_of p l)) h)

pub unnamed : (p : ProfileName) (cap : Cap) (l : List Marked) → is_named cap (forest_of p l) ≡ false → Each (λ (a : Marked). same_object a.cap cap ≡ false) l
unnamed p cap l h = each-entry p (λ (e : Entry). same_object e.cap cap ≡ false) l (any_none (λ (e : Entry). same_object e.cap cap) (preorder (forest_of p l)) h)

-- in the region of an untyped one is what it contains
pub region_contains : (p : ProfileName) (a c : Cap) → is_untyped a ≡ true → in_region p a c ≡ true → contains p a c ≡ true
region_contains p (Untyped i bits free) c u h = (and_parts (not (is_null c)) (contains p (Untyped i bits free) c) h).1
region_contains p Null c u h = absurd (let n : false ≡ true = u in cc)
region_contains p (Endpoint i badge rights) c u h = absurd (let n : false ≡ true = u in cc)
region_contains p (CNode i radix guard) c u h = absurd (let n : false ≡ true = u in cc)
region_contains p (Tcb i) c u h = absurd (let n : false ≡ true = u in cc)

-- b lies outside a's region, where it is another object and where an untyped a that contains it is refuted
pub outside_by : (p : ProfileName) (a b : Cap) → same_object a b ≡ false → (is_untyped a ≡ true → contains p a b ≡ true → ⊥) → in_region p a b ≡ false
outside_by p a b other not_in = typed (is_untyped a) refl
  where
    typed : (k : Bool) → is_untyped a ≡ k → in_region p a b ≡ false
    typed false z = region_same p a b z ∙ other
    typed true z =
        (elim (in_region p a b) as (λ c. in_region p a b ≡ c → c ≡ false) [ true ↦ λ e. absurd (not_in z (region_contains p a b z e)) | false ↦ λ e. refl ]) refl

-- a slot at an address that no entry has stands in no line
pub nowhere : (n : ℕ) (l : List Entry) (x : Entry) → x.slot ≡ n → Each (λ (e : Entry). (e.slot == n) ≡ false) l → Contains l x → ⊥
nowhere n l x e h m =
    let f : (x.slot == n) ≡ false = each-contained (λ (e : Entry). (e.slot == n) ≡ false) l x h m in
    let t : (x.slot == n) ≡ true = eq-eqb x.slot n e in
    (let no' : true ≡ false = sym t ∙ f in cc)

-- a root capability lies in nobody's region
pub root_outside : (p : ProfileName) (l : List Marked) (n : ℕ) (cap : Cap) → IsDisjoint p (rooted (n * slot_size p) cap (forest_of p l))
    → is_full (n * slot_size p) (forest_of p l) ≡ false → is_named cap (forest_of p l) ≡ false → Each (λ (a : Marked). in_region p a.cap cap ≡ false) l
root_outside p l n cap d empty named = go l (members p l) (absent_at p n l empty) (unnamed p cap l named)
  where
    f : Forest Entry
    f = forest_of p l

    x : Entry
    x = entry (n * slot_size p) cap true

    none : Each (λ (e : Entry). (e.slot == n * slot_size p) ≡ false) (preorder f)
    none = any_none (is_at (n * slot_size p)) (preorder f) empty

    not_in : (a : Marked) → Contains (preorder f) (entry_of p a) → stands_at p n a ≡ false → is_untyped a.cap ≡ true → contains p a.cap cap ≡ true → ⊥
    not_in a m s u c =
        elim (d.lines (entry_of p a) x (contains-root_old x f (entry_of p a) m) (contains-root_new x f) u c) [
          | inl e ↦ (let t : stands_at p n a ≡ true = eq-eqb (a.place * slot_size p) (n * slot_size p) (sym e) in let no' : true ≡ false = sym t ∙ s in cc)
          | inr r ↦ elim r [
            | inl k ↦ nowhere (n * slot_size p) (preorder (below_those q f)) x refl (each-below_those (λ (e : Entry). (e.slot == n * slot_size p) ≡ false) q f none)
                (let Q : Forest Entry → Type 0 = λ g. Contains (preorder g) x in subst Q (below_those-root q x f) k)
            | inr k ↦ nowhere (n * slot_size p) (ancestors q f) x refl (each-ancestors (λ (e : Entry). (e.slot == n * slot_size p) ≡ false) q f none)
                (let Q : List Entry → Type 0 = λ g. Contains g x in subst Q (ancestors-root q x f) k)
          ]
        ]
      where
        q : Entry → Bool
        q = is_at (a.place * slot_size p)

    go : (m : List Marked) → Each (λ (a : Marked). Contains (preorder f) (entry_of p a)) m → Absent (stands_at p n) m → Each (λ (a : Marked). same_object a.cap cap ≡ false) m
        → Each (λ (a : Marked). in_region p a.cap cap ≡ false) m
    go [] h s u = tt
    go (a ∷ m) h s u = (outside_by p a.cap cap u.0 (not_in a h.0 s.0), go m h.1 s.1 u.1)

-- the untyped u of a retype stands between `pre` and `post`
pub record IsRetype (p : ProfileName) (pre : List Marked) (u : Marked) (post : List Marked) (n : ℕ) (cap : Cap) : Type 0 where
  pub disjoint : IsDisjoint p (retyped (u.place * slot_size p) (n * slot_size p) cap (forest_of p (pre ++ u ∷ post)))
  pub empty : is_full (n * slot_size p) (forest_of p (pre ++ u ∷ post)) ≡ false
  pub named : is_named cap (forest_of p (pre ++ u ∷ post)) ≡ false
  pub front : Absent (stands_at p u.place) pre
  pub back : Absent (stands_at p u.place) post

pub new_is_there : (p : ProfileName) (pre : List Marked) (u : Marked) (post : List Marked) (n : ℕ) (cap : Cap) → IsRetype p pre u post n cap
    → Contains (preorder (retyped (u.place * slot_size p) (n * slot_size p) cap (forest_of p (pre ++ u ∷ post)))) (entry (n * slot_size p) cap true)
new_is_there p pre u post n cap r =
    let f : Forest Entry = forest_of p (pre ++ u ∷ post) in
    let x : Entry = entry (n * slot_size p) cap true in
    let is : Entry → Bool = is_at (u.place * slot_size p) in
    let w : List Entry → Type 0 = Once is in
    let o : Once is (preorder f) = subst w (sym (entries_of p (pre ++ u ∷ post))) (once_map pre r.front) in
    let i : IsInserted x (preorder f) (preorder (below is x f)) = inserted-below is x f o (any_map pre ∙ refl) in
    let Q : List Entry → Type 0 = λ l. Contains l x in
    subst Q (sym i.new) (Contains-append_right i.front (x ∷ i.rest) x (0, omega arith, refl))
  where
    absent_map : (l : List Marked) → Absent (stands_at p u.place) l → Absent (is_at (u.place * slot_size p)) (map (entry_of p) l)
    absent_map l h = each-map (λ (e : Entry). is_at (u.place * slot_size p) e ≡ false) (entry_of p) l h

    once_map : (l : List Marked) → Absent (stands_at p u.place) l → Once (is_at (u.place * slot_size p)) (map (entry_of p) (l ++ u ∷ post))
    once_map [] h = once-split (is_at (u.place * slot_size p)) [] (entry_of p u) (map (entry_of p) post) tt (absent_map post r.back)
    once_map (a ∷ l) h = ((λ e. absurd (let no' : true ≡ false = sym e ∙ h.0 in cc)), once_map l h.1)

    any_map : (l : List Marked) → list_any (is_at (u.place * slot_size p)) (preorder (forest_of p (pre ++ u ∷ post))) ≡ true
    any_map l = ap (list_any (is_at (u.place * slot_size p))) (entries_of p (pre ++ u ∷ post)) ∙ some pre
      where
        some : (m : List Marked) → list_any (is_at (u.place * slot_size p)) (map (entry_of p) (m ++ u ∷ post)) ≡ true
        some [] = ap (λ b. b || list_any (is_at (u.place * slot_size p)) (map (entry_of p) post)) (same_number (u.place * slot_size p))
        some (a ∷ m) = rw (some m) (or-true (stands_at p u.place a))
          where
            or-true : (b : Bool) → (b || true) ≡ true
            or-true true = refl
            or-true false = refl
