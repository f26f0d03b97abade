-- What is read off the marked list: the newest child of a slot, and whether its capability is the last of its object.
use Rattle.std.proofs.Common.{◌≡◌, ◌*◌, Bool, true, false, cond, not, ◌||◌, ◌&&◌, ◌==◌, eq-eqb, List, [], ◌∷◌, ◌++◌, map, Some, None, refl, sym, ◌∙◌, ap, subst, append_assoc}
use Rattle.std.specs.Prelude.{option_map}
use Rattle.std.specs.List.{AllByRecursion as Each, list_any}
use Rattle.std.proofs.lemmas.List.Folds.{list_any-append}
use Rattle.cap_core.specs.declared.profile.ProfileName.{ProfileName}
use Rattle.cap_core.specs.declared.capability.Cap.{Cap}
use Rattle.cap_core.specs.Numbers.{slot_size}
use Rattle.cap_core.specs.Objects.{is_untyped, same_object, in_region}
use Rattle.kernel_forest.specs.Forest.{preorder}
use Rattle.kernel_forest.specs.Entries.{Entry, first_child}
use Rattle.kernel_forest.specs.Derivation.{is_last}
use Rattle.kernel_forest.specs.Marked.{Marked, is_parent, entry_of, forest_of, stands_at, IsFront, IsGathered, next_child, is_named_before, is_named_behind}
use Rattle.kernel_forest.proofs.Trees.Built.{Absent, next_passing}
use Rattle.kernel_forest.proofs.Disjoint.Disjointness.{same_object-swap}
use Rattle.kernel_forest.proofs.Disjoint.InRegion.{region_same, same-through, named_typed}
use Rattle.kernel_forest.proofs.Marked.MarkedLines.{entries_of}
use Rattle.kernel_forest.proofs.Marked.MarkedKept.{Outside, gathered-back}
use Rattle.kernel_forest.proofs.Marked.MarkedSteps.{StandsIn, cap_standing, child_standing}

-- the newest child is the next slot, where that passes the test
pub child_told : (p : ProfileName) (pre : List Marked) (s : Marked) (post : List Marked) → StandsIn p pre s post
    → first_child (s.place * slot_size p) (forest_of p (pre ++ s ∷ post)) ≡ next_child p s post
child_told p pre s post st = child_standing p pre s post st.front st.back ∙ go post
  where
    go : (l : List Marked) → option_map (λ (r : Marked). r.place * slot_size p) (next_passing (is_parent p s) l) ≡ next_child p s l
    go [] = refl
    go (b ∷ l) =
        (elim (is_parent p s b) as (λ c. option_map (λ (r : Marked). r.place * slot_size p) (cond c (Some b) None) ≡ cond c (Some (b.place * slot_size p)) None) [
          | true ↦ refl
          | false ↦ refl
        ])

-- the last of its object is told by the two neighbours

-- the object of s is named in front of it only where the one before it names it
others_before : (p : ProfileName) (pre : List Marked) (d s : Marked) (post : List Marked) → is_untyped s.cap ≡ false → IsGathered p (pre ++ d ∷ s ∷ post) → same_object d.cap s.cap ≡ false
    → Each (λ (c : Marked). same_object c.cap s.cap ≡ false) pre
others_before p [] d s post u g n = tt
others_before p (a ∷ pre) d s post u g n =
    ((elim (same_object a.cap s.cap) as (λ c. same_object a.cap s.cap ≡ c → c ≡ false) [ true ↦ λ e. absurd (contra e) | false ↦ λ e. refl ]) refl, others_before p pre d s post u g.1 n)
  where
    at_front : (l : List Marked) → IsFront p a (l ++ d ∷ s ∷ post) → in_region p a.cap d.cap ≡ false → in_region p a.cap s.cap ≡ false
    at_front [] f e = (f.0 e).0
    at_front (c ∷ l) f e = at_front l f.1 e

    contra : same_object a.cap s.cap ≡ true → ⊥
    contra e =
        let ua : is_untyped a.cap ≡ false = named_typed a.cap s.cap e in
        let nd : same_object a.cap d.cap ≡ false = (elim (same_object a.cap d.cap) as (λ c. same_object a.cap d.cap ≡ c → c ≡ false) [
          | true ↦ λ t. absurd (let w : same_object d.cap s.cap ≡ true = same-through d.cap a.cap s.cap (same_object-swap d.cap a.cap ∙ t) e in let no' : true ≡ false = sym w ∙ n in cc)
          | false ↦ λ t. refl
        ]) refl in
        let z : in_region p a.cap s.cap ≡ false = at_front pre g.0 (region_same p a.cap d.cap ua ∙ nd) in
        (let no' : true ≡ false = sym e ∙ sym (region_same p a.cap s.cap ua) ∙ z in cc)

none_names : (s : Marked) (l : List Marked) → Each (λ (c : Marked). same_object c.cap s.cap ≡ false) l → list_any (λ (r : Marked). same_object r.cap s.cap) l ≡ false
none_names s [] h = refl
none_names s (a ∷ l) h = rw (h.0, none_names s l h.1)

-- behind s
any_behind : (p : ProfileName) (s : Marked) (l : List Marked) → is_untyped s.cap ≡ false → IsFront p s l → list_any (λ (r : Marked). same_object r.cap s.cap) l ≡ is_named_behind s l
any_behind p s [] u f = refl
any_behind p s (h ∷ q) u f =
    (elim (same_object h.cap s.cap) as (λ c. same_object h.cap s.cap ≡ c → (c || list_any (λ (r : Marked). same_object r.cap s.cap) q) ≡ c) [
      | true ↦ λ e. refl
      | false ↦ λ e. none_names s q (away q (f.0 (region_same p s.cap h.cap u ∙ same_object-swap s.cap h.cap ∙ e)))
    ]) refl
  where
    away : (m : List Marked) → Outside p s m → Each (λ (c : Marked). same_object c.cap s.cap ≡ false) m
    away [] k = tt
    away (c ∷ m) k = (same_object-swap c.cap s.cap ∙ sym (region_same p s.cap c.cap u) ∙ k.0, away m k.1)

-- the last of a list, behind what comes before it
last_part : (s b : Marked) (l : List Marked) → (front : List Marked) × (d : Marked) × (b ∷ l ≡ front ++ d ∷ []) × (is_named_before s (b ∷ l) ≡ same_object d.cap s.cap)
last_part s b [] = ([], b, refl, refl)
last_part s b (x ∷ l) = let r = last_part s x l in (b ∷ r.0, r.1, ap (λ t. b ∷ t) r.2, r.3)

-- in front of s
any_before : (p : ProfileName) (pre : List Marked) (s : Marked) (post : List Marked) → is_untyped s.cap ≡ false → IsGathered p (pre ++ s ∷ post)
    → list_any (λ (r : Marked). same_object r.cap s.cap) pre ≡ is_named_before s pre
any_before p [] s post u g = refl
any_before p (a ∷ []) s post u g = or-false (same_object a.cap s.cap)
  where
    or-false : (b : Bool) → (b || false) ≡ b
    or-false true = refl
    or-false false = refl
any_before p (a ∷ (b ∷ l)) s post u g =
    (elim (same_object a.cap s.cap) as (λ c. same_object a.cap s.cap ≡ c → (c || list_any (λ (r : Marked). same_object r.cap s.cap) (b ∷ l)) ≡ is_named_before s (b ∷ l)) [
      | true ↦ λ e. sym (is_named e)
      | false ↦ λ e. any_before p (b ∷ l) s post u g.1
    ]) refl
  where
    -- where a names it, so does the last one
    is_named : same_object a.cap s.cap ≡ true → is_named_before s (b ∷ l) ≡ true
    is_named e =
        let r = last_part s b l in
        let gathered : IsGathered p ((a ∷ r.0) ++ r.1 ∷ s ∷ post) =
        (let Q : List Marked → Type 0 = λ t. IsGathered p (a ∷ t) in subst Q (ap (λ (t : List Marked). t ++ s ∷ post) r.2 ∙ append_assoc r.0 (r.1 ∷ []) (s ∷ post)) g) in
        r.3 ∙
        (elim (same_object r.1.cap s.cap) as (λ c. same_object r.1.cap s.cap ≡ c → c ≡ true) [
          | true ↦ λ t. refl
          | false ↦ λ t. absurd (let z : same_object a.cap s.cap ≡ false = (others_before p (a ∷ r.0) r.1 s post u gathered t).0 in let no' : true ≡ false = sym e ∙ z in cc)
        ]) refl

elsewhere : (p : ProfileName) (s : Marked) (l : List Marked) → Absent (stands_at p s.place) l
    → list_any (λ (e : Entry). not (e.slot == s.place * slot_size p) && same_object e.cap s.cap) (map (entry_of p) l) ≡ list_any (λ (r : Marked). same_object r.cap s.cap) l
elsewhere p s [] h = refl
elsewhere p s (a ∷ l) h = rw (h.0, elsewhere p s l h.1)

map-entries : (p : ProfileName) (xs ys : List Marked) → map (entry_of p) (xs ++ ys) ≡ map (entry_of p) xs ++ map (entry_of p) ys
map-entries p [] ys = refl
map-entries p (x ∷ xs) ys = ap (λ l. entry_of p x ∷ l) (map-entries p xs ys)

-- the capability in a slot is the last of its object where it is untyped, or neither neighbour names the object
pub last_told : (p : ProfileName) (pre : List Marked) (s : Marked) (post : List Marked) → IsGathered p (pre ++ s ∷ post) → StandsIn p pre s post
    → is_last (s.place * slot_size p) (forest_of p (pre ++ s ∷ post)) ≡ (is_untyped s.cap || not (is_named_before s pre || is_named_behind s post))
last_told p pre s post g st =
    ap (λ (k : Cap). is_untyped k || not (list_any (λ (e : Entry). not (e.slot == s.place * slot_size p) && same_object e.cap k) (preorder (forest_of p (pre ++ s ∷ post))))) (cap_standing p pre s post st.front)
    ∙ (elim (is_untyped s.cap) as (λ c. is_untyped s.cap ≡ c → (c || not (list_any q (preorder (forest_of p (pre ++ s ∷ post))))) ≡ (c || not (is_named_before s pre || is_named_behind s post))) [
      | true ↦ λ u. refl
      | false ↦ λ u. ap not (named u)
    ]) refl
  where
    q : Entry → Bool
    q e = not (e.slot == s.place * slot_size p) && same_object e.cap s.cap

    named : is_untyped s.cap ≡ false → list_any q (preorder (forest_of p (pre ++ s ∷ post))) ≡ (is_named_before s pre || is_named_behind s post)
    named u =
        let self : (s.place * slot_size p == s.place * slot_size p) ≡ true = eq-eqb (s.place * slot_size p) (s.place * slot_size p) refl in
        ap (list_any q) (entries_of p (pre ++ s ∷ post) ∙ map-entries p pre (s ∷ post)) ∙ list_any-append q (map (entry_of p) pre) (map (entry_of p) (s ∷ post))
        ∙ ap (λ t. t || list_any q (map (entry_of p) (s ∷ post))) (elsewhere p s pre st.front ∙ any_before p pre s post u g)
        ∙ ap (λ t. is_named_before s pre || t) (rw self (elsewhere p s post st.back ∙ any_behind p s post u (gathered-back p pre (s ∷ post) g).0))
