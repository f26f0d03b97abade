-- The slots that name one object: a revocable one with no badge comes before the others, and they stand below it.
use Rattle.std.proofs.Common.{◌≡◌, ◌≢◌, ◌*◌, true, false, List, [], ◌∷◌, ◌++◌, map, ◌⊎◌, inl, inr, refl, sym, ◌∙◌, subst, append_assoc}
use Rattle.std.specs.List.{AllByRecursion as Each, Contains, prefix_len}
use Rattle.std.proofs.lemmas.List.Elements.{Contains-append_right}
use Rattle.cap_core.specs.declared.profile.ProfileName.{ProfileName}
use Rattle.cap_core.specs.Numbers.{slot_size}
use Rattle.cap_core.specs.Objects.{badge_of, same_object, in_region}
use Rattle.kernel_forest.specs.Forest.{preorder, descendants}
use Rattle.kernel_forest.specs.Entries.{Entry, is_at}
use Rattle.kernel_forest.specs.Marked.{Marked, is_parent, entry_of, forest_of, run_of, IsFront, IsGathered, IsNamedFirst, HasOthersBelow}
use Rattle.kernel_forest.proofs.Disjoint.Disjointness.{same_object-swap}
use Rattle.kernel_forest.proofs.Trees.Forests.{each-append, each-weaker, each-contains, each-contained}
use Rattle.kernel_forest.proofs.Disjoint.InRegion.{region_same, named_typed}
use Rattle.kernel_forest.proofs.Marked.MarkedLines.{each-from_entry}
use Rattle.kernel_forest.proofs.Marked.Parents.{badge_fits_from, parent_from}
use Rattle.kernel_forest.proofs.Trees.Standing.{take-one}

-- what holds of an element wherever it stands holds of each
each-placed : {X : Type 0} (P : X → Type 0) (l : List X) → ((pre : List X) (x : X) (post : List X) → l ≡ pre ++ x ∷ post → P x) → Each P l
each-placed {X} P l h = go [] l refl
  where
    go : (pre rest : List X) → l ≡ pre ++ rest → Each P rest
    go pre [] e = tt
    go pre (x ∷ rest) e = (h pre x rest e, go (pre ++ x ∷ []) rest (e ∙ sym (append_assoc pre (x ∷ []) rest)))

front-at : (p : ProfileName) (pre : List Marked) (s : Marked) (post : List Marked) → IsGathered p (pre ++ s ∷ post) → IsFront p s post
front-at p [] s post h = h.0
front-at p (a ∷ pre) s post h = front-at p pre s post h.1

-- s is revocable and has no badge
pub record IsOpen (s : Marked) : Type 0 where
  pub revocable : s.revocable ≡ true
  pub badge : badge_of s.cap ≡ 0

open_parent : (p : ProfileName) (s b : Marked) → IsOpen s → in_region p s.cap b.cap ≡ true → is_parent p s b ≡ true
open_parent p s b o h =
    parent_from p s b o.revocable h (badge_fits_from s b (record { badge = λ z. absurd (z o.badge); first = λ z. absurd (z o.badge) }))

-- the longest run of followers that it is parent of has all that name its object
run_names : (p : ProfileName) (s : Marked) (post : List Marked) → IsOpen s → IsFront p s post
    → Each (λ (b : Marked). same_object s.cap b.cap ≡ true → Contains (map (entry_of p) (run_of p s post)) (entry_of p b)) post
run_names p s [] o h = tt
run_names p s (b ∷ l) o h =
    (elim (in_region p s.cap b.cap) as (λ c. in_region p s.cap b.cap ≡ c → Each (In (run_of p s (b ∷ l))) (b ∷ l)) [
      | true ↦ λ e.
          let run : run_of p s (b ∷ l) ≡ b ∷ run_of p s l = rw (open_parent p s b o e) (take-one (prefix_len (is_parent p s) l) b l) in
          let Q : List Marked → Type 0 = λ m. Each (In m) (b ∷ l) in
          subst Q (sym run) (
            (λ n. (each-contains (map (entry_of p) (b ∷ run_of p s l))).0),
            each-weaker (In (run_of p s l)) (In (b ∷ run_of p s l)) (λ c i n. Contains-append_right (entry_of p b ∷ []) (map (entry_of p) (run_of p s l)) (entry_of p c) (i n)) l (run_names p s l o h.1),
          )
      | false ↦ λ e. ((λ n. absurd (outside b e n)), each-weaker (λ (c : Marked). in_region p s.cap c.cap ≡ false) (In (run_of p s (b ∷ l))) (λ c k n. absurd (outside c k n)) l (h.0 e))
    ]) refl
  where
    In : List Marked → Marked → Type 0
    In m c = same_object s.cap c.cap ≡ true → Contains (map (entry_of p) m) (entry_of p c)

    outside : (c : Marked) → in_region p s.cap c.cap ≡ false → same_object s.cap c.cap ≡ true → ⊥
    outside c e n = let r : in_region p s.cap c.cap ≡ same_object s.cap c.cap = region_same p s.cap c.cap (named_typed s.cap c.cap n) in cc

-- none in front of it names its object
pub first_named : (p : ProfileName) (pre : List Marked) (s : Marked) (post : List Marked) → IsOpen s → IsNamedFirst (pre ++ s ∷ post)
    → Each (λ (b : Marked). same_object s.cap b.cap ≡ true → ⊥) pre
first_named p [] s post o h = tt
first_named p (a ∷ pre) s post o h = ((λ n. at pre h.0 (same_object-swap a.cap s.cap ∙ n) o.revocable o.badge), first_named p pre s post o h.1)
  where
    at : (m : List Marked) → Each (λ (b : Marked). same_object a.cap b.cap ≡ true → b.revocable ≡ true → badge_of b.cap ≢ 0) (m ++ s ∷ post)
        → same_object a.cap s.cap ≡ true → s.revocable ≡ true → badge_of s.cap ≢ 0
    at [] k = k.0
    at (c ∷ m) k = at m k.1

pub below_open : (p : ProfileName) (l : List Marked) → IsGathered p l → IsNamedFirst l
    → ((pre : List Marked) (s : Marked) (post : List Marked) → l ≡ pre ++ s ∷ post
    → descendants (is_at (s.place * slot_size p)) (forest_of p l) ≡ map (entry_of p) (run_of p s post))
    → HasOthersBelow (forest_of p l)
below_open p l g f run a b m k n r z = each-contained All (preorder (forest_of p l)) a (each-from_entry p All l (each-placed (λ (s : Marked). All (entry_of p s)) l one)) m r z b k n
  where
    StandsBelow : Entry → Entry → Type 0
    StandsBelow x y = (y.slot ≡ x.slot) ⊎ Contains (descendants (is_at x.slot) (forest_of p l)) y

    All : Entry → Type 0
    All x = x.original ≡ true → badge_of x.cap ≡ 0 → (y : Entry) → Contains (preorder (forest_of p l)) y → same_object x.cap y.cap ≡ true → StandsBelow x y

    one : (pre : List Marked) (s : Marked) (post : List Marked) → l ≡ pre ++ s ∷ post → All (entry_of p s)
    one pre s post e q w y i = each-contained Of (preorder (forest_of p l)) y (each-from_entry p Of l (subst E (sym e) (each-append OfRow pre (s ∷ post) before ((λ n. inl refl), behind)))) i
      where
        Of : Entry → Type 0
        Of x = same_object s.cap x.cap ≡ true → StandsBelow (entry_of p s) x

        OfRow : Marked → Type 0
        OfRow c = Of (entry_of p c)

        E : List Marked → Type 0
        E = Each OfRow

        G : List Marked → Type 0
        G = IsGathered p

        N : List Marked → Type 0
        N = IsNamedFirst

        o : IsOpen s
        o = record { revocable = q; badge = w }

        before : Each OfRow pre
        before = each-weaker (λ (c : Marked). same_object s.cap c.cap ≡ true → ⊥) OfRow (λ c h n. absurd (h n)) pre (first_named p pre s post o (subst N e f))

        behind : Each OfRow post
        behind =
            each-weaker (λ (c : Marked). same_object s.cap c.cap ≡ true → Contains (map (entry_of p) (run_of p s post)) (entry_of p c)) OfRow
            (λ c h n. inr (let C : List Entry → Type 0 = λ m. Contains m (entry_of p c) in subst C (sym (run pre s post e)) (h n))) post
            (run_names p s post o (front-at p pre s post (subst G e g)))
