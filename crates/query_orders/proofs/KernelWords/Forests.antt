-- The list of derivations tells the forest, where no slot comes twice.
use Rattle.std.proofs.Common.{◌≡◌, ℕ, Bool, true, false, ◌==◌, List, [], ◌∷◌, ◌++◌, map, Option, Some, None, option_map, refl, ap, sym, subst, ◌∙◌, arith}
use Rattle.std.proofs.lemmas.List.{map-append}
use Rattle.std.proofs.lemmas.Bool.Decides.{nat_tests}
use Rattle.std.specs.List.{AllByRecursion as Each}
use Rattle.kernel_forest.specs.Forest.{Forest, none, tree, preorder, parented}
use Rattle.kernel_forest.specs.Entries.{Entry, slots, slot_of, derivations_of}
use Rattle.query_orders.specs.Private.Waiting.{AreWaitingApart}

-- each entry with the slot right above it
abbrev parents : Option ℕ → Forest Entry → List (Entry × Option ℕ)
parents above none = []
parents above (tree a u o) = (a, above) ∷ (parents (Some a.slot) u ++ parents above o)

abbrev nums : Forest Entry → List ℕ
nums none = []
nums (tree a u o) = a.slot ∷ (nums u ++ nums o)

parents_are : (above : Option Entry) (f : Forest Entry) → map (λ (e : Entry × Option Entry). (e.0, option_map slot_of e.1)) (parented above f) ≡ parents (option_map slot_of above) f
parents_are above none = refl
parents_are above (tree a u o) =
    ap (λ l. (a, option_map slot_of above) ∷ l)
    (map-append (λ (e : Entry × Option Entry). (e.0, option_map slot_of e.1)) (parented (Some a) u) (parented above o)
    ∙ ap (λ l. l ++ map (λ (e : Entry × Option Entry). (e.0, option_map slot_of e.1)) (parented above o)) (parents_are (Some a) u)
    ∙ ap (λ l. parents (Some a.slot) u ++ l) (parents_are above o))

nums_are : (f : Forest Entry) → slots f ≡ nums f
nums_are none = refl
nums_are (tree a u o) =
    ap (λ l. a.slot ∷ l) (map-append slot_of (preorder u) (preorder o) ∙ ap (λ l. l ++ slots o) (nums_are u) ∙ ap (λ l. nums u ++ l) (nums_are o))

abbrev at : Option ℕ → Option ℕ → Bool
at None None = true
at (Some m) None = false
at None (Some n) = false
at (Some m) (Some n) = m == n

at_itself : (q : Option ℕ) → at q q ≡ true
at_itself None = refl
at_itself (Some n) = grind (arith, nat_tests)

-- none of these slots is the one above
abbrev Fresh : Option ℕ → List ℕ → Type 0
Fresh above ns = Each (λ m. at (Some m) above ≡ false) ns

each_parts : {X : Type 0} (P : X → Type 0) (us vs : List X) → Each P (us ++ vs) → Each P us × Each P vs
each_parts P [] vs h = (tt, h)
each_parts P (u ∷ us) vs h = let r = each_parts P us vs h.1 in ((h.0, r.0), r.1)

each_append : {X : Type 0} (P : X → Type 0) (us vs : List X) → Each P us → Each P vs → Each P (us ++ vs)
each_append P [] vs h k = k
each_append P (u ∷ us) vs h k = (h.0, each_append P us vs h.1 k)

apart_parts : (us vs : List ℕ) → AreWaitingApart (us ++ vs) → AreWaitingApart us × AreWaitingApart vs
apart_parts [] vs h = (tt, h)
apart_parts (u ∷ us) vs h = let r = apart_parts us vs h.1 in (((each_parts (λ m. (m == u) ≡ false) us vs h.0).0, r.0), r.1)

abbrev IsOther : Option ℕ → Entry × Option ℕ → Type 0
IsOther above e = at e.1 above ≡ false

-- below another slot, nothing stands right below the one above
all_other : (above : Option ℕ) (b : ℕ) (u : Forest Entry) → at (Some b) above ≡ false → Fresh above (nums u) → Each (IsOther above) (parents (Some b) u)
all_other above b none h f = tt
all_other above b (tree c v o) h f =
    let r = each_parts (λ m. at (Some m) above ≡ false) (nums v) (nums o) f.1 in
    (h, each_append (IsOther above) (parents (Some c.slot) v) (parents (Some b) o) (all_other above c.slot v f.0 r.0) (all_other above b o h r.1))

abbrev Starts : Option ℕ → List (Entry × Option ℕ) → Type 0
Starts above [] = Unit {0}
Starts above (e ∷ es) = e.1 ≡ above

starts : (above : Option ℕ) (o : Forest Entry) → Starts above (parents above o)
starts above none = tt
starts above (tree a u o) = refl

clash : (above : Option ℕ) (e e' : Entry × Option ℕ) → e ≡ e' → e.1 ≡ above → at e'.1 above ≡ false → ⊥
clash above e e' h s o = let k : at above above ≡ false = subst (λ q. at q above ≡ false) (sym (ap (λ (x : Entry × Option ℕ). x.1) h) ∙ s) o in let t = at_itself above in cc

first_is : (e e' : Entry × Option ℕ) (es es' : List (Entry × Option ℕ)) → e ∷ es ≡ e' ∷ es' → e ≡ e'
first_is e e' es es' h = cc

rest_is : (e e' : Entry × Option ℕ) (es es' : List (Entry × Option ℕ)) → e ∷ es ≡ e' ∷ es' → es ≡ es'
rest_is e e' es es' h = cc

cut : (above : Option ℕ) (us us' os os' : List (Entry × Option ℕ)) → Each (IsOther above) us → Each (IsOther above) us' → Starts above os → Starts above os' → us ++ os ≡ us' ++ os' → (us ≡ us') × (os ≡ os')
cut above [] [] os os' a a' s s' h = (refl, h)
cut above [] (y ∷ ys) [] os' a a' s s' h = cc
cut above [] (y ∷ ys) (x ∷ xs) os' a a' s s' h = absurd (clash above x y (first_is x y xs (ys ++ os') h) s a'.0)
cut above (x ∷ xs) [] os [] a a' s s' h = cc
cut above (x ∷ xs) [] os (y ∷ ys) a a' s s' h = absurd (clash above y x (sym (first_is x y (xs ++ os) ys h)) s' a.0)
cut above (x ∷ xs) (y ∷ ys) os os' a a' s s' h =
    let e = first_is x y (xs ++ os) (ys ++ os') h in
    let r = cut above xs ys os os' a.1 a'.1 s s' (rest_is x y (xs ++ os) (ys ++ os') h) in
    (let p : x ∷ xs ≡ y ∷ ys = ap (λ z. z ∷ xs) e ∙ ap (λ l. y ∷ l) r.0 in p, r.1)

record Good (above : Option ℕ) (f : Forest Entry) : Type 0 where
  apart : AreWaitingApart (nums f)
  fresh : Fresh above (nums f)

good_under : (above : Option ℕ) (a : Entry) (u o : Forest Entry) → Good above (tree a u o) → Good (Some a.slot) u
good_under above a u o g = record { apart = (apart_parts (nums u) (nums o) g.apart.1).0; fresh = (each_parts (λ m. (m == a.slot) ≡ false) (nums u) (nums o) g.apart.0).0 }

good_others : (above : Option ℕ) (a : Entry) (u o : Forest Entry) → Good above (tree a u o) → Good above o
good_others above a u o g = record { apart = (apart_parts (nums u) (nums o) g.apart.1).1; fresh = (each_parts (λ m. at (Some m) above ≡ false) (nums u) (nums o) g.fresh.1).1 }

others : (above : Option ℕ) (a : Entry) (u o : Forest Entry) → Good above (tree a u o) → Each (IsOther above) (parents (Some a.slot) u)
others above a u o g = all_other above a.slot u g.fresh.0 (each_parts (λ m. at (Some m) above ≡ false) (nums u) (nums o) g.fresh.1).0

tree_is : (a a' : Entry) (u u' o o' : Forest Entry) → a ≡ a' → u ≡ u' → o ≡ o' → tree a u o ≡ tree a' u' o'
tree_is a a' u u' o o' p q r = cc

same_forest : (above : Option ℕ) (f g : Forest Entry) → Good above f → Good above g → parents above f ≡ parents above g → f ≡ g
same_forest above none none x y h = refl
same_forest above none (tree a u o) x y h = cc
same_forest above (tree a u o) none x y h = cc
same_forest above (tree a u o) (tree a' u' o') x y h =
    let e : a ≡ a' = ap (λ (z : Entry × Option ℕ). z.0) (first_is (a, above) (a', above) (parents (Some a.slot) u ++ parents above o) (parents (Some a'.slot) u' ++ parents above o') h) in
    let r = cut above (parents (Some a.slot) u) (parents (Some a'.slot) u') (parents above o) (parents above o') (others above a u o x) (others above a' u' o' y) (starts above o) (starts above o') (rest_is (a, above) (a', above) (parents (Some a.slot) u ++ parents above o) (parents (Some a'.slot) u' ++ parents above o') h) in
    let under : parents (Some a.slot) u ≡ parents (Some a.slot) u' = r.0 ∙ ap (λ (z : Entry). parents (Some z.slot) u') (sym e) in
    let good : Good (Some a.slot) u' = subst (λ (z : Entry). Good (Some z.slot) u') (sym e) (good_under above a' u' o' y) in
    tree_is a a' u u' o o' e (same_forest (Some a.slot) u u' (good_under above a u o x) good under) (same_forest above o o' (good_others above a u o x) (good_others above a' u' o' y) r.1)

fresh_none : (ns : List ℕ) → Fresh None ns
fresh_none [] = tt
fresh_none (n ∷ ns) = (refl, fresh_none ns)

good_top : (f : Forest Entry) → AreWaitingApart (slots f) → Good None f
good_top f h = record { apart = subst AreWaitingApart (nums_are f) h; fresh = fresh_none (nums f) }

pub derivations_tell : (f g : Forest Entry) → AreWaitingApart (slots f) → AreWaitingApart (slots g) → derivations_of f ≡ derivations_of g → f ≡ g
derivations_tell f g x y h = same_forest None f g (good_top f x) (good_top g y) (sym (parents_are None f) ∙ h ∙ parents_are None g)
