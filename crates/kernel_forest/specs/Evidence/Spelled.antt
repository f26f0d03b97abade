-- A forest as a list of words, each thing and the end of what is below it, and that the list determines the forest.
use Rattle.std.specs.Prelude.{◌≡◌, List, [], ◌∷◌, ◌++◌, Option, Some, None, refl}
use Rattle.std.proofs.Common.{sym, ◌∙◌, ap, append_assoc, append-nil}
use Rattle.std.specs.Coded.{Coded, code_by, coded_list, coded_option}
use Rattle.kernel_forest.specs.Forest.{Forest, none, tree, join}

-- each thing, then what is below it, then an end
abbrev pub spelled : {A : Type 0} → Forest A → List (Option A)
spelled none = []
spelled (tree a k r) = Some a ∷ (spelled k ++ None ∷ spelled r)

-- the first two of a pile become one tree
abbrev pub planted : {A : Type 0} → A → List (Forest A) → List (Forest A)
planted a [] = []
planted a (k ∷ []) = tree a k none ∷ []
planted a (k ∷ r ∷ pile) = tree a k r ∷ pile

abbrev pub piled : {A : Type 0} → List (Option A) → List (Forest A)
piled [] = none ∷ []
piled (Some a ∷ l) = planted a (piled l)
piled (None ∷ l) = none ∷ piled l

abbrev pub top_of : {A : Type 0} → List (Forest A) → Forest A
top_of [] = none
top_of (f ∷ pile) = f

abbrev pub unspelled : {A : Type 0} → List (Option A) → Forest A
unspelled l = top_of (piled l)

pub join-none : {A : Type 0} (f : Forest A) → join f none ≡ f
join-none none = refl
join-none (tree a k r) = ap (tree a k) (join-none r)

pub piled-spelled : {A : Type 0} (f : Forest A) (l : List (Option A)) (g : Forest A) (pile : List (Forest A)) → piled l ≡ g ∷ pile → piled (spelled f ++ l) ≡ join f g ∷ pile
piled-spelled none l g pile e = e
piled-spelled (tree a k r) l g pile e =
    ap (λ m. planted a (piled m)) (append_assoc (spelled k) (None ∷ spelled r) l)
    ∙ ap (planted a) (piled-spelled k (None ∷ (spelled r ++ l)) none (join r g ∷ pile) (ap (λ p. none ∷ p) (piled-spelled r l g pile e)))
    ∙ ap (λ h. tree a h (join r g) ∷ pile) (join-none k)

pub unspelled-spelled : {A : Type 0} (f : Forest A) → unspelled (spelled f) ≡ f
unspelled-spelled f =
    ap (λ l. top_of (piled l)) (sym (append-nil (spelled f))) ∙ ap top_of (piled-spelled f [] none [] refl) ∙ join-none f

-- a forest as a code, by its preorder
abbrev pub coded_forest : {A : Type 0} → Coded A → Coded (Forest A)
coded_forest {A} c = code_by (List (Option A)) (coded_list (coded_option c)) spelled unspelled unspelled-spelled
