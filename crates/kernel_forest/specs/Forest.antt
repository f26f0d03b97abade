-- Forests: lists of trees, what is read off them, and their edits.
use Rattle.std.specs.Prelude.{◌≡◌, ℕ, Bool, false, cond, List, [], ◌∷◌, ◌++◌, length, ◌||◌, Option, Some}
use Rattle.std.specs.List.{prefix_len}

-- a list of trees: empty, or a first tree, which is a root and the list of trees below it, and then the other trees
pub data Forest (A : Type 0) : Type 0 where
  none : Forest A
  tree : A → Forest A → Forest A → Forest A

-- all elements of a forest, each before those below it, from the first tree on
abbrev pub preorder : {A : Type 0} → Forest A → List A
preorder none = []
preorder (tree a under others) = a ∷ (preorder under ++ preorder others)

-- the trees of both, those of the first in front
abbrev pub join : {A : Type 0} → Forest A → Forest A → Forest A
join none more = more
join (tree a under others) more = tree a under (join others more)

-- the roots of the trees
abbrev pub tops : {A : Type 0} → Forest A → List A
tops none = []
tops (tree a under others) = a ∷ tops others

-- the trees below the ones that pass the test
abbrev pub below_those : {A : Type 0} → (A → Bool) → Forest A → Forest A
below_those is none = none
below_those is (tree a under others) = cond (is a) under (join (below_those is under) (below_those is others))

abbrev pub children : {A : Type 0} → (A → Bool) → Forest A → List A
children is f = tops (below_those is f)

abbrev pub descendants : {A : Type 0} → (A → Bool) → Forest A → List A
descendants is f = preorder (below_those is f)

abbrev pub has : {A : Type 0} → (A → Bool) → Forest A → Bool
has is none = false
has is (tree a under others) = is a || (has is under || has is others)

-- from the top down
abbrev pub ancestors : {A : Type 0} → (A → Bool) → Forest A → List A
ancestors is none = []
ancestors is (tree a under others) = cond (has is under) (a ∷ ancestors is under) (ancestors is others)

-- each, in preorder, and what it stands right below, if it stands below one; the tops stand below `above`
abbrev pub parented : {A : Type 0} → Option A → Forest A → List (A × Option A)
parented above none = []
parented above (tree a under others) = (a, above) ∷ (parented (Some a) under ++ parented above others)

-- the edits
abbrev pub below : {A : Type 0} → (A → Bool) → A → Forest A → Forest A
below is x none = none
below is x (tree a under others) = cond (is a) (tree a (tree x none under) others) (tree a (below is x under) (below is x others))

abbrev pub after : {A : Type 0} → (A → Bool) → A → Forest A → Forest A
after is x none = none
after is x (tree a under others) = cond (is a) (tree a under (tree x none others)) (tree a (after is x under) (after is x others))

abbrev pub out : {A : Type 0} → (A → Bool) → Forest A → Forest A
out is none = none
out is (tree a under others) = cond (is a) (join under others) (tree a (out is under) (out is others))

-- each thing under a new name
abbrev pub renamed : {A B : Type 0} → (A → B) → Forest A → Forest B
renamed f none = none
renamed f (tree a under others) = tree (f a) (renamed f under) (renamed f others)

abbrev pub root : {A : Type 0} → A → Forest A → Forest A
root x f = join f (tree x none none)

-- each thing, in preorder, with the number of its descendants
abbrev pub with_descendant_counts : {A : Type 0} → Forest A → List (A × ℕ)
with_descendant_counts none = []
with_descendant_counts (tree a under others) = (a, length (preorder under)) ∷ (with_descendant_counts under ++ with_descendant_counts others)

-- each of a list, with the length of the longest run of followers that pass its test
abbrev pub runs : {A : Type 0} → (A → A → Bool) → List A → List (A × ℕ)
runs t [] = []
runs t (a ∷ l) = (a, prefix_len (t a) l) ∷ runs t l

-- a list and a test stand for a forest: the list is its preorder, and the descendants of each are the longest run of
-- followers that pass
abbrev pub StandsFor : {A : Type 0} → (A → A → Bool) → List A → Forest A → Type 0
StandsFor t l f = with_descendant_counts f ≡ runs t l

-- the forest that a list and a test stand for: from the last on, each takes the trees in front whose tops pass its test
abbrev pub front_trees : {A : Type 0} → (A → Bool) → Forest A → Forest A
front_trees p none = none
front_trees p (tree a under others) = cond (p a) (tree a under (front_trees p others)) none

abbrev pub trees_behind : {A : Type 0} → (A → Bool) → Forest A → Forest A
trees_behind p none = none
trees_behind p (tree a under others) = cond (p a) (trees_behind p others) (tree a under others)

abbrev pub build : {A : Type 0} → (A → A → Bool) → List A → Forest A
build t [] = none
build t (a ∷ l) = let f = build t l in tree a (front_trees (t a) f) (trees_behind (t a) f)
