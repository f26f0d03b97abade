-- Derivation without a tree: what a marked list stands for.
use Rattle.std.proofs.Common.{◌≡◌, ℕ, ◌*◌, List, ◌∷◌, ◌++◌, map, refl, sym, ◌∙◌, ap, eq-eqb}
use Rattle.cap_core.specs.declared.profile.ProfileName.{ProfileName}
use Rattle.cap_core.specs.Numbers.{slot_size}
use Rattle.kernel_forest.specs.Forest.{Forest, preorder, descendants, build}
use Rattle.kernel_forest.specs.Entries.{Entry, is_at}
use Rattle.kernel_forest.specs.Marked.{Marked, is_parent, entry_of, forest_of, stands_at, StandsForEntries, run_of}
use Rattle.kernel_forest.proofs.Trees.Built.{preorder-renamed, build-below_those, renamed-below_those}
use Rattle.kernel_forest.proofs.Marked.Parents.{parent-transitive}
use Rattle.kernel_forest.proofs.Trees.Standing.{one_fits, stands-build, counted-renamed, taken_run}
use Rattle.kernel_forest.proofs.Marked.MarkedSteps.{StandsIn}

pub stands_for : (p : ProfileName) (l : List Marked) → StandsForEntries p l (forest_of p l)
stands_for p l = counted-renamed (entry_of p) (build (is_parent p) l) ∙ ap (map (λ (r : Marked × ℕ). (entry_of p r.0, r.1))) (stands-build (is_parent p) (parent-transitive p) l)

pub no_other : (p : ProfileName) (l : List Marked) (f : Forest Entry) → StandsForEntries p l f → f ≡ forest_of p l
no_other p l f h = one_fits f (forest_of p l) (h ∙ sym (stands_for p l))

pub run_below : (p : ProfileName) (pre : List Marked) (s : Marked) (post : List Marked) → StandsIn p pre s post
    → descendants (is_at (s.place * slot_size p)) (forest_of p (pre ++ s ∷ post)) ≡ map (entry_of p) (run_of p s post)
run_below p pre s post st =
    ap preorder (renamed-below_those (entry_of p) (is_at (s.place * slot_size p)) (build (is_parent p) (pre ++ s ∷ post)))
    ∙ preorder-renamed (entry_of p) _
    ∙ ap (λ (f : Forest Marked). map (entry_of p) (preorder f)) (build-below_those (is_parent p) (stands_at p s.place) pre s post (eq-eqb (s.place * slot_size p) (s.place * slot_size p) refl) st.front st.back)
    ∙ ap (map (entry_of p)) (taken_run (is_parent p) (parent-transitive p) s post)
