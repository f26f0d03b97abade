-- The edits of the marked list, marks included: one for each call of a store.
use Rattle.std.specs.Prelude.{ℕ, Bool, true, cond, ◌==◌, List, [], ◌∷◌, ◌++◌}
use Rattle.cap_core.specs.declared.capability.Cap.{Cap}
use Rattle.kernel_forest.specs.Derivation.{is_new_original, with_free}
use Rattle.kernel_forest.specs.Marked.{Marked, marked, with_cap, at_place, with_mark, row_in}

-- a capability after all others, with both marks
abbrev pub appended : ℕ → Cap → List Marked → List Marked
appended place cap l = l ++ marked place cap true true ∷ []

-- x directly behind the slot at a place
abbrev pub put_behind : ℕ → Marked → List Marked → List Marked
put_behind place x [] = []
put_behind place x (r ∷ l) = cond (r.place == place) (r ∷ x ∷ l) (r ∷ put_behind place x l)

-- a new object's capability, directly after its untyped region, with both marks
abbrev pub object_behind : ℕ → ℕ → Cap → List Marked → List Marked
object_behind parent place cap l = put_behind parent (marked place cap true true) l

-- a capability that is derived from the one at `source`, directly after it, with both marks if it is original, and else
-- with neither
abbrev pub derived_behind : ℕ → ℕ → Cap → List Marked → List Marked
derived_behind source place cap l =
    let mark = is_new_original (row_in source l).cap cap in put_behind source (marked place cap mark mark) l

-- the slot at a place becomes another
abbrev pub changed_at : ℕ → (Marked → Marked) → List Marked → List Marked
changed_at place change [] = []
changed_at place change (r ∷ l) = cond (r.place == place) (change r ∷ l) (r ∷ changed_at place change l)

-- a capability that moves, as `cap`, with the marks that it had
abbrev pub moved_to : ℕ → ℕ → Cap → List Marked → List Marked
moved_to source place cap l = changed_at source (λ (r : Marked). at_place place (with_cap cap r)) l

-- another free index, with the marks that it had
abbrev pub freed_at : ℕ → ℕ → List Marked → List Marked
freed_at place free l = changed_at place (λ (r : Marked). with_cap (with_free free r.cap) r) l

-- the first of a list takes over a first-badged mark
abbrev pub handed_on : Bool → List Marked → List Marked
handed_on mark [] = []
handed_on mark (h ∷ q) = with_mark mark h ∷ q

-- the slot at a place leaves, and gives its first-badged mark to the next
abbrev pub taken_out : ℕ → List Marked → List Marked
taken_out place [] = []
taken_out place (r ∷ l) = cond (r.place == place) (handed_on r.first_badged l) (r ∷ taken_out place l)
