-- The full slots of a walk, one after another.
use Rattle.std.proofs.Common.{◌≡◌, ℕ, ◌+◌, ◌<◌, List, [], ◌∷◌, ◌++◌, map, drop, length, get_or, sym, ap, ◌∙◌, append_assoc, append-nil}
use Rattle.std.proofs.lemmas.List.{at_drop_more, map-append}
use Rattle.setup_report.specs.State.{Derived}
use Rattle.command_trace.specs.Siblings.{Sibling}
use Rattle.command_trace.specs.Private.Path.{sibling_behind, path_to, siblings_walked}

-- what is walked of the rest of a list, after a path
abbrev pub left : {X : Type 0} → (X → Derived) → List ℕ → List X → List Sibling
left view path xs = siblings_walked path (map view xs)

-- one more row
pub next : {X R : Type 0} (view : X → Derived) (seen : R → Sibling) (xs : List X) (i : ℕ) (x : X) (r : R) (path path_after : List ℕ) (before after : List R) (all : List Sibling) → i < length xs → x ≡ get_or xs i x →
    map seen before ++ left view path (drop i xs) ≡ all →
    after ≡ before ++ r ∷ [] →
    seen r ≡ sibling_behind (view x) path →
    path_after ≡ path_to (view x) path →
    map seen after ++ left view path_after (drop (i + 1) xs) ≡ all
next view seen xs i x r path path_after before after all within same is more row leads =
    (λ k. map seen (more k) ++ left view (leads k) (drop (i + 1) xs))
    ∙ (ap (λ l. l ++ left view (path_to (view x) path) (drop (i + 1) xs)) (map-append seen before (r ∷ []))
    ∙ (ap (λ s. (map seen before ++ s ∷ []) ++ left view (path_to (view x) path) (drop (i + 1) xs)) row
    ∙ (append_assoc (map seen before) (sibling_behind (view x) path ∷ []) (left view (path_to (view x) path) (drop (i + 1) xs))
    ∙ (ap (λ y. map seen before ++ left view path (y ∷ drop (i + 1) xs)) same
    ∙ (ap (λ l. map seen before ++ l) (sym (at_drop_more (left view path) xs i x within)) ∙ is)))))

-- no row is left
pub last : {X R : Type 0} (view : X → Derived) (seen : R → Sibling) (path : List ℕ) (rows : List R) (rest : List X) → rest ≡ [] → map seen rows ++ left view path rest ≡ map seen rows
last view seen path rows rest none = ap (λ l. map seen rows ++ left view path l) none ∙ append-nil (map seen rows)
