-- The lines of the full slots of a forest, one after another.
use Rattle.std.proofs.Common.{◌≡◌, ℕ, ◌+◌, ◌<◌, List, [], ◌∷◌, ◌++◌, map, drop, length, get_or, sym, ap, ◌∙◌, append_assoc, append-nil}
use Rattle.std.specs.List.{flat_map}
use Rattle.std.proofs.lemmas.List.{at_drop_more}
use Rattle.setup_report.specs.State.{Derived}
use Rattle.setup_report.specs.Naming.{Texts}
use Rattle.command_tree.specs.Tree.{placed_line, tree_slot_line}
use Rattle.command_tree.specs.Private.Path.{kept, path_below, slots_with_paths}

-- the lines of what is left of a list, after a path
abbrev pub left : {X : Type 0} → Texts → (X → Derived) → List ℕ → List X → List ℕ
left texts view path xs = flat_map (placed_line texts) (slots_with_paths path (map view xs))

-- one more line
pub next : {X : Type 0} (texts : Texts) (view : X → Derived) (xs : List X) (i : ℕ) (x : X) (path path_after before after all : List ℕ) → i < length xs → x ≡ get_or xs i x →
    before ++ left texts view path (drop i xs) ≡ all →
    after ≡ before ++ tree_slot_line texts (view x).0 (kept (view x).1 path) →
    path_after ≡ path_below (view x) path →
    after ++ left texts view path_after (drop (i + 1) xs) ≡ all
next texts view xs i x path path_after before after all within same is line leads =
    (λ k. line k ++ left texts view (leads k) (drop (i + 1) xs))
    ∙ (append_assoc before (tree_slot_line texts (view x).0 (kept (view x).1 path)) (left texts view (path_below (view x) path) (drop (i + 1) xs))
    ∙ (ap (λ y. before ++ left texts view path (y ∷ drop (i + 1) xs)) same
    ∙ (ap (λ l. before ++ l) (sym (at_drop_more (left texts view path) xs i x within)) ∙ is)))

-- no line is left
pub last : {X : Type 0} (texts : Texts) (view : X → Derived) (path text : List ℕ) (rest : List X) → rest ≡ [] → text ++ left texts view path rest ≡ text
last texts view path text rest none = ap (λ l. text ++ left texts view path l) none ∙ append-nil text
