-- The order of siblings, which are the full slots that stand right below one slot, or below none: a line for each that
-- has another one in front of it.
use Rattle.std.specs.Prelude.{codes, ℕ, ◌==◌, List, [], ◌∷◌, ◌++◌, Option, Some, None, option_and_then, option_map}
use Rattle.std.specs.List.{find}
use Rattle.kernel_forest.specs.Forest.{Forest}
use Rattle.kernel_forest.specs.Forest.Forest.{none, tree}
use Rattle.kernel_forest.specs.Entries.{Entry, slots}
use Rattle.setup_report.specs.Naming.{Texts}
use Rattle.command_trace.specs.Lines.{Lines, lines_at}
use Rattle.command_trace.specs.declared.lines.siblings.SiblingRow.{SiblingRow}

-- a full slot, and the sibling right in front of it, where there is one
abbrev pub Sibling : Type 0
Sibling = ℕ × Option ℕ

abbrev pub row_view : SiblingRow → Sibling
row_view row = (row.slot, row.before)

-- each full slot, before those below it; `before` stands right in front of the first tree
abbrev pub siblings : Option ℕ → Forest Entry → List Sibling
siblings before none = []
siblings before (tree e under others) = (e.slot, before) ∷ (siblings None under ++ siblings (Some e.slot) others)

-- the sibling right in front of a slot
abbrev pub in_front : List Sibling → ℕ → Option ℕ
in_front list slot = option_and_then (λ (x : Sibling). x.1) (find (λ (x : Sibling). x.0 == slot) list)

abbrev pub sibling_text : Texts → ℕ → ℕ → List ℕ
sibling_text texts slot before = codes "sibling " ++ (texts.slot slot ++ (codes " after " ++ texts.slot before))

abbrev pub sibling_at : Texts → List Sibling → ℕ → Option (List ℕ)
sibling_at texts list slot = option_map (sibling_text texts slot) (in_front list slot)

-- a line for each full slot: after which sibling it comes
abbrev pub sibling_lines : Texts → Forest Entry → Lines
sibling_lines texts f = lines_at (sibling_at texts (siblings None f)) (slots f)
