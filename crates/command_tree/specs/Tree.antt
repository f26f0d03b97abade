-- The derivation forest of a set-up as text, after so many of its calls: a line for each full slot, below the slot that it
-- is derived from; or a graph.
use Rattle.std.specs.Prelude.{codes, ℕ, List, [], ◌∷◌, ◌++◌, length, Option, Some, None}
use Rattle.std.specs.List.{flat_map}
use Rattle.std.specs.Fmt.{decimal}
use Rattle.cap_core.specs.declared.capability.Cap.{Cap}
use Rattle.cap_core.specs.declared.capability.Cap.TheVariants.{Null, Untyped, Endpoint, CNode, Tcb}
use Rattle.kernel_forest.specs.Forest.{Forest}
use Rattle.kernel_forest.specs.Forest.Forest.{none, tree}
use Rattle.kernel_forest.specs.Entries.{Entry, derivations_of}
use Rattle.setup_values.specs.Told.{profile_text}
use Rattle.setup_format.specs.Views.{SetupView}
use Rattle.setup_report.specs.Report.{terminated}
use Rattle.setup_report.specs.State.{Derived}
use Rattle.setup_report.specs.Naming.{Texts}
use Rattle.setup_report.specs.Text.{cap_text}
use Rattle.command_tree.specs.declared.form.Form.{Form}
use Rattle.command_tree.specs.declared.form.Form.TheVariants.{Lines, Dot}

-- each full slot, before those below it, with the slots that it stands below, from the top down; those that stand right
-- below one slot in the forest's own order
abbrev pub placed : List ℕ → Forest Entry → List (Entry × List ℕ)
placed above none = []
placed above (tree e under others) = (e, above) ∷ (placed (above ++ e.slot ∷ []) under ++ placed above others)

-- two spaces for each slot above
abbrev pub indent : List ℕ → List ℕ
indent above = flat_map (λ (slot : ℕ). codes "  ") above

-- a capability; a thread is written as the one that a line is about
abbrev pub tree_cap_text : Texts → Cap → List ℕ
tree_cap_text texts (Tcb base) = codes "tcb " ++ texts.about base
tree_cap_text texts Null = cap_text texts Null
tree_cap_text texts (Untyped base bits free) = cap_text texts (Untyped base bits free)
tree_cap_text texts (Endpoint base badge rights) = cap_text texts (Endpoint base badge rights)
tree_cap_text texts (CNode base radix guard) = cap_text texts (CNode base radix guard)

-- a slot, and what it holds
abbrev pub tree_slot_words : Texts → ℕ → Cap → List ℕ
tree_slot_words texts slot cap = texts.slot slot ++ (codes " " ++ tree_cap_text texts cap)

abbrev pub tree_slot_text : Texts → Entry → List ℕ
tree_slot_text texts e = tree_slot_words texts e.slot e.cap

abbrev pub tree_slot_line : Texts → Entry → List ℕ → List ℕ
tree_slot_line texts e above = indent above ++ terminated (tree_slot_text texts e)

abbrev pub placed_line : Texts → Entry × List ℕ → List ℕ
placed_line texts x = tree_slot_line texts x.0 x.1

abbrev pub forest_lines : Texts → Forest Entry → List ℕ
forest_lines texts f = flat_map (placed_line texts) (placed [] f)

-- the first line: the version of the text's form, how large the set-up is, and how many of its calls are made
abbrev pub head_words : List ℕ → ℕ → ℕ → ℕ → List ℕ
head_words profile memory_bits calls made =
    codes "tree 1 " ++ (profile ++ (codes " memory_bits " ++ (decimal memory_bits
    ++ (codes " calls " ++ (decimal calls ++ (codes " after " ++ decimal made))))))

abbrev pub head_text : SetupView → ℕ → List ℕ
head_text setup made = head_words (profile_text setup.profile) setup.plan.memory_bits (length setup.calls) made

-- the text of a derivation forest: a first line, then a line for each full slot
abbrev pub forest_text : Texts → SetupView → ℕ → Forest Entry → List ℕ
forest_text texts setup made f = terminated (head_text setup made) ++ forest_lines texts f

-- ---- the same as a graph, in Graphviz' language DOT: a node for each full slot, by its address, and an edge to it from the one that
-- it is derived from, in the kernel's order

abbrev pub node_line : Texts → Entry → List ℕ
node_line texts e = terminated (codes "  " ++ (decimal e.slot ++ (codes " [label=\"" ++ (tree_slot_text texts e ++ codes "\"];"))))

abbrev pub edge_line : Option ℕ → ℕ → List ℕ
edge_line None slot = []
edge_line (Some parent) slot = terminated (codes "  " ++ (decimal parent ++ (codes " -> " ++ (decimal slot ++ codes ";"))))

abbrev pub node_lines : Texts → Derived → List ℕ
node_lines texts d = node_line texts d.0 ++ edge_line d.1 d.0.slot

abbrev pub graph_head : List ℕ → List ℕ
graph_head label =
    codes "digraph derivation {\n  graph [label=\"" ++ (label ++ codes "\" rankdir=LR ordering=out];\n  node [shape=box];\n")

abbrev pub graph_text : Texts → SetupView → ℕ → Forest Entry → List ℕ
graph_text texts setup made f =
    (graph_head (head_text setup made) ++ flat_map (node_lines texts) (derivations_of f)) ++ terminated (codes "}")

-- ---- in a form

abbrev pub text_in : Form → Texts → SetupView → ℕ → Forest Entry → List ℕ
text_in Lines texts setup made f = forest_text texts setup made f
text_in Dot texts setup made f = graph_text texts setup made f
