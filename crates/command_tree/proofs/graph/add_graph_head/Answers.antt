-- Three texts, one behind another.
use Rattle.std.proofs.Common.{◌++◌, codes, ap, ◌∙◌, append_assoc, string_bytes}
use Rattle.command_tree.proofs.graph.add_graph_head.Goals as goal

pub returns : goal.returns
returns c =
    let begun = string_bytes c.args.out.now in
    let front = codes "digraph derivation {\n  graph [label=\"" in
    let label = c.args.label.now in
    let rest = codes "\" rankdir=LR ordering=out];\n  node [shape=box];\n" in
    c.in_ok-push_str-3.ensures.bytes
    ∙ (ap (λ l. l ++ rest) (c.in_ok-push_str-2.ensures.bytes ∙ ap (λ l. l ++ label) c.in_ok-push_str.ensures.bytes)
    ∙ (append_assoc (begun ++ front) label rest ∙ append_assoc begun front (label ++ rest)))
