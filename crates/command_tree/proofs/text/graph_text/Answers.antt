-- The nodes are those of the kernel's full slots.
use Rattle.std.proofs.Common.{◌++◌, codes, ap, ap₂, ◌∙◌}
use Rattle.std.specs.List.{flat_map}
use Rattle.slot_core.specs.Calls.{derivation_view}
use Rattle.setup_report.specs.Naming.{naming_view}
use Rattle.setup_report.specs.Report.{terminated}
use Rattle.setup_report.proofs.Joined.{flat_seen}
use Rattle.command_tree.specs.Tree.{graph_head, node_lines}
use Rattle.command_tree.proofs.text.graph_text.Goals as goal

pub returns : goal.returns
returns g c =
    let view = derivation_view g.P.Profile.profile in
    let texts = naming_view c.args.naming.now in
    ap (λ v. v.items) c.into_bytes.ensures.value
    ∙ (c.in_ok-writeln.ensures.bytes
    ∙ ap (λ l. l ++ terminated (codes "}"))
    (c.in_ok-add_nodes.ensures
    ∙ ap₂ (λ a b. a ++ b)
    (c.in_ok-add_graph_head.ensures
    ∙ ap₂ (λ a b. a ++ graph_head b) c.new-out.ensures.bytes (c.as_str.ensures.value ∙ (c.in_ok-label.ensures.ok ∙ c.new.ensures)))
    (ap (flat_map (λ row. node_lines texts (view row))) c.as_slice.ensures.value
    ∙ (flat_seen (node_lines texts) view c.in_ok-rows.rows.items ∙ ap (flat_map (node_lines texts)) c.in_ok-rows.ensures.list))))
