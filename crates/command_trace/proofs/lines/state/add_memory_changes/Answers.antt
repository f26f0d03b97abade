use Rattle.std.proofs.Common.{◌++◌, List, [], ◌∷◌, map, string_bytes, ◌∙◌, append_assoc}
use Rattle.std.specs.List.{flat_map}
use Rattle.slot_core.specs.declared.derivations.Derivation.{Derivation}
use Rattle.setup_report.specs.Naming.{naming_view}
use Rattle.command_trace.specs.Changes.{line_changes}
use Rattle.command_trace.specs.Views.{line_view, lines_seen}
use Rattle.command_trace.specs.Private.Listed.{derivation_line}
use Rattle.command_trace.specs.Private.Kept.{kept_slot_lines}
use Rattle.command_trace.proofs.Ends.{on_ok}
use Rattle.command_trace.proofs.lines.state.add_memory_changes.Goals as goal

pub returns : goal.returns
returns g c =
    let texts = naming_view c.args.naming.now in
    let p = g.P.Profile.profile in
    let rows = λ (list : List Derivation). flat_map (λ (d : Derivation). derivation_line texts p d ∷ []) list in
    let out = string_bytes c.args.out.now in
    let selfheld = line_changes (lines_seen c.args.old.now.selfheld.items) (lines_seen c.args.new.now.selfheld.items) in
    on_ok _ _
    (λ is. is
    ∙ (λ i. c.in_ok-add_row_changes.ensures i ++ line_changes (map line_view (c.as_slice.ensures.value i)) (map line_view (c.as_slice-2.ensures.value i)))
    ∙ (λ i. (out ++ line_changes (rows (c.as_slice-before.ensures.value i)) (rows (c.as_slice-after.ensures.value i))) ++ selfheld)
    ∙ append_assoc out (line_changes (kept_slot_lines texts p c.args.old.now) (kept_slot_lines texts p c.args.new.now)) selfheld)
    c.add_changes.result c.add_changes.ensures
