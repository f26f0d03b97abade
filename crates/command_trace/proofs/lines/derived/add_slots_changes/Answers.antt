use Rattle.std.proofs.Common.{ℕ, ◌++◌, List, string_bytes, sym, subst, ◌∙◌, append_assoc}
use Rattle.std.specs.List.{flat_map}
use Rattle.setup_report.specs.Naming.{naming_view}
use Rattle.command_trace.specs.Changes.{line_changes}
use Rattle.command_trace.specs.Siblings.{row_view}
use Rattle.command_trace.specs.Private.Path.{sibling_line}
use Rattle.command_trace.specs.Private.Rows.{AreLinesApart}
use Rattle.command_trace.specs.declared.lines.siblings.SiblingRow.{SiblingRow}
use Rattle.command_trace.proofs.Added.{listed_apart, order_apart, rows_told, walks_told}
use Rattle.command_trace.proofs.Ends.{on_ok}
use Rattle.command_trace.proofs.lines.derived.add_slots_changes.Goals as goal

pub add_row_changes-requires-clause-old : goal.add_row_changes-requires-clause-old
add_row_changes-requires-clause-old g c = listed_apart (naming_view c.args.naming.now) g.P.Profile.profile c.requires.0 c.args.old.now c.requires.2

pub add_row_changes-requires-clause-new : goal.add_row_changes-requires-clause-new
add_row_changes-requires-clause-new g c = listed_apart (naming_view c.args.naming.now) g.P.Profile.profile c.requires.1 c.args.new.now c.requires.3

pub add_row_changes-requires-2-clause-old : goal.add_row_changes-requires-2-clause-old
add_row_changes-requires-2-clause-old g c =
    let texts = naming_view c.args.naming.now in
    subst (λ (rows : List SiblingRow). AreLinesApart (flat_map (λ (r : SiblingRow). sibling_line texts (row_view r)) rows)) (sym c.as_slice.ensures.value)
    (order_apart texts g.P.Profile.profile c.requires.0 c.args.old.now c.requires.2 c.in_ok-before.before.items c.in_ok-before.ensures)

pub add_row_changes-requires-2-clause-new : goal.add_row_changes-requires-2-clause-new
add_row_changes-requires-2-clause-new g c =
    let texts = naming_view c.args.naming.now in
    subst (λ (rows : List SiblingRow). AreLinesApart (flat_map (λ (r : SiblingRow). sibling_line texts (row_view r)) rows)) (sym c.as_slice-2.ensures.value)
    (order_apart texts g.P.Profile.profile c.requires.1 c.args.new.now c.requires.3 c.in_ok-after.after.items c.in_ok-after.ensures)

pub returns : goal.returns
returns g c =
    let texts = naming_view c.args.naming.now in
    let p = g.P.Profile.profile in
    let out = string_bytes c.args.out.now in
    let order : List SiblingRow → List (ℕ × List ℕ) = flat_map (λ (r : SiblingRow). sibling_line texts (row_view r)) in
    on_ok _ _
    (λ is. λ f k one other.
    is
    ∙ (λ i. c.in_ok-add_row_changes.ensures i ++ line_changes (order (c.as_slice.ensures.value i)) (order (c.as_slice-2.ensures.value i)))
    ∙ append_assoc out _ _
    ∙ (λ i. out ++ (rows_told texts p f k c.args.old.now c.args.new.now one other i
    ++ walks_told texts p f k c.args.old.now c.args.new.now c.in_ok-before.before.items c.in_ok-after.after.items one other c.in_ok-before.ensures c.in_ok-after.ensures i)))
    c.add_row_changes-2.result c.add_row_changes-2.ensures
