use Rattle.std.proofs.Common.{ℕ, ◌++◌, List, string_bytes, sym, subst, ◌∙◌, append_assoc}
use Rattle.std.specs.List.{flat_map}
use Rattle.setup_report.specs.Naming.{Texts, naming_view}
use Rattle.command_trace.specs.Changes.{changes, line_changes}
use Rattle.command_trace.specs.Siblings.{row_view}
use Rattle.command_trace.specs.Private.Path.{sibling_line}
use Rattle.command_trace.specs.Private.Rows.{AreLinesApart}
use Rattle.command_trace.specs.Private.Kept.{view_rows}
use Rattle.command_trace.specs.declared.lines.siblings.SiblingRow.{SiblingRow}
use Rattle.command_trace.proofs.Kept.{told_apart}
use Rattle.command_trace.proofs.lines.told.tell_anew.Goals as goal

abbrev rows : Texts → List SiblingRow → List (ℕ × List ℕ)
rows texts list = flat_map (λ (r : SiblingRow). sibling_line texts (row_view r)) list

pub add_view_changes-requires : goal.add_view_changes-requires
add_view_changes-requires g c =
    record { old = c.requires.old.view; new = (told_apart (naming_view c.args.naming.now) g.P.Profile.profile c.args.kernel.now c.in_ok-told.told c.in_ok-told.ensures).view }

pub add_row_changes-requires : goal.add_row_changes-requires
add_row_changes-requires g c =
    let texts = naming_view c.args.naming.now in
    record {
      old = subst (λ list. AreLinesApart (rows texts list)) (sym c.as_slice-before.ensures.value) c.requires.old.siblings;
      new = subst (λ list. AreLinesApart (rows texts list)) (sym c.as_slice-after.ensures.value)
          (told_apart texts g.P.Profile.profile c.args.kernel.now c.in_ok-told.told c.in_ok-told.ensures).siblings;
    }

pub returns-clause-text : goal.returns-clause-text
returns-clause-text g c =
    let texts = naming_view c.args.naming.now in
    let p = g.P.Profile.profile in
    let told = c.in_ok-told.told in
    let changed = changes (view_rows texts p c.args.old.now.view) (view_rows texts p told.view) in
    c.in_ok-add_row_changes.ensures
    ∙ (λ i. c.in_ok-add_view_changes.ensures i ++ line_changes (rows texts (c.as_slice-before.ensures.value i)) (rows texts (c.as_slice-after.ensures.value i)))
    ∙ append_assoc (string_bytes c.args.out.now) changed (line_changes (rows texts c.args.old.now.siblings.items) (rows texts told.siblings.items))
