use Rattle.std.proofs.Common.{◌≡◌, ◌++◌, map, string_bytes, sym, ap, subst, ◌∙◌}
use Rattle.std.specs.List.{flat_map}
use Rattle.setup_report.specs.Naming.{naming_view}
use Rattle.command_trace.specs.Changes.{line_changes}
use Rattle.command_trace.specs.Views.{line_view}
use Rattle.command_trace.specs.Private.Rows.{AreLinesApart}
use Rattle.command_trace.proofs.Ends.{on_ok, between, between_apart, between_told}
use Rattle.command_trace.proofs.lines.rows.add_row_changes.Goals as goal

pub add_sorted_changes-requires : goal.add_sorted_changes-requires
add_sorted_changes-requires g c =
    let texts = naming_view c.args.naming.now in
    let f = g.R.Row.lines texts in
    let n = c.same_front-front.result in
    let b = c.same_back-back.result in
    record {
      old = subst AreLinesApart (sym (ap (map line_view) c.as_mut_slice.ensures.value ∙ c.in_ok-gone.ensures)) (between_apart f c.args.old.now n b c.requires.old);
      new = subst AreLinesApart (sym (ap (map line_view) c.as_mut_slice-2.ensures.value ∙ c.in_ok-come.ensures)) (between_apart f c.args.new.now n b c.requires.new);
    }

pub returns : goal.returns
returns g c =
    let texts = naming_view c.args.naming.now in
    let f = g.R.Row.lines texts in
    let n = c.same_front-front.result in
    let b = c.same_back-back.result in
    let gone : map line_view c.as_mut_slice.result.now ≡ flat_map f (between f c.args.old.now n b) = ap (map line_view) c.as_mut_slice.ensures.value ∙ c.in_ok-gone.ensures in
    let come : map line_view c.as_mut_slice-2.result.now ≡ flat_map f (between f c.args.new.now n b) = ap (map line_view) c.as_mut_slice-2.ensures.value ∙ c.in_ok-come.ensures in
    on_ok _ _
    (λ is. is ∙ ap (λ t. string_bytes c.args.out.now ++ t)
    ((λ i. line_changes (gone i) (come i))
    ∙ sym (between_told f c.args.old.now c.args.new.now n b (c.same_front-front.ensures.same texts) (c.same_back-back.ensures.same texts) c.requires.old c.requires.new)))
    c.add_sorted_changes.result c.add_sorted_changes.ensures
