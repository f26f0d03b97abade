use Rattle.std.proofs.Common.{◌++◌, string_bytes, ap, ◌∙◌}
use Rattle.command_trace.proofs.Alike.{told_of_same}
use Rattle.command_trace.proofs.Ends.{on_ok}
use Rattle.command_trace.proofs.lines.rows.add_sorted_changes.Goals as goal

pub returns : goal.returns
returns c =
    on_ok _ _ (λ is. is ∙ ap (λ t. string_bytes c.args.out.now ++ t) (told_of_same _ _ _ _ c.sort_by_address.ensures.same c.sort_by_address-2.ensures.same))
    c.add_changes.result c.add_changes.ensures
