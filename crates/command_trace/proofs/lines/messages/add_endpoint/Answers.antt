use Rattle.std.proofs.Common.{◌++◌, map, ap, ◌∙◌}
use Rattle.std.proofs.lemmas.List.{map-append}
use Rattle.command_trace.specs.Views.{endpoint_row_line}
use Rattle.command_trace.proofs.lines.messages.add_endpoint.Goals as goal

pub returns : goal.returns
returns g c texts =
    let line = endpoint_row_line texts in
    ap (map line) c.in_ok-push.ensures.items
    ∙ (map-append line c.args.rows.now.items _
    ∙ ap (λ l. map line c.args.rows.now.items ++ l) (c.in_ok-row.ensures texts))
