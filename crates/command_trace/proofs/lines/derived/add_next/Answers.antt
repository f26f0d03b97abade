use Rattle.std.proofs.Common.{◌≡◌, ◌++◌, Some, string_bytes, sym, ap, ◌∙◌, rules}
use Rattle.setup_report.specs.Naming.{naming_view}
use Rattle.command_trace.specs.Changes.{added}
use Rattle.command_trace.specs.Siblings.{sibling_text}
use Rattle.command_trace.specs.Private.Derived.{next_text}
use Rattle.command_trace.proofs.Ends.{on_ok}
use Rattle.command_trace.proofs.lines.derived.add_next.Goals as goal

pub returns : goal.returns
returns c =
    let texts = naming_view c.args.naming.now in
    let out = string_bytes c.args.out.now in
    let text : string_bytes c.in_ok-text.text ≡ sibling_text texts c.in-Some.address c.args.slot = search rules in
    on_ok _ _
    (λ is. is ∙ ap (λ t. out ++ added (Some t)) text ∙ ap (λ next. out ++ next_text texts c.args.slot next) (sym c.in-Some.is))
    c.add_added.result c.add_added.ensures
