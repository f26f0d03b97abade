-- The audit by the names of objects is that of the state's texts.
use Rattle.std.proofs.Common.{◌≡◌, subst, ◌∙◌}
use Rattle.setup_values.specs.Names.{names_view}
use Rattle.kernel_abstract.specs.State.{shown}
use Rattle.setup_report.specs.Naming.{Texts, naming_view, texts_of}
use Rattle.command_audit.specs.Audit.{IsWholeAudit}
use Rattle.command_audit.proofs.others.told_by.Goals as goal

pub returns : goal.returns
returns g c = λ A reached shows.
    let p = g.P.Profile.profile in
    let names = names_view c.args.names.now in
    let texts : naming_view c.in_ok-naming.naming ≡ texts_of c.args.by_name p names c.args.setup.now.plan (shown A) =
    c.in_ok-naming.ensures ∙ (λ i. texts_of c.args.by_name p names (c.plan.ensures.plan i) (shows i)) in
    subst (λ (t : Texts). IsWholeAudit p names t c.args.trusted.now c.args.setup.now c.args.made A c.in_ok-text.text.items) texts (c.in_ok-text.ensures A reached shows)
