use Rattle.std.proofs.Common.{◌≡◌, ℕ, List, rules, length, ap, sym, ◌∙◌}
use Rattle.setup_values.specs.Names.{names_view}
use Rattle.setup_report.specs.Naming.{Texts}
use Rattle.command_explore.specs.Views.{explored_view}
use Rattle.command_explore.specs.Report.{report_on, exploration, texts_at_boot, explored_report}
use Rattle.command_explore.proofs.report.run.explored_report.Goals as goal

pub returns : goal.returns
unfolding explored_report
returns g c =
    let p = g.P.Profile.profile in
    let setup = c.args.setup.now in
    let texts = texts_at_boot c.args.by_name p (names_view c.args.names.now) setup in
    let counted : length c.in_ok-begin.begin.items ≡ c.in_ok-begin.begin.len = search rules in
    let count : c.len.result ≡ length c.in_ok-begin.begin.items = c.len.ensures ∙ sym counted in
    let begin = c.in_ok-begin.begin.items in
    let e = explored_view c.in_ok-explored.explored in
    c.in_ok-told.ensures
    ∙ ap (λ (t : Texts). report_on t setup c.len.result c.args.limit e) c.in_ok-naming.ensures
    ∙ ap (λ (n : ℕ). report_on texts setup n c.args.limit e) count
    ∙ ap (report_on texts setup (length begin) c.args.limit) c.in_ok-explored.ensures
    ∙ ap (λ (l : List ℕ). report_on texts setup (length l) c.args.limit (exploration p setup c.args.first c.args.limit)) c.in_ok-begin.ensures
