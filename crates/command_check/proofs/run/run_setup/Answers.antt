-- What is reported on is the abstract kernel's: its replies and its end state.
use Rattle.std.proofs.Common.{◌≡◌, ◌∙◌, ap}
use Rattle.setup_values.specs.Names.{names_view}
use Rattle.setup_report.specs.Naming.{naming_view, report_texts}
use Rattle.setup_report.specs.Report.{report_told, met_count, expectation_count}
use Rattle.command_check.specs.Program.{texts_after}
use Rattle.command_check.specs.Notes.{unexpected_from}
use Rattle.command_check.proofs.run.run_setup.Goals as goal

pub returns-clause-text : goal.returns-clause-text
returns-clause-text g c =
    let setup = c.args.setup.now in
    let replies = c.as_slice-replies.ensures.value ∙ c.in_ok-kernel.ensures.replies in
    let made = c.in_ok-text.ensures in
    let p = g.P.Profile.profile in
    let names = names_view c.args.names.now in
    let end = c.in_ok-kernel.ensures.kernel in
    let texts : naming_view c.in_ok-naming.naming ≡ texts_after c.args.by_name p names setup =
    c.in_ok-naming.ensures ∙ (λ i. report_texts c.args.by_name p names (c.plan.ensures.plan i) (end i)) in
    let text = made.report ∙ (λ i. report_told (texts i) p setup.calls (replies i) (end i)) in
    let met = made.met ∙ ap (λ r. met_count setup.calls r) replies in
    let expected = made.expected ∙ ap (λ r. expectation_count setup.calls r) replies in
    (text, (met, expected))

pub returns-clause-refused : goal.returns-clause-refused
returns-clause-refused g c =
    c.in_ok-notes.ensures
    ∙ ap (λ r. unexpected_from 1 c.args.setup.now.calls r) (c.as_slice-replies.ensures.value ∙ c.in_ok-kernel.ensures.replies)
