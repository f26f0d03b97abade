-- The text is the run's by names, and the verdict that of its counts, strict or not.
use Rattle.std.proofs.Common.{◌∙◌, ap}
use Rattle.setup_values.specs.Names.{names_view}
use Rattle.command_check.specs.Program.{named_report}
use Rattle.command_check.proofs.Runs.{counted_verdict}
use Rattle.command_files.specs.Strict.{strict_verdict}
use Rattle.command_files.proofs.strict.NamedCheckCommand.answer.Goals as goal

pub returns : goal.returns
returns g c =
    let p = g.P.Profile.profile in
    let setup = c.args.read.now.setup in
    let made = c.in_ok-made.ensures in
    let told = made.text in (
      ap (λ t. t.items) (c.judged.ensures.text ∙ c.answer.ensures.text)
          ∙ (told.0 ∙ ap (λ names. named_report p (names_view names) setup) c.as_slice-names.ensures.value),
      c.judged.ensures.verdict
          ∙ (λ i. strict_verdict c.args.self.now.strict ((ap (λ n. n.refused.items) c.answer.ensures.notes ∙ made.refused) i) ((c.answer.ensures.verdict ∙ counted_verdict p setup c.in_ok-made.made.count told.1) i)),
    )
