-- What is answered of the kernel is answered of the state that it shows.
use Rattle.std.proofs.Common.{subst}
use Rattle.std.specs.Prelude.{IfOk}
use Rattle.kernel_abstract.specs.Shown.{Shown}
use Rattle.setup_values.specs.Names.{names_view}
use Rattle.command_how.specs.How.{how_words, IsHowBy}
use Rattle.command_how.proofs.asking.HowStateCommand.answer.Goals as goal

pub returns : goal.returns
returns g c =
    let p = g.P.Profile.profile in
    let behind = c.args.behind.now in
    subst (λ (s : Shown). IfOk c.answer_by.result (λ answer. IsHowBy (how_words c.args.self.now) p (names_view behind.names.now) behind.setup.now behind.made s answer.text.items answer.verdict)) c.requires.shows
    c.answer_by.ensures
