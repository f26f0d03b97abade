-- What is asked is what the options ask.
use Rattle.std.proofs.Common.{◌∙◌, IfOk, refl, ap, subst}
use Rattle.clap.specs.Walk.{texts}
use Rattle.command_check.specs.Commands.{IsAnswerTo, IsStateAnswer}
use Rattle.command_how.specs.declared.asking.How.{How}
use Rattle.command_how.specs.How.{Words, IsHow}
use Rattle.program.specs.Jobs.{how_of}
use Rattle.program.proofs.Asked.{how_as}
use Rattle.program.proofs.work.make_how.Goals as goal

pub returns-clause-made : goal.returns-clause-made
returns-clause-made c =
    let options = c.args.options in
    let Asked : Words → Type 0 = λ words. IfOk c.on_state.result (λ made. IsAnswerTo (IsStateAnswer (IsHow words) options.after) c.args.input.now made.text.items made.verdict) in
    let how : How = record {
      what = c.happening_of.result;
      from = c.two_threads-ends.result.0;
      to = c.two_threads-ends.result.1;
      by = c.as_slice.result;
      badge = options.badge;
      without = c.as_slice-2.result;
      states = options.states;
    } in
    subst Asked
    (how_as how (how_of options) c.happening_of.ensures c.two_threads-ends.ensures.from c.two_threads-ends.ensures.to
    (ap texts c.as_slice.ensures.value ∙ c.in-Ok.ensures.by) refl (ap texts c.as_slice-2.ensures.value ∙ c.in-Ok.ensures.without) refl)
    c.on_state.ensures.made
