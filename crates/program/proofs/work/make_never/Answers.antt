-- What is asked is what the options ask.
use Rattle.std.proofs.Common.{◌∙◌, IfOk, refl, ap, subst}
use Rattle.clap.specs.Walk.{texts}
use Rattle.command_check.specs.Commands.{IsAnswerTo, IsStateAnswer}
use Rattle.command_never.specs.declared.asking.Question.{Question}
use Rattle.command_never.specs.Question.{Asked, IsNever}
use Rattle.program.specs.Jobs.{question_of, trust_of}
use Rattle.program.proofs.Asked.{asked_as, trusted_as}
use Rattle.program.proofs.work.make_never.Goals as goal

pub returns-clause-made : goal.returns-clause-made
returns-clause-made c =
    let options = c.args.options in
    let Answered : Asked → Type 0 = λ asked. IfOk c.on_state.result (λ made. IsAnswerTo (IsStateAnswer (IsNever asked) options.after) c.args.input.now made.text.items made.verdict) in
    let question : Question = record {
      trust = c.trust.result;
      from = c.two_threads-ends.result.0;
      to = c.two_threads-ends.result.1;
      by = c.as_slice.result;
      names = options.names;
    } in
    let trust = trusted_as c.trust.result (trust_of options) (ap texts c.trust.ensures.without ∙ c.in-Ok.ensures.without) (ap texts c.trust.ensures.messages ∙ c.in-Ok.ensures.messages) in
    subst Answered
    (asked_as question (question_of options) trust c.two_threads-ends.ensures.from c.two_threads-ends.ensures.to (ap texts c.as_slice.ensures.value ∙ c.in-Ok.ensures.by) refl)
    c.on_state.ensures.made
