-- The threads that are trusted are those of the options.
use Rattle.std.proofs.Common.{◌∙◌, IfOk, ap, subst}
use Rattle.clap.specs.Walk.{texts}
use Rattle.command_check.specs.Commands.{IsAnswerTo, IsStateAnswer}
use Rattle.command_parts.specs.Threads.{Trusted}
use Rattle.command_policy_draft.specs.Drafts.{IsDraft}
use Rattle.program.specs.Jobs.{trust_of}
use Rattle.program.proofs.Asked.{trusted_as}
use Rattle.program.proofs.work.make_draft.Goals as goal

pub returns-clause-made : goal.returns-clause-made
returns-clause-made c =
    let options = c.args.options in
    let trust = c.trust-trust in
    let Told : Trusted → Type 0 = λ by. IfOk c.on_state.result (λ made. IsAnswerTo (IsStateAnswer (IsDraft by options.after) options.after) c.args.input.now made.text.items made.verdict) in
    subst Told
    (trusted_as trust.result (trust_of options) (ap texts trust.ensures.without ∙ c.in-Ok.ensures.without) (ap texts trust.ensures.messages ∙ c.in-Ok.ensures.messages))
    c.on_state.ensures.made
