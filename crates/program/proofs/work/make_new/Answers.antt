-- What is made for the sizes that are asked for is what the options ask for.
use Rattle.std.proofs.Common.{subst}
use Rattle.command_new.specs.New.{IsNewText}
use Rattle.program.proofs.Regions.{asked_is_made}
use Rattle.program.proofs.Widened.{if_ok}
use Rattle.program.proofs.work.make_new.Goals as goal

pub returns-in-Ok-clause-made : goal.returns-in-Ok-clause-made
returns-in-Ok-clause-made c =
    if_ok c.make.result _ _
    (λ made h. asked_is_made c.args.options c.in-Ok.asked c.in-Ok.ensures c.args.input.now made.text.items made.verdict
    (subst (λ o. IsNewText o c.args.input.now made.text.items made.verdict) c.as_ref.ensures.value h))
    c.make.ensures.made
