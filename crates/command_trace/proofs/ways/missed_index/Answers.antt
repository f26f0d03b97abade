use Rattle.std.proofs.Common.{ap, ◌∙◌, Result}
use Rattle.kernel_abstract.specs.declared.invocation.Invocation.{Invocation}
use Rattle.kernel_abstract.specs.declared.reason.Reason.{Reason}
use Rattle.command_trace.specs.Ways.{missed}
use Rattle.command_trace.proofs.Lookups.{index_missed}
use Rattle.command_trace.proofs.ways.missed_index.Goals as goal

pub returns : goal.returns
returns g c = λ node led.
    c.missed_in.ensures
    ∙ ap (λ (r : Result Invocation Reason). missed r) c.explain_call.ensures
    ∙ index_missed g.P.Profile.profile c.args.kernel.now c.args.thread c.args.cap c.args.index c.args.depth node c.requires led
