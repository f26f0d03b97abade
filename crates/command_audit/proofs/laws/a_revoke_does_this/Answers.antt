use Rattle.std.proofs.Common.{Result, ap}
use Rattle.cap_core.specs.declared.refusal.Refusal.{Refusal}
use Rattle.kernel_abstract.specs.declared.invocation.Invocation.{Invocation}
use Rattle.kernel_abstract.specs.State.{shown}
use Rattle.kernel_abstract.specs.Step.{outcome, step}
use Rattle.command_trace.specs.Changes.{changes, lines_of_state}
use Rattle.command_audit.proofs.laws.a_revoke_does_this.Goals as goal

pub returns : goal.returns
unfolding step
returns c = λ texts p A call slot is.
    ap (λ (r : Result Invocation Refusal). changes (lines_of_state texts p (shown A)) (lines_of_state texts p (shown (outcome p A call.thread r).state))) is
