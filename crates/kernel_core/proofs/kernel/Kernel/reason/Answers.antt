-- The proof of `reason`: the goals that a search leaves open.
use Rattle.std.proofs.Common.{sym, ap, subst, ◌∙◌}
use Rattle.std.specs.Prelude.{Option, IfSome, option_map}
use Rattle.kernel_abstract.specs.declared.reason.Reason.{Reason}
use Rattle.kernel_abstract.specs.Reasons.{refusal_of}
use Rattle.kernel_checks.specs.Facts.{told_by, AreThere}
use Rattle.kernel_abstract.specs.Decode.{checked_call, reason_of, reason_in}
use Rattle.kernel_checks.proofs.Calls.{call_truly, told_in, reason_is}
use Rattle.kernel_core.proofs.kernel.Kernel.reason.Goals as goal

pub returns-clause-refusal : goal.returns-clause-refusal
returns-clause-refusal g c A stands =
    ap (option_map refusal_of) (c.reason_in.ensures ∙ ap reason_in c.explain_call.ensures ∙ ap (λ v. reason_of g.P.Profile.profile v c.args.call.now) stands)
    ∙ reason_is g.P.Profile.profile A c.args.call.now

pub returns-clause-facts : goal.returns-clause-facts
returns-clause-facts g c =
    subst (λ (o : Option Reason). IfSome o (λ reason. AreThere c.args.self.now.derivations (told_by reason)))
    (sym (c.reason_in.ensures ∙ ap reason_in c.explain_call.ensures))
    (told_in c.args.self.now.derivations (checked_call g.P.Profile.profile c.args.self.now c.args.call.now) (call_truly g.P.Profile.profile c.args.self.now c.args.call.now))
