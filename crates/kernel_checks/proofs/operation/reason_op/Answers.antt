-- The proof of `reason_op`: the reason is what the checks answer, and what it tells is so.
use Rattle.std.proofs.Common.{◌≡◌, Result, Ok, Err, refl, ap, ◌∙◌}
use Rattle.kernel_abstract.specs.declared.reason.Reason.{Reason}
use Rattle.kernel_abstract.specs.Reasons.{answering, with_refusal}
use Rattle.kernel_checks.proofs.Truths.{op_truly}
use Rattle.kernel_checks.proofs.operation.reason_op.Goals as goal

-- where the reason itself is answered, nothing is put in its place
itself : {X : Type 0} (r : Result X Reason) → answering (λ reason. reason) r ≡ r
itself (Ok x) = refl
itself (Err reason) = refl

pub returns-clause-reason : goal.returns-clause-reason
returns-clause-reason g c = c.check_op.ensures ∙ itself _

pub returns-clause-refusal : goal.returns-clause-refusal
returns-clause-refusal g c = ap with_refusal (c.check_op.ensures ∙ itself _)

pub returns-clause-facts : goal.returns-clause-facts
returns-clause-facts g c =
    rw (c.check_op.ensures ∙ itself _) (op_truly g.P.Profile.profile (g.S.CapStore.forest c.args.store.now) c.args.thread c.args.op.now)
