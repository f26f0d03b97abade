-- The proof of `is_kept`: the goals that a search leaves open.
use Rattle.std.proofs.Common.{◌≡◌, ◌∙◌, ℕ, sym, subst}
use Rattle.kernel_abstract.specs.Memory.{IsInMemory}
use Rattle.query_parts.specs.declared.parts.PartsFault.{PartsFault}
use Rattle.query_parts.specs.declared.parts.PartsFault.TheVariants.{Block}
use Rattle.command_parts.proofs.Faults.{err_of}
use Rattle.command_how_witness.specs.Witness.{asking_of}
use Rattle.command_how_witness.proofs.OfParts.{is_kept, is_said_excluded, is_said_possible}
use Rattle.command_how_witness.proofs.excluded.is_kept.Goals as goal

pub returns-clause-kept : goal.returns-clause-kept
returns-clause-kept g c is =
    is_kept g.P.Profile.profile (asking_of c.args.asked.now) c.args.kernel.now c.in_ok-answer.answer c.in_ok-answer.ensures.answered (sym c.is_excluded_by.ensures ∙ is)

pub returns-clause-excluded : goal.returns-clause-excluded
returns-clause-excluded g c is =
    is_said_excluded g.P.Profile.profile (asking_of c.args.asked.now) c.args.kernel.now c.in_ok-answer.answer c.in_ok-answer.ensures.answered (sym c.is_excluded_by.ensures ∙ is)

pub returns-clause-possible : goal.returns-clause-possible
returns-clause-possible g c is =
    is_said_possible g.P.Profile.profile (asking_of c.args.asked.now) c.args.kernel.now c.in_ok-answer.answer c.in_ok-answer.ensures.answered (sym c.is_excluded_by.ensures ∙ is)

pub returns-in_err-answer-clause-fault : goal.returns-in_err-answer-clause-fault
returns-in_err-answer-clause-fault g c =
    err_of c.from_residual.result (λ e. e ≡ Block → (memory : ℕ) → IsInMemory g.P.Profile.profile memory c.args.kernel.now → ⊥)
    (λ e. e ≡ c.in_err-answer.field-0.0)
    (λ e same. subst (λ (f : PartsFault). f ≡ Block → (memory : ℕ) → IsInMemory g.P.Profile.profile memory c.args.kernel.now → ⊥) (sym same) c.in_err-answer.ensures.fault)
    c.from_residual.ensures.1
