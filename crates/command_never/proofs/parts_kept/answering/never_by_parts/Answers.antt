-- The proof of `never_by_parts`: the goals that a search leaves open.
use Rattle.std.proofs.Common.{◌≡◌, ◌∙◌, ℕ, sym, ap, subst, List}
use Rattle.kernel_abstract.specs.Memory.{IsInMemory}
use Rattle.query_parts.specs.declared.parts.PartsFault.{PartsFault}
use Rattle.query_parts.specs.declared.parts.PartsFault.TheVariants.{Block}
use Rattle.query_parts.specs.declared.listed.PartMemory.{PartMemory}
use Rattle.query_parts.specs.declared.listed.PartUse.{PartUse}
use Rattle.command_parts.specs.Ever.{AreRightParts}
use Rattle.command_parts.proofs.Faults.{err_of}
use Rattle.command_never.specs.declared.parts_kept.waits.Wait.{Wait}
use Rattle.command_never.specs.Never.{never}
use Rattle.command_never.proofs.Answered.{of_parts}
use Rattle.command_never.proofs.parts_kept.answering.never_by_parts.Goals as goal

-- the fault is that of the parts
pub returns-in_err-state-clause-fault : goal.returns-in_err-state-clause-fault
returns-in_err-state-clause-fault g c =
    err_of c.from_residual.result (λ e. e ≡ Block → (memory : ℕ) → IsInMemory g.P.Profile.profile memory c.args.kernel.now → ⊥)
    (λ e. e ≡ c.in_err-state.field-0.0)
    (λ e same. subst (λ (f : PartsFault). f ≡ Block → (memory : ℕ) → IsInMemory g.P.Profile.profile memory c.args.kernel.now → ⊥) (sym same) c.in_err-state.ensures.fault)
    c.from_residual.ensures.1

pub returns-clause-answered : goal.returns-clause-answered
returns-clause-answered g c =
    let p = g.P.Profile.profile in
    let v = c.args.kernel.now in
    let trusted = c.args.trusted.now in
    let memory = c.as_slice.result.now in
    let uses = c.as_slice-2.result.now in
    let right : AreRightParts p v trusted memory uses =
    subst (λ (m : List PartMemory). AreRightParts p v trusted m uses) (sym c.as_slice.ensures.value)
    (subst (λ (u : List PartUse). AreRightParts p v trusted c.in_ok-state.state.parts.memory.items u) (sym c.as_slice-2.ensures.value) c.in_ok-state.ensures.right) in
    of_parts p trusted v c.args.by.now c.args.from c.args.to memory uses c.in_ok-answer.answer right
    (c.in_ok-answer.ensures ∙ ap (λ (w : List Wait). never p memory uses w c.args.by.now c.args.from c.args.to) (c.as_slice-3.ensures.value ∙ c.in_ok-state.ensures.waits))
