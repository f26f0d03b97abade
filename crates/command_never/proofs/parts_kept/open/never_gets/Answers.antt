-- The proof of `never_gets`: the goals that a search leaves open.
use Rattle.std.proofs.Common.{◌≡◌, ◌∙◌, ◌++◌, ℕ, sym, ap, subst, List}
use Rattle.kernel_abstract.specs.Memory.{IsInMemory}
use Rattle.query_parts.specs.declared.parts.PartsFault.TheVariants.{Block}
use Rattle.query_parts.specs.declared.listed.PartMemory.{PartMemory}
use Rattle.query_parts.specs.declared.listed.PartUse.{PartUse}
use Rattle.query_parts.specs.declared.parts.PartsFault.{PartsFault}
use Rattle.setup_report.specs.State.{threads}
use Rattle.setup_report.specs.Naming.{naming_view}
use Rattle.command_parts.specs.Telling.{PartTexts, part_naming_view, part_texts}
use Rattle.command_parts.specs.Ever.{AreRightParts}
use Rattle.command_parts.proofs.Faults.{err_of}
use Rattle.command_never.specs.declared.parts_kept.waits.Wait.{Wait}
use Rattle.command_never.specs.Never.{never}
use Rattle.command_never.specs.Answer.{is_excluded, IsFounded}
use Rattle.command_never.specs.Open.{IsNeverText}
use Rattle.command_never.proofs.Answered.{answered}
use Rattle.command_never.proofs.parts_kept.open.never_gets.Goals as goal

pub returns-clause-told : goal.returns-clause-told
returns-clause-told g c =
    let p = g.P.Profile.profile in
    let v = c.args.kernel.now in
    let head = c.args.heading.now in
    let by = c.args.by.now in
    let from = c.args.from in
    let to = c.args.to in
    let trusted = head.without.now ++ head.messages.now in
    let memory = c.as_slice-2.result.now in
    let uses = c.as_slice-3.result.now in
    let state = c.in_ok-state.state in
    let answer = c.in_ok-answer.answer in
    let right : AreRightParts p v trusted memory uses =
    subst (λ (m : List PartMemory). AreRightParts p v trusted m uses) (sym c.as_slice-2.ensures.value)
    (subst (λ (u : List PartUse). AreRightParts p v trusted state.parts.memory.items u) (sym c.as_slice-3.ensures.value)
    (subst (λ (all : List ℕ). AreRightParts p v all state.parts.memory.items state.parts.uses.items) (c.as_slice.ensures.value ∙ c.in_ok-trusted.ensures)
    c.in_ok-state.ensures.right)) in
    let texts = naming_view c.args.naming.now in
    let told : part_naming_view c.in_ok-told.told ≡ part_texts texts memory (threads p v) =
    c.in_ok-told.ensures ∙ ap (part_texts texts memory) (c.as_slice-5.ensures.value ∙ c.in_ok-state.ensures.threads) in
    answered p texts head.setup.now head.made head.refused head.without.now head.messages.now v by from to memory uses right answer c.in_ok-text.text.items
    (subst (λ (t : PartTexts). IsNeverText p t head.setup.now head.made head.refused head.without.now head.messages.now memory uses v by from to answer c.in_ok-text.text.items) told c.in_ok-text.ensures)
    (c.in_ok-answer.ensures.answered
    ∙ ap is_excluded (c.in_ok-of_parts.ensures ∙ ap (λ (w : List Wait). never p memory uses w by from to) (c.as_slice-4.ensures.value ∙ c.in_ok-state.ensures.waits)))
    (subst (λ (all : List ℕ). IsFounded p all memory v by from to answer) (c.as_slice-6.ensures.value ∙ c.in_ok-trusted.ensures) c.in_ok-answer.ensures.founded)

-- the fault is that of the parts
pub returns-in_err-state-clause-fault : goal.returns-in_err-state-clause-fault
returns-in_err-state-clause-fault g c =
    err_of c.from_residual-in_err-state.result (λ e. e ≡ Block → (memory : ℕ) → IsInMemory g.P.Profile.profile memory c.args.kernel.now → ⊥)
    (λ e. e ≡ c.in_err-state.field-0.0)
    (λ e same. subst (λ (f : PartsFault). f ≡ Block → (memory : ℕ) → IsInMemory g.P.Profile.profile memory c.args.kernel.now → ⊥) (sym same) c.in_err-state.ensures.fault)
    c.from_residual-in_err-state.ensures.1
