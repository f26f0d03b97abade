-- The proof of `judged_by`: the goals that a search leaves open.
use Rattle.std.proofs.Common.{◌≡◌, ℕ, sym, subst}
use Rattle.kernel_abstract.specs.Memory.{IsInMemory}
use Rattle.query_parts.specs.declared.parts.PartsFault.{PartsFault}
use Rattle.query_parts.specs.declared.parts.PartsFault.TheVariants.{Block}
use Rattle.command_parts.proofs.Faults.{err_of}
use Rattle.command_policy.proofs.judging.judged_by.Goals as goal

-- the fault is that of the parts
pub returns-in_err-parts-clause-fault : goal.returns-in_err-parts-clause-fault
returns-in_err-parts-clause-fault g c =
    err_of c.from_residual-in_err-parts.result (λ e. e ≡ Block → (memory : ℕ) → IsInMemory g.P.Profile.profile memory c.args.kernel.now → ⊥)
    (λ e. e ≡ c.in_err-parts.field-0.0)
    (λ e same. subst (λ (f : PartsFault). f ≡ Block → (memory : ℕ) → IsInMemory g.P.Profile.profile memory c.args.kernel.now → ⊥) (sym same) c.in_err-parts.ensures.fault)
    c.from_residual-in_err-parts.ensures.1
