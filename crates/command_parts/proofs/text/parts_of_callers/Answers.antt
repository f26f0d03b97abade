-- The proof of `parts_of_callers`: the goals that a search leaves open.
use Rattle.std.proofs.Common.{◌≡◌, ℕ, filter, not, ap, sym, subst, ◌∙◌, List, true, false, Result, Ok, Err}
use Rattle.std.specs.Prelude.{IfOk, IfErr}
use Rattle.std.specs.List.{list_all}
use Rattle.std.proofs.lemmas.Bool.{false≢true}
use Rattle.cap_core.specs.declared.profile.ProfileName.{ProfileName}
use Rattle.kernel_abstract.specs.Memory.{IsInMemory}
use Rattle.kernel_abstract.specs.Shown.{Shown}
use Rattle.query_parts.specs.Ever.{AreConfinedEver}
use Rattle.query_parts.specs.Least.{AreLeast}
use Rattle.query_parts.specs.Order.{AreInOrder, AreInParts, is_addressed}
use Rattle.query_parts.specs.declared.listed.PartMemory.{PartMemory}
use Rattle.query_parts.specs.declared.listed.PartUse.{PartUse}
use Rattle.setup_report.specs.State.{is_in}
use Rattle.command_parts.specs.Ever.{AreRightParts}
use Rattle.command_parts.specs.Threads.{callers}
use Rattle.command_parts.proofs.Right.{right_parts}
use Rattle.command_parts.proofs.Callers.{callers_addressed}
use Rattle.command_parts.proofs.text.parts_of_callers.Goals as goal

-- where parts were found, they are right
right_of : {X E : Type 0} (p : ProfileName) (v : Shown) (without ts : List ℕ) → ts ≡ callers p v without → (r : Result X E) (memory : X → List PartMemory)
    (uses : X → List PartUse) → IfOk r (λ x. AreConfinedEver p (memory x) (uses x) v) → IfOk r (λ x. AreInOrder p (memory x) (uses x)) →
    IfOk r (λ x. AreInParts p (memory x) ts) → IfOk r (λ x. AreLeast p ts (memory x) (uses x) v) → IfOk r (λ x. AreRightParts p v without (memory x) (uses x))
right_of p v without ts same (Ok x) memory uses ever order threads least = right_parts p v without ts (memory x) (uses x) same ever order threads least
right_of p v without ts same (Err e) memory uses ever order threads least = tt

-- the fault that a control block is the reason of comes of no kernel whose objects lie in its memory
fault_of : {X E : Type 0} (Is : E → Type 0) (p : ProfileName) (v : Shown) (without ts : List ℕ) → ts ≡ callers p v without → (r : Result X E) →
    IfErr r (λ e. Is e → list_all (is_addressed p) ts ≡ false) → IfErr r (λ e. Is e → (memory : ℕ) → IsInMemory p memory v → ⊥)
fault_of Is p v without ts same (Ok x) h = tt
fault_of Is p v without ts same (Err e) h =
    λ is memory within. false≢true
    (sym (h is) ∙ subst (λ (all : List ℕ). list_all (is_addressed p) all ≡ true) (sym same) (callers_addressed p memory v without within))

pub returns-clause-right : goal.returns-clause-right
returns-clause-right g c =
    right_of g.P.Profile.profile c.args.kernel.now c.args.trusted.now c.as_slice-2.result.now
    (c.as_slice-2.ensures.value ∙ c.in_ok-callers.ensures
    ∙ ap (filter (λ (t : ℕ). not (is_in t c.args.trusted.now))) (c.as_slice.ensures.value ∙ c.in_ok-threads.ensures ∙ c.requires))
    c.parts_around.result (λ parts. parts.memory.items) (λ parts. parts.uses.items)
    c.parts_around.ensures.ever c.parts_around.ensures.order c.parts_around.ensures.threads c.parts_around.ensures.least

pub returns-clause-fault : goal.returns-clause-fault
returns-clause-fault g c =
    fault_of _ g.P.Profile.profile c.args.kernel.now c.args.trusted.now c.as_slice-2.result.now
    (c.as_slice-2.ensures.value ∙ c.in_ok-callers.ensures
    ∙ ap (filter (λ (t : ℕ). not (is_in t c.args.trusted.now))) (c.as_slice.ensures.value ∙ c.in_ok-threads.ensures ∙ c.requires))
    c.parts_around.result c.parts_around.ensures.fault
