-- The kernel shows the state after the calls.
use Rattle.std.specs.Prelude.{IfOk, IsTrue, length}
use Rattle.std.proofs.Common.{ap, ◌∙◌, subst}
use Rattle.std.proofs.lemmas.List.{length-map}
use Rattle.kernel_abstract.specs.State.{shown}
use Rattle.setup_format.specs.Views.{CallView}
use Rattle.setup_report.specs.Behind.{state_behind}
use Rattle.command_import.specs.Laid.{IsLaidOut}
use Rattle.command_import.proofs.making.comes_to.Goals as goal

pub returns : goal.returns
returns g c =
    let p = g.P.Profile.profile in
    let setup = c.args.setup.now in
    let layout = c.args.layout.now in
    let made = ap length c.calls-calls.ensures ∙ length-map setup.calls (λ (call : CallView). call.call) in
    let end = c.in_ok-kernel.ensures.shows ∙ ap (λ n. shown (state_behind p setup n)) made in
    subst (λ k. IfOk c.is_laid_out.result (λ is. IsTrue is → IsLaidOut p setup.plan layout k)) end
    (subst (λ q. IfOk c.is_laid_out.result (λ is. IsTrue is → IsLaidOut p q layout c.in_ok-kernel.kernel)) c.plan.ensures.plan c.is_laid_out.ensures)
