-- A run from a booted kernel gives the replies of the abstract kernel from its boot.
use Rattle.std.proofs.Common.{◌≡◌, ◌++◌, [], ap, ◌∙◌}
use Rattle.kernel_abstract.specs.Boot.{boot}
use Rattle.kernel_abstract.specs.State.{shown}
use Rattle.kernel_abstract.specs.Step.{replies_of}
use Rattle.setup_report.proofs.Runs.{boot_reached}
use Rattle.command_how_witness.specs.Text.{witness_calls}
use Rattle.command_how_witness.proofs.text.replies_to.Goals as goal

pub returns : goal.returns
returns g c =
    let setup = c.args.setup.now in
    let p = g.P.Profile.profile in
    let plan : c.plan.result.now ≡ setup.plan = c.plan.ensures.plan in
    let calls : c.calls-calls.result.now ≡ witness_calls setup = c.calls-calls.ensures in
    let shows : c.in_ok-kernel.kernel ≡ shown (boot p setup.plan) = c.in_ok-kernel.ensures ∙ ap (λ q. shown (boot p q)) plan in
    let none : c.in_ok-replies.replies.items ≡ [] = c.in_ok-replies.ensures.items in
    c.run.ensures.replies (boot p setup.plan) (boot_reached p setup.plan c.requires) shows
    ∙ ap (λ l. l ++ replies_of p (boot p setup.plan) c.calls-calls.result.now) none
    ∙ ap (λ l. replies_of p (boot p setup.plan) l) calls
