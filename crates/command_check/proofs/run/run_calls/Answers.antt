-- A run from a booted kernel gives the replies and the end state of the abstract kernel from its boot.
use Rattle.std.proofs.Common.{◌≡◌, ◌++◌, [], ap, ◌∙◌}
use Rattle.kernel_abstract.specs.Boot.{boot}
use Rattle.kernel_abstract.specs.State.{shown}
use Rattle.kernel_abstract.specs.Step.{replies_of, state_after}
use Rattle.command_check.specs.Program.{set_up_calls, replies_to, end_state}
use Rattle.setup_report.proofs.Runs.{boot_reached}
use Rattle.command_check.proofs.run.run_calls.Goals as goal

pub returns-clause-kernel : goal.returns-clause-kernel
unfolding end_state
returns-clause-kernel g c =
    let setup = c.args.setup.now in
    let plan : c.plan.result.now ≡ setup.plan = c.plan.ensures.plan in
    let calls : c.calls-calls.result.now ≡ set_up_calls setup = c.calls-calls.ensures in
    let shows : c.in_ok-kernel.kernel ≡ shown (boot g.P.Profile.profile setup.plan) =
    c.in_ok-kernel.ensures ∙ ap (λ q. shown (boot g.P.Profile.profile q)) plan in
    c.run.ensures.stands (boot g.P.Profile.profile setup.plan) (boot_reached g.P.Profile.profile setup.plan c.requires) shows
    ∙ ap (λ l. shown (state_after g.P.Profile.profile (boot g.P.Profile.profile setup.plan) l)) calls

pub returns-clause-replies : goal.returns-clause-replies
unfolding replies_to
returns-clause-replies g c =
    let setup = c.args.setup.now in
    let plan : c.plan.result.now ≡ setup.plan = c.plan.ensures.plan in
    let calls : c.calls-calls.result.now ≡ set_up_calls setup = c.calls-calls.ensures in
    let shows : c.in_ok-kernel.kernel ≡ shown (boot g.P.Profile.profile setup.plan) =
    c.in_ok-kernel.ensures ∙ ap (λ q. shown (boot g.P.Profile.profile q)) plan in
    let none : c.in_ok-replies.replies.items ≡ [] = c.in_ok-replies.ensures.items in
    c.run.ensures.replies (boot g.P.Profile.profile setup.plan) (boot_reached g.P.Profile.profile setup.plan c.requires) shows
    ∙ ap (λ l. l ++ replies_of g.P.Profile.profile (boot g.P.Profile.profile setup.plan) c.calls-calls.result.now) none
    ∙ ap (λ l. replies_of g.P.Profile.profile (boot g.P.Profile.profile setup.plan) l) calls
