use Rattle.std.proofs.Common.{◌≡◌, ◌+◌, ℕ, length, subst, ap, ◌∙◌}
use Rattle.std.proofs.lemmas.List.{length-map}
use Rattle.kernel_abstract.specs.Boot.{boot}
use Rattle.kernel_abstract.specs.State.{shown}
use Rattle.query_orders.specs.contracts.answer.AnswerPartialEq.TheImpl as answer_eq
use Rattle.query_orders.specs.Nodes.{own_calls as items_of}
use Rattle.query_orders.specs.Explorations.{IsExplored}
use Rattle.setup_format.specs.Views.{CallView}
use Rattle.command_explore.specs.Clients.{calls_of_each, first_clients}
use Rattle.setup_report.proofs.Runs.{boot_reached}
use Rattle.command_explore.proofs.Explored.{exploration_is}
use Rattle.command_explore.proofs.report.run.explore_setup.Goals as goal

pub returns : goal.returns
returns g c =
    let p = g.P.Profile.profile in
    let setup = c.args.setup.now in
    let A = boot p setup.plan in
    let shows : c.in_ok-kernel.kernel ≡ shown A = c.in_ok-kernel.ensures.shows ∙ ap (λ q. shown (boot p q)) c.plan.ensures.plan in
    let own : items_of c.as_slice.result.now ≡ calls_of_each setup = ap items_of c.as_slice.ensures.value ∙ c.in_ok-calls.ensures in
    let begin : c.as_slice-2.result.now ≡ first_clients setup c.args.first = c.as_slice-2.ensures.value ∙ c.in_ok-begin.ensures in
    let many : length c.calls.result.now ≡ length setup.calls = ap length c.calls.ensures ∙ length-map setup.calls (λ (k : CallView). k.call) in
    let explored = subst (λ (n : ℕ). IsExplored p (items_of c.as_slice.result.now) A c.as_slice-2.result.now answer_eq.ghosts.eq c.args.limit (n + 1) c.in_ok-explored.explored) many (c.in_ok-explored.ensures A (boot_reached p setup.plan c.requires) shows) in
    exploration_is p setup c.args.first c.args.limit (items_of c.as_slice.result.now) c.as_slice-2.result.now c.in_ok-explored.explored own begin explored
