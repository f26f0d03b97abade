use Rattle.std.proofs.Common.{◌≡◌, ◌+◌, ℕ, List, rules, length, map, subst, ap, sym, ◌∙◌}
use Rattle.std.proofs.lemmas.List.{length-map}
use Rattle.kernel_abstract.specs.declared.call.Call.{Call}
use Rattle.kernel_abstract.specs.Boot.{boot}
use Rattle.kernel_abstract.specs.State.{shown}
use Rattle.query_orders.specs.contracts.answer.AnswerPartialEq.TheImpl as answer_eq
use Rattle.query_orders.specs.Nodes.{own_calls as items_of}
use Rattle.query_orders.specs.GroupsExplored.{IsExploredByGroups}
use Rattle.setup_values.specs.Names.{names_view}
use Rattle.setup_format.specs.Views.{CallView}
use Rattle.setup_report.specs.Naming.{Texts}
use Rattle.setup_report.proofs.Runs.{boot_reached}
use Rattle.command_explore.specs.Clients.{calls_of_each, first_clients}
use Rattle.command_explore.specs.Groups.{GroupView, group_view, groups_report_on, group_explorations}
use Rattle.command_explore.specs.Report.{texts_at_boot}
use Rattle.command_explore.proofs.GroupViews.{explorations_are}
use Rattle.command_explore.proofs.report.groups.groups_report.Goals as goal

pub returns : goal.returns
returns g c =
    let p = g.P.Profile.profile in
    let setup = c.args.setup.now in
    let A = boot p setup.plan in
    let first = c.args.first in
    let limit = c.args.limit in
    let found = c.in_ok-found.found in
    let groups = found.groups.items in
    let texts = texts_at_boot c.args.by_name p (names_view c.args.names.now) setup in
    let shows : c.in_ok-kernel.kernel ≡ shown A = c.in_ok-kernel.ensures.shows ∙ ap (λ q. shown (boot p q)) c.plan.ensures.plan in
    let own : items_of c.as_slice.result.now ≡ calls_of_each setup = ap items_of c.as_slice.ensures.value ∙ c.in_ok-calls.ensures in
    let begin : c.as_slice-2.result.now ≡ first_clients setup first = c.as_slice-2.ensures.value ∙ c.in_ok-begin.ensures in
    let many : length c.calls.result.now ≡ length setup.calls = ap length c.calls.ensures ∙ length-map setup.calls (λ (k : CallView). k.call) in
    let given = c.in_ok-found.ensures A (boot_reached p setup.plan c.requires) shows in
    let counted = subst (λ (n : ℕ). IsExploredByGroups p (items_of c.as_slice.result.now) A c.as_slice-2.result.now answer_eq.ghosts.eq limit (n + 1) found) many given in
    let owned = subst (λ (l : List (List Call)). IsExploredByGroups p l A c.as_slice-2.result.now answer_eq.ghosts.eq limit (length setup.calls + 1) found) own counted in
    let is = subst (λ (b : List ℕ). IsExploredByGroups p (calls_of_each setup) A b answer_eq.ghosts.eq limit (length setup.calls + 1) found) begin owned in
    let kept : length c.in_ok-begin.begin.items ≡ c.in_ok-begin.begin.len = search rules in
    let count : c.len.result ≡ length (first_clients setup first) = c.len.ensures ∙ sym kept ∙ ap length c.in_ok-begin.ensures in
    record {
      groups = groups;
      are = is.groups_are;
      is =
          c.in_ok-told.ensures
          ∙ ap (λ (t : Texts). groups_report_on t setup c.len.result limit groups (map group_view found.explored.items)) c.in_ok-naming.ensures
          ∙ ap (λ (n : ℕ). groups_report_on texts setup n limit groups (map group_view found.explored.items)) count
          ∙ ap (λ (l : List GroupView). groups_report_on texts setup (length (first_clients setup first)) limit groups l) (explorations_are p setup first limit found is);
    }
