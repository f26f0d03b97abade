-- The report on clients that share nothing, each group by itself.
use Rattle.std.specs.Prelude.{◌≡◌, codes, ℕ, ◌+◌, ◌==◌, ◌&&◌, not, Bool, cond, List, ◌++◌, map, filter, length}
use Rattle.std.specs.List.{flat_map, list_any}
use Rattle.std.specs.Fmt.{decimal}
use Rattle.cap_core.specs.declared.profile.ProfileName.{ProfileName}
use Rattle.kernel_abstract.specs.Boot.{boot}
use Rattle.setup_values.specs.Names.{Names}
use Rattle.setup_format.specs.Views.{SetupView}
use Rattle.setup_report.specs.Naming.{Texts}
use Rattle.query_orders.specs.World.{World, start, world_after}
use Rattle.query_orders.specs.Orders.{numbers_below}
use Rattle.query_orders.specs.Answers.{Answered}
use Rattle.query_orders.specs.Ends.{StuckEnd}
use Rattle.query_orders.specs.Groups.{AreGroups, is_client_in, first_of_groups, alone}
use Rattle.query_orders.specs.declared.groups.exploring.GroupExplored.{GroupExplored}
use Rattle.command_explore.specs.Clients.{calls_of_each, first_clients}
use Rattle.command_explore.specs.Numbers.{client_numbers_of}
use Rattle.command_explore.specs.Text.{met_in_orders, expectations_of_calls, call_blocks, stuck_blocks, capped_count_text}
use Rattle.command_explore.specs.Views.{ExploredView, explored_view}
use Rattle.command_explore.specs.Report.{explore_head_line, expected_line, exploration_from, texts_at_boot}

-- a group, by its first client, with what its clients' orders tell
abbrev pub GroupView : Type 0
GroupView = ℕ × ExploredView

abbrev pub group_view : GroupExplored → GroupView
group_view g = (g.first, explored_view g.explored)

-- ---- what groups tell

-- of the answers those of the group's own clients; the exploration tells also those to the first calls of others
abbrev pub answers_in : List ℕ → GroupView → List Answered
answers_in groups g = filter (λ (a : Answered). is_client_in groups g.0 a.client) g.1.answers

abbrev pub group_answers : List ℕ → List GroupView → List Answered
group_answers groups found = flat_map (answers_in groups) found

abbrev pub group_stuck : List GroupView → List StuckEnd
group_stuck found = flat_map (λ (g : GroupView). g.1.stuck) found

-- whether all orders of each group are explored
abbrev pub are_whole : List GroupView → Bool
are_whole found = not (list_any (λ (g : GroupView). not g.1.whole) found)

-- ---- the lines of groups

abbrev pub clients_text : List ℕ → ℕ → List ℕ
clients_text groups group = flat_map (λ client. codes " " ++ decimal client) (filter (is_client_in groups group) (numbers_below (length groups)))

-- how many states and orders a group has, or the limit that was reached
abbrev pub group_counts : ℕ → ℕ → ExploredView → List ℕ
group_counts first limit e =
    cond e.whole
    (codes " states " ++ (capped_count_text e.states ++ (codes " ends " ++ (capped_count_text e.ends ++ (codes " orders " ++ (capped_count_text e.orders ++ (codes " stuck " ++ capped_count_text e.stuck_orders)))))))
    (codes " states " ++ (decimal limit ++ (codes " limit calls " ++ decimal (first + e.calls))))

abbrev pub group_line : ℕ → ℕ → List ℕ → GroupView → List ℕ
group_line first limit groups g = codes "clients" ++ (clients_text groups g.0 ++ (group_counts first limit g.1 ++ codes "\n"))

-- ---- the report

-- the report on groups, and whether all is well: all orders of each are explored, each expectation is met in each of them, and none
-- ends stuck
unfoldable pub groups_report_on : Texts → SetupView → ℕ → ℕ → List ℕ → List GroupView → List ℕ × Bool
groups_report_on texts setup first limit groups found =
    let numbers = client_numbers_of setup in
    let whole = are_whole found in
    let answers = group_answers groups found in
    let stuck = group_stuck found in
    let met = met_in_orders numbers 1 whole answers setup.calls in
    let expected = expectations_of_calls setup.calls in (
      explore_head_line setup ++ (call_blocks texts numbers 1 whole answers setup.calls ++ (stuck_blocks texts numbers 1 stuck ++ (flat_map (group_line first limit groups) found ++ expected_line met expected))),
      whole && (met == expected) && (length stuck == 0),
    )

-- the calls that the clients make first, in the set-up's order
abbrev pub behind_first : ProfileName → SetupView → ℕ → World
behind_first p setup first = world_after p (calls_of_each setup) (start (calls_of_each setup) (boot p setup.plan)) (first_clients setup first)

-- what the orders tell of each group's clients by themselves
abbrev pub group_exploration : ProfileName → SetupView → ℕ → ℕ → List ℕ → ℕ → GroupView
group_exploration p setup first limit groups group =
    (group, exploration_from p (alone (calls_of_each setup) (behind_first p setup first).made (is_client_in groups group)) (boot p setup.plan) (first_clients setup first) limit (length setup.calls + 1))

unfoldable pub group_explorations : ProfileName → SetupView → ℕ → ℕ → List ℕ → List GroupView
group_explorations p setup first limit groups = map (group_exploration p setup first limit groups) (first_of_groups groups)

-- a text, with whether all is well, is the report on the groups of a set-up's clients, by addresses or by names
pub record IsGroupsReport (by_name : Bool) (p : ProfileName) (names : Names) (setup : SetupView) (first limit : ℕ) (report : List ℕ × Bool) : Type 0 where
  pub groups : List ℕ
  pub are : AreGroups p (calls_of_each setup) (behind_first p setup first) groups
  pub is : report ≡ groups_report_on (texts_at_boot by_name p names setup) setup (length (first_clients setup first)) limit groups (group_explorations p setup first limit groups)
