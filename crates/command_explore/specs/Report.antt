-- The report on every order of the calls that the clients of a set-up make. Threads and endpoints stand as `texts` tells them.
use Rattle.std.specs.Prelude.{codes, ℕ, ◌+◌, ◌==◌, ◌&&◌, Bool, cond, List, [], ◌++◌, length}
use Rattle.std.specs.Fmt.{decimal}
use Rattle.cap_core.specs.declared.profile.ProfileName.{ProfileName}
use Rattle.kernel_abstract.specs.declared.call.Call.{Call}
use Rattle.kernel_abstract.specs.Boot.{boot}
use Rattle.kernel_abstract.specs.State.{State, shown}
use Rattle.setup_values.specs.Names.{Names}
use Rattle.setup_values.specs.Told.{profile_text}
use Rattle.setup_format.specs.Views.{SetupView}
use Rattle.setup_report.specs.Naming.{Texts, report_texts}
use Rattle.setup_report.specs.Report.{terminated}
use Rattle.kernel_lists.specs.Firsts.{firsts}
use Rattle.query_orders.specs.contracts.answer.AnswerPartialEq.TheImpl as answer_eq
use Rattle.query_orders.specs.World.{start}
use Rattle.query_orders.specs.Orders.{is_end, is_stuck}
use Rattle.query_orders.specs.Answers.{same_answer, first_answers, answers_before}
use Rattle.query_orders.specs.Ends.{stuck_before, orders_before}
use Rattle.query_orders.specs.Nodes.{layer}
use Rattle.query_orders.specs.Counts.{saturated, states_before, ends_before}
use Rattle.query_orders.specs.Found.{same_left}
use Rattle.query_orders.specs.Explorations.{depth}
use Rattle.command_explore.specs.Clients.{calls_of_each, first_clients}
use Rattle.command_explore.specs.Numbers.{client_numbers_of}
use Rattle.command_explore.specs.Text.{met_in_orders, expectations_of_calls, call_blocks, stuck_blocks, capped_count_text}
use Rattle.command_explore.specs.Views.{ExploredView}

-- the version of the report's form, and how large the set-up is
abbrev pub explore_head_line : SetupView → List ℕ
explore_head_line setup =
    terminated (codes "explore 2 " ++ (profile_text setup.profile ++ (codes " clients " ++ (decimal setup.clients ++ (codes " calls " ++ decimal (length setup.calls))))))

abbrev pub count_lines : ℕ → ℕ → ℕ → ℕ → List ℕ
count_lines states ends orders stuck =
    codes "states " ++ (capped_count_text states ++ (codes " ends " ++ (capped_count_text ends ++ (codes "\norders " ++ (capped_count_text orders ++ (codes " stuck " ++ (capped_count_text stuck ++ codes "\n")))))))

-- where the limit on states was reached: all of them are found, and the orders that are explored have fewer calls than so many
abbrev pub limit_line : ℕ → ℕ → List ℕ
limit_line limit calls = terminated (codes "states " ++ (decimal limit ++ (codes " limit calls " ++ decimal calls)))

-- how many calls have an expectation, and how many of these are met in every order
abbrev pub expected_line : ℕ → ℕ → List ℕ
expected_line met expected = terminated (codes "expected " ++ (decimal met ++ (codes " of " ++ decimal expected)))

abbrev pub end_lines : ℕ → ℕ → ℕ → ℕ → ExploredView → List ℕ
end_lines first limit met expected e =
    cond e.whole (count_lines e.states e.ends e.orders e.stuck_orders) (limit_line limit (first + e.calls)) ++ expected_line met expected

-- the report on an exploration, and whether all is well: all orders are explored, each expectation is met in each of them, and
-- none ends stuck
unfoldable pub report_on : Texts → SetupView → ℕ → ℕ → ExploredView → List ℕ × Bool
report_on texts setup first limit e =
    let numbers = client_numbers_of setup in
    let met = met_in_orders numbers 1 e.whole e.answers setup.calls in
    let expected = expectations_of_calls setup.calls in (
      explore_head_line setup ++ (call_blocks texts numbers 1 e.whole e.answers setup.calls ++ (stuck_blocks texts numbers 1 e.stuck ++ end_lines first limit met expected e)),
      e.whole && (met == expected) && (length e.stuck == 0),
    )

-- what the orders tell that begin in one way from a state, as far as the limit on states lets it go
unfoldable pub exploration_from : ProfileName → List (List Call) → State → List ℕ → ℕ → ℕ → ExploredView
exploration_from p own A begin limit count =
    let w = start own A in
    let n = depth p own w begin limit count in
    record {
      whole = length (layer p own w begin n) == 0;
      calls = n;
      answers = answers_before answer_eq.ghosts.eq (firsts (same_answer answer_eq.ghosts.eq) (first_answers p own w [] begin)) p own w begin n;
      stuck = stuck_before same_left p own w begin n;
      states = saturated (states_before p own w begin n);
      ends = saturated (ends_before p own w begin n);
      orders = saturated (orders_before (is_end own) p own w begin n);
      stuck_orders = saturated (orders_before (is_stuck own) p own w begin n);
    }

-- what those tell that begin with the first calls of a set-up, from its boot on
unfoldable pub exploration : ProfileName → SetupView → ℕ → ℕ → ExploredView
exploration p setup first limit =
    exploration_from p (calls_of_each setup) (boot p setup.plan) (first_clients setup first) limit (length setup.calls + 1)

-- the texts of a set-up's report: addresses, or the names of its objects. These names do not depend on the state, and only objects
-- are told; so they are taken from the boot
abbrev pub texts_at_boot : Bool → ProfileName → Names → SetupView → Texts
texts_at_boot by_name p names setup = report_texts by_name p names setup.plan (shown (boot p setup.plan))

-- the report on them, by addresses or by names
unfoldable pub explored_report : Bool → ProfileName → Names → SetupView → ℕ → ℕ → List ℕ × Bool
explored_report by_name p names setup first limit =
    report_on (texts_at_boot by_name p names setup) setup (length (first_clients setup first)) limit (exploration p setup first limit)
