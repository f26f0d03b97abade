-- What an exploration of a set-up gives is what the report tells.
use Rattle.std.proofs.Common.{◌≡◌, ℕ, ◌+◌, ◌==◌, Bool, List, [], length, ap, sym, ◌∙◌}
use Rattle.std.proofs.lemmas.List.{length-map}
use Rattle.cap_core.specs.declared.profile.ProfileName.{ProfileName}
use Rattle.kernel_abstract.specs.declared.call.Call.{Call}
use Rattle.kernel_abstract.specs.Boot.{boot}
use Rattle.kernel_abstract.specs.State.{State}
use Rattle.setup_format.specs.Views.{SetupView}
use Rattle.kernel_lists.specs.Firsts.{firsts}
use Rattle.query_orders.specs.contracts.answer.AnswerPartialEq.TheImpl as answer_eq
use Rattle.query_orders.specs.World.{start}
use Rattle.query_orders.specs.Orders.{is_end, is_stuck}
use Rattle.query_orders.specs.Answers.{Answered, same_answer, first_answers, answers_before}
use Rattle.query_orders.specs.Ends.{StuckEnd, stuck_before, orders_before}
use Rattle.query_orders.specs.declared.exploring.exploration.Explored.{Explored}
use Rattle.query_orders.specs.declared.exploring.node.Node.{Node}
use Rattle.query_orders.specs.Nodes.{layer}
use Rattle.query_orders.specs.Counts.{saturated, states_before, ends_before}
use Rattle.query_orders.specs.Found.{answers_of, stuck_of, same_left}
use Rattle.query_orders.specs.Explorations.{depth, IsExplored}
use Rattle.command_explore.specs.Clients.{calls_of_each, first_clients}
use Rattle.command_explore.specs.Views.{ExploredView, explored_view}
use Rattle.command_explore.specs.Report.{exploration, exploration_from}

abbrev view : Bool → ℕ → List Answered → List StuckEnd → ℕ → ℕ → ℕ → ℕ → ExploredView
view whole calls answers stuck states ends orders stuck_orders =
    record { whole = whole; calls = calls; answers = answers; stuck = stuck; states = states; ends = ends; orders = orders; stuck_orders = stuck_orders }

module _ (p : ProfileName) (own : List (List Call)) (A : State) (begin : List ℕ) where
  -- what is explored where orders have fewer calls more than so many
  abbrev at : ℕ → ExploredView
  at n =
      let w = start own A in
      view (length (layer p own w begin n) == 0) n (answers_before answer_eq.ghosts.eq (firsts (same_answer answer_eq.ghosts.eq) (first_answers p own w [] begin)) p own w begin n) (stuck_before same_left p own w begin n)
      (saturated (states_before p own w begin n)) (saturated (ends_before p own w begin n)) (saturated (orders_before (is_end own) p own w begin n)) (saturated (orders_before (is_stuck own) p own w begin n))

  viewed : (limit count : ℕ) (e : Explored) → IsExplored p own A begin answer_eq.ghosts.eq limit count e → explored_view e ≡ at (depth p own (start own A) begin limit count)
  viewed limit count e is =
      let w = start own A in
      let t = is.to in
      let n = e.calls in
      let whole = sym (length-map e.layer (λ (m : Node). m.order)) ∙ ap (λ (l : List (List ℕ)). length l) t.layer_is in
      ap (λ (k : ℕ). view (k == 0) n (answers_of e.found.answers) (stuck_of e.found.stuck.items) e.states e.found.ends e.found.orders e.found.stuck_orders) whole
      ∙ ap (λ (l : List Answered). view (length (layer p own w begin n) == 0) n l (stuck_of e.found.stuck.items) e.states e.found.ends e.found.orders e.found.stuck_orders) t.answers_are
      ∙ ap (λ (l : List StuckEnd). view (length (layer p own w begin n) == 0) n (at n).answers l e.states e.found.ends e.found.orders e.found.stuck_orders) t.stuck_are
      ∙ ap (λ (k : ℕ). view (length (layer p own w begin n) == 0) n (at n).answers (at n).stuck k e.found.ends e.found.orders e.found.stuck_orders) t.states_are
      ∙ ap (λ (k : ℕ). view (length (layer p own w begin n) == 0) n (at n).answers (at n).stuck (at n).states k e.found.orders e.found.stuck_orders) t.ends_are
      ∙ ap (λ (k : ℕ). view (length (layer p own w begin n) == 0) n (at n).answers (at n).stuck (at n).states (at n).ends k e.found.stuck_orders) t.orders_are
      ∙ ap (λ (k : ℕ). view (length (layer p own w begin n) == 0) n (at n).answers (at n).stuck (at n).states (at n).ends (at n).orders k) t.stuck_orders_are
      ∙ ap at is.calls_are

pub explored_from : (p : ProfileName) (own : List (List Call)) (A : State) (begin : List ℕ) (limit count : ℕ) (e : Explored) → IsExplored p own A begin answer_eq.ghosts.eq limit count e → explored_view e ≡ exploration_from p own A begin limit count
unfolding exploration_from
explored_from p own A begin limit count e is = viewed p own A begin limit count e is

pub exploration_is : (p : ProfileName) (setup : SetupView) (first limit : ℕ) (own : List (List Call)) (begin : List ℕ) (e : Explored) → own ≡ calls_of_each setup → begin ≡ first_clients setup first →
    IsExplored p own (boot p setup.plan) begin answer_eq.ghosts.eq limit (length setup.calls + 1) e → explored_view e ≡ exploration p setup first limit
unfolding exploration exploration_from
exploration_is p setup first limit own begin e is_own is_begin is =
    viewed p own (boot p setup.plan) begin limit (length setup.calls + 1) e is
    ∙ ap (λ (l : List (List Call)). at p l (boot p setup.plan) begin (depth p l (start l (boot p setup.plan)) begin limit (length setup.calls + 1))) is_own
    ∙ ap (λ (b : List ℕ). at p (calls_of_each setup) (boot p setup.plan) b (depth p (calls_of_each setup) (start (calls_of_each setup) (boot p setup.plan)) b limit (length setup.calls + 1))) is_begin
