-- What an exploration tells.
use Rattle.std.specs.Prelude.{ℕ, ◌==◌, Bool, List, length}
use Rattle.query_orders.specs.Answers.{Answered}
use Rattle.query_orders.specs.Ends.{StuckEnd}
use Rattle.query_orders.specs.declared.exploring.exploration.Explored.{Explored}
use Rattle.query_orders.specs.Found.{answers_of, stuck_of}

-- whether all orders are explored, and those of fewer calls than how many behind the first ones; the answers, the ways to end
-- stuck, and how many states, ends and orders there are
pub record ExploredView : Type 0 where
  pub whole : Bool
  pub calls : ℕ
  pub answers : List Answered
  pub stuck : List StuckEnd
  pub states : ℕ
  pub ends : ℕ
  pub orders : ℕ
  pub stuck_orders : ℕ

abbrev pub explored_view : Explored → ExploredView
explored_view e =
    record {
      whole = length e.layer == 0;
      calls = e.calls;
      answers = answers_of e.found.answers;
      stuck = stuck_of e.found.stuck.items;
      states = e.states;
      ends = e.found.ends;
      orders = e.found.orders;
      stuck_orders = e.found.stuck_orders;
    }
