-- The proof of `changes_give_the_lines_after`: the goals that a search leaves open.
use Rattle.command_trace_laws.proofs.Applied.{all_told, all_applied}
use Rattle.command_trace_laws.proofs.Replays.{states_told, states_applied, run_replayed}
use Rattle.command_trace_laws.proofs.laws.changes_give_the_lines_after.Goals as goal

pub returns : goal.returns
returns c =
    record {
      told = all_told;
      applied = all_applied;
      told_of_states = states_told;
      applied_to_states = states_applied;
      replayed = run_replayed;
    }
