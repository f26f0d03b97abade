-- The proof of `changes_lead_back`: the goals that a search leaves open.
use Rattle.command_trace_laws.proofs.Backwards.{lead_back, states_back, run_back}
use Rattle.command_trace_laws.proofs.laws.changes_lead_back.Goals as goal

pub returns : goal.returns
returns c = record { applied = lead_back; applied_to_states = states_back; replayed = run_back }
