use Rattle.command_explore.proofs.Replay.Accepted.{witness_accepted}
use Rattle.command_explore.proofs.Replay.Replayed.{witness_replayed}
use Rattle.command_explore.proofs.report.laws.witnesses_come_to_what_is_told.Goals as goal

pub returns-clause-accepted : goal.returns-clause-accepted
returns-clause-accepted c = witness_accepted

pub returns-clause-replayed : goal.returns-clause-replayed
returns-clause-replayed c = witness_replayed
