-- The proof of `closed_parts_stay_closed`: the goals that a search leaves open.
use Rattle.query_parts.proofs.Runs.{stay_closed, send_within, receive_within, send_by_parts, receive_by_parts}
use Rattle.query_parts.proofs.laws.closed_parts_stay_closed.Goals as goal

pub returns-clause-closed : goal.returns-clause-closed
returns-clause-closed c = stay_closed

pub returns-clause-sends : goal.returns-clause-sends
returns-clause-sends c = send_within

pub returns-clause-receives : goal.returns-clause-receives
returns-clause-receives c = receive_within

pub returns-clause-sends_by_parts : goal.returns-clause-sends_by_parts
returns-clause-sends_by_parts c = send_by_parts

pub returns-clause-receives_by_parts : goal.returns-clause-receives_by_parts
returns-clause-receives_by_parts c = receive_by_parts
