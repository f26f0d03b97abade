-- The number is that of the option, and where this is not there, the one that the definition has.
use Rattle.program.proofs.jobs.threads.Goals as goal

pub returns-clause-run : goal.returns-clause-run
returns-clause-run g c = rw (← c.unwrap_or-first.ensures) c.threads_found_open.ensures.run
