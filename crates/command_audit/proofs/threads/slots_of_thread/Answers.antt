use Rattle.std.proofs.Common.{subst, sym}
use Rattle.command_audit.proofs.threads.slots_of_thread.Goals as goal
use Rattle.query_reach.specs.Lists.{AreReached}

pub returns-clause-slots : goal.returns-clause-slots
returns-clause-slots g c = λ f full.
    let p = g.P.Profile.profile in
    let reached = c.in_ok-reached.ensures f full in
    record {
      reached = reached;
      held = c.in_ok-held.ensures f c.args.thread full (subst (AreReached p f c.args.thread) (sym c.as_slice.ensures.value) reached);
    }
