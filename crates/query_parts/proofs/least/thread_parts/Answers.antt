-- The proof of `thread_parts`: the goals that a search leaves open.
use Rattle.std.proofs.Common.{arith, ◌∙◌}
use Rattle.query_parts.proofs.Turns.{threads_more}
use Rattle.query_parts.proofs.least.thread_parts.Goals as goal

pub loop-thread-preserved : goal.loop-thread-preserved
loop-thread-preserved g c =
    threads_more g.P.Profile.profile c.args.threads.now c.loop-thread.thread-index _ _ _ _ _ (omega arith) (c.TCB_BITS.ensures ∙ g.met.P.Profile.tcb_bits_is) c.loop-thread.invariant c.in_ok-take_range.ensures
