-- The proof of `end_thread`: the goals that a search leaves open.
use Rattle.std.proofs.Common.{◌/◌, ◌^◌, ℕ, List, Option, refl, ap, sym, subst, ◌∙◌}
use Rattle.kernel_core.specs.declared.rows.ThreadRow.{ThreadRow}
use Rattle.kernel_core.specs.Private.Ended.{AreLeft, is_thread_at}
use Rattle.kernel_core.proofs.Endings.EndedObjects.{thread_left, row_within}
use Rattle.kernel_core.proofs.ending.Threads.end_thread.Goals as goal

pub returns-then-is_thread_address : goal.returns-then-is_thread_address
returns-then-is_thread_address g c placed =
    let p = g.P.Profile.profile in
    let own = c.args.self.now in
    subst (λ (l : List (Option ThreadRow)). AreLeft p (is_thread_at c.args.tcb) own.memory_bits own.memory_bits own.rows l (g.W.Waiters.waits own.waiters) (g.W.Waiters.waits c.cancel_thread.new.self)) (sym c.remove.ensures)
    (thread_left p own.memory_bits own.memory_bits _ c.args.tcb own.rows (g.W.Waiters.waits own.waiters) (g.W.Waiters.waits c.cancel_thread.new.self) refl c.cancel_thread.ensures.waits
    (ap (λ (n : ℕ). c.args.tcb / 2 ^ n) (c.TCB_BITS.ensures ∙ g.met.P.Profile.tcb_bits_is)) placed.aligned (row_within p c.args.tcb own.memory_bits own.rows own.fill placed.within))
