-- The proof of `add_threads`: the goals that a search leaves open.
use Rattle.std.proofs.Common.{ap, ◌∙◌, sym}
use Rattle.std.specs.FinMap.{insert}
use Rattle.cap_core.specs.Numbers.{tcb_size}
use Rattle.mem_core.specs.Plans.{object_at}
use Rattle.kernel_core.specs.Rows.{rows_map}
use Rattle.kernel_core.specs.Private.NewRows.{new_row}
use Rattle.kernel_core.proofs.Threads.NewThreads.{rows-added}
use Rattle.kernel_core.proofs.objects.add_threads.Goals as goal

pub loop-i-preserved : goal.loop-i-preserved
loop-i-preserved g c =
    record {
      length = c.add_thread.ensures.length ∙ c.loop-i.invariant.length;
      map = c.add_thread.ensures.map
          ∙ ap (λ m. insert m (object_at c.args.placed c.loop-i.i) new_row) c.loop-i.invariant.map
          ∙ sym (rows-added c.args.placed c.loop-i.i (rows_map (tcb_size g.P.Profile.profile) c.args.rows.now));
    }
