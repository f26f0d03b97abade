-- The proof of `add_threads`: what holds at each turn of its loop.
use Rattle.std.proofs.Common.{◌≡◌, length, map}
use Rattle.std.specs.List.{range_with_len}
use Rattle.cap_core.specs.Numbers.{tcb_size}
use Rattle.mem_core.specs.Plans.{object_at}
use Rattle.kernel_core.specs.Rows.{rows_map}
use Rattle.kernel_core.specs.Private.NewRows.{with_rows}
use Rattle.kernel_core.proofs.objects.add_threads.Given as goal

-- the rows of the first i threads are written
abbrev pub invariant-loop-i : goal.invariant-loop-i
invariant-loop-i g l =
    record {
      length : length l.rows ≡ length l.fn.rows;
      map : rows_map (tcb_size g.P.Profile.profile) l.rows ≡ with_rows (map (object_at l.placed) (range_with_len 0 l.i)) (rows_map (tcb_size g.P.Profile.profile) l.fn.rows);
    }
