use Rattle.kernel_core.proofs.Saved.SavedRows.{AreRowsTo}
use Rattle.kernel_core.proofs.rows.ThreadRows.live.Given as goal

abbrev pub invariant-loop-place : goal.invariant-loop-place
invariant-loop-place l = AreRowsTo l.place l.self-inside.places.items l.live.items
