use Rattle.std.proofs.Common.{◌≡◌, take}
use Rattle.kernel_core.specs.SavedRows.{rows_with}
use Rattle.kernel_core.proofs.rows.ThreadRows.put_live.Given as goal

abbrev pub invariant-loop-one : goal.invariant-loop-one
invariant-loop-one l = l.self ≡ rows_with l.fn.self (take l.one-index l.live)
