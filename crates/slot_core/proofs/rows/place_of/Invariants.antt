use Rattle.std.proofs.Common.{◌≡◌, ◌+◌, drop}
use Rattle.slot_core.specs.Rows.{place_of as place_in}
use Rattle.slot_core.proofs.rows.place_of.Given as goal

abbrev pub invariant-loop-i : goal.invariant-loop-i
invariant-loop-i l = l.i + place_in l.slot.place (drop l.i l.rows) ≡ place_in l.slot.place l.rows
