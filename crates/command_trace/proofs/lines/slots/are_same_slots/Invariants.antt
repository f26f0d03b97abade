use Rattle.std.proofs.Common.{◌≡◌, map, take}
use Rattle.slot_core.specs.Calls.{derivation_view}
use Rattle.command_trace.proofs.lines.slots.are_same_slots.Given as goal

abbrev pub invariant-loop-i : goal.invariant-loop-i
invariant-loop-i g l = map (derivation_view g.P.Profile.profile) (take l.i l.old) ≡ map (derivation_view g.P.Profile.profile) (take l.i l.new)
