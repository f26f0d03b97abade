use Rattle.std.proofs.Common.{◌≡◌, map, take}
use Rattle.slot_core.specs.Calls.{derivation_view}
use Rattle.command_audit.specs.Revokes.{cleared_count}
use Rattle.command_audit.proofs.revokes.count_cleared.Given as goal

abbrev pub invariant-loop-derivation : goal.invariant-loop-derivation
invariant-loop-derivation g l = l.count ≡ cleared_count (map (derivation_view g.P.Profile.profile) (take l.derivation-index l.old)) l.new
