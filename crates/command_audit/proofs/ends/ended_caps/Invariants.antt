use Rattle.std.proofs.Common.{◌≡◌, map, take}
use Rattle.slot_core.specs.Calls.{derivation_view}
use Rattle.command_audit.specs.Ends.{ended_capabilities}
use Rattle.command_audit.proofs.ends.ended_caps.Given as goal

abbrev pub invariant-loop-derivation : goal.invariant-loop-derivation
invariant-loop-derivation g l = l.caps.items ≡ ended_capabilities (map (derivation_view g.P.Profile.profile) (take l.derivation-index l.old)) (map (derivation_view g.P.Profile.profile) l.left)
