use Rattle.std.proofs.Common.{◌≡◌, ◌++◌, [], map, drop}
use Rattle.slot_core.specs.Calls.{derivation_view}
use Rattle.command_trace.specs.Siblings.{row_view}
use Rattle.command_trace.specs.Private.Path.{siblings_walked}
use Rattle.command_trace.proofs.lines.siblings.siblings.Given as goal

-- the rows that are found, with those of the full slots that are left, are all that have to be found
abbrev pub invariant-loop-derivation : goal.invariant-loop-derivation
invariant-loop-derivation g l =
    map row_view l.rows.items ++ siblings_walked l.path.items (map (derivation_view g.P.Profile.profile) (drop l.derivation-index l.derivations))
    ≡ siblings_walked [] (map (derivation_view g.P.Profile.profile) l.derivations)
