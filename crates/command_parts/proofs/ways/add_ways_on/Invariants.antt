use Rattle.std.proofs.Common.{◌≡◌, ◌++◌, map, take}
use Rattle.std.specs.List.{flat_map}
use Rattle.command_parts.specs.Text.{way}
use Rattle.command_parts.proofs.ways.add_ways_on.Given as goal

abbrev pub invariant-loop-badge : goal.invariant-loop-badge
invariant-loop-badge l = l.ways.items ≡ l.initial.ways.items ++ flat_map (λ badge. map (way l.from l.endpoint badge) l.receivers) (take l.badge-index l.badges)

abbrev pub invariant-loop-to : goal.invariant-loop-to
invariant-loop-to l = l.ways.items ≡ l.initial.ways.items ++ map (way l.from l.endpoint l.badge) (take l.to-index l.receivers)
