use Rattle.std.proofs.Common.{◌≡◌, ◌++◌, take, string_bytes}
use Rattle.std.specs.List.{flat_map}
use Rattle.command_parts.specs.Telling.{part_naming_view}
use Rattle.command_parts.specs.Text.{between_line}
use Rattle.command_parts.proofs.ways.PassingLine.add_of_two.Given as goal

abbrev pub invariant-loop-endpoint : goal.invariant-loop-endpoint
invariant-loop-endpoint g l = string_bytes l.out ≡ string_bytes l.initial.out ++ flat_map (between_line (part_naming_view l.self.told.now) l.self.passing g.P.Profile.profile l.access.memory.now l.access.uses.now l.from l.to) (take l.endpoint-index l.endpoint-items)
