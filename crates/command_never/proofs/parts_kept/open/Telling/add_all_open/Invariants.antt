use Rattle.std.proofs.Common.{◌≡◌, ◌++◌, take, string_bytes}
use Rattle.std.specs.List.{flat_map}
use Rattle.command_parts.specs.Telling.{part_naming_view}
use Rattle.command_never.specs.Open.{open_endpoint_lines}
use Rattle.command_never.proofs.parts_kept.open.Telling.add_all_open.Given as goal

abbrev pub invariant-loop-endpoint : goal.invariant-loop-endpoint
invariant-loop-endpoint g l = string_bytes l.out ≡ string_bytes l.initial.out ++ flat_map (open_endpoint_lines g.P.Profile.profile (part_naming_view l.self.told.now) l.self.layout.now.memory.now l.self.layout.now.uses.now l.self.kernel.now l.between.from l.between.to) (take l.endpoint-index l.open)
