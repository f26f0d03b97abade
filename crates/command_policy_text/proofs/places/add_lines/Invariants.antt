use Rattle.std.proofs.Common.{◌≡◌, ◌++◌, take, string_bytes}
use Rattle.std.specs.List.{flat_map}
use Rattle.command_policy_text.proofs.Placed.{line_of}
use Rattle.command_policy_text.proofs.places.add_lines.Given as goal

abbrev pub invariant-loop-sited : goal.invariant-loop-sited
invariant-loop-sited g l = string_bytes l.out ≡ string_bytes l.initial.out ++ flat_map (line_of g.P.Profile.profile l.origin) (take l.sited-index l.sited-items)
