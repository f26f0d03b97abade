use Rattle.std.proofs.Common.{◌≡◌, ◌++◌, take, string_bytes}
use Rattle.std.specs.List.{flat_map}
use Rattle.setup_values.specs.declared.names.Name.{Name}
use Rattle.command_trace.specs.Private.Listed.{name_view}
use Rattle.command_trace.specs.Names.{name_line}
use Rattle.command_trace.proofs.lines.names.add_names.Given as goal

abbrev pub invariant-loop-name : goal.invariant-loop-name
invariant-loop-name l = string_bytes l.out ≡ string_bytes l.initial.out ++ flat_map (λ (n : Name). name_line (name_view n)) (take l.name-index l.names)
