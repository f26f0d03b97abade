use Rattle.std.proofs.Common.{◌≡◌, ◌++◌, map, string_bytes}
use Rattle.std.specs.List.{flat_map}
use Rattle.std.specs.Map.Iter.{deref}
use Rattle.setup_report.specs.Naming.{naming_view}
use Rattle.setup_report.specs.Report.{endpoint_line}
use Rattle.setup_report.proofs.memory.add_endpoints.Given as goal

abbrev pub invariant-loop-endpoint : goal.invariant-loop-endpoint
invariant-loop-endpoint g l = string_bytes l.out ≡ string_bytes l.initial.out ++ flat_map (endpoint_line (naming_view l.naming) l.kernel) (map deref l.yielded)
