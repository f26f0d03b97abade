use Rattle.std.proofs.Common.{◌≡◌, ◌++◌, drop, map, string_bytes}
use Rattle.std.specs.List.{flat_map}
use Rattle.setup_policy_file.specs.Lists.{pairs_between}
use Rattle.setup_policy_file.specs.Private.{pair_view}
use Rattle.setup_policy_file.proofs.expanded.add_pairs.Given as goal

abbrev pub invariant-loop-other : goal.invariant-loop-other
invariant-loop-other l =
    let with_each = pairs_between l.version l.both l.place l.from in
    map pair_view l.pairs.items ++ flat_map with_each (map string_bytes (drop l.other-index l.to))
    ≡ map pair_view l.initial.pairs.items ++ flat_map with_each (map string_bytes l.to)
