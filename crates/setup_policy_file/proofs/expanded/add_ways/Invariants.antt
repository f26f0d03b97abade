use Rattle.std.proofs.Common.{◌≡◌, ◌++◌, drop, map}
use Rattle.std.specs.List.{flat_map}
use Rattle.setup_policy_file.specs.Files.{way_view}
use Rattle.setup_policy_file.specs.Lists.{Pair, way_by}
use Rattle.setup_policy_file.specs.Private.{pair_view, way_lists}
use Rattle.setup_policy_file.proofs.expanded.add_ways.Given as goal

abbrev pub invariant-loop-pair : goal.invariant-loop-pair
invariant-loop-pair l =
    let lists = way_lists l.table in
    let by_each = λ (p : Pair). map (way_by lists p) lists.by in
    map way_view l.ways.items ++ flat_map by_each (map pair_view (drop l.pair-index l.made))
    ≡ map way_view l.initial.ways.items ++ flat_map by_each (map pair_view l.made)
