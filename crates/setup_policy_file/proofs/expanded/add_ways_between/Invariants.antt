use Rattle.std.proofs.Common.{◌≡◌, ◌++◌, drop, map}
use Rattle.setup_policy_file.specs.Files.{way_view}
use Rattle.setup_policy_file.specs.Lists.{way_by}
use Rattle.setup_policy_file.specs.Private.{pair_view, way_lists}
use Rattle.setup_policy_file.specs.Values.{word_view}
use Rattle.setup_policy_file.proofs.expanded.add_ways_between.Given as goal

abbrev pub invariant-loop-by : goal.invariant-loop-by
invariant-loop-by l =
    let each = way_by (way_lists l.table) (pair_view l.pair) in
    map way_view l.ways.items ++ map each (map word_view (drop l.by-index l.endpoints))
    ≡ map way_view l.initial.ways.items ++ map each (map word_view l.endpoints)
