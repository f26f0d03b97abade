use Rattle.std.proofs.Common.{◌≡◌, List, ◌++◌, map, ap, ◌∙◌, arith}
use Rattle.std.specs.List.{flat_map}
use Rattle.std.proofs.lemmas.List.{drop_all}
use Rattle.setup_policy_file.specs.Files.{way_view}
use Rattle.setup_policy_file.specs.Lists as lists
use Rattle.setup_policy_file.specs.Private.{pair_view, way_lists}
use Rattle.setup_policy_file.proofs.Appended.{all_lists, list_more}
use Rattle.setup_policy_file.proofs.expanded.add_ways.Goals as goal

pub loop-pair-preserved : goal.loop-pair-preserved
loop-pair-preserved c =
    let w = way_lists c.args.table.now in
    let by_each = λ (p : lists.Pair). map (lists.way_by w p) w.by in
    let made = c.as_slice-made.result.now in
    list_more by_each pair_view (map way_view c.loop-pair.ways.items) (map way_view c.add_ways_between.new.ways.items) (map way_view c.args.ways.now.items ++ flat_map by_each (map pair_view made))
    c.loop-pair.pair-index made _ c.loop-pair-test.true c.in_ok-add_ways_between.ensures c.loop-pair.invariant

pub returns : goal.returns
returns c =
    let w = way_lists c.args.table.now in
    let by_each = λ (p : lists.Pair). map (lists.way_by w p) w.by in
    let before = map way_view c.args.ways.now.items in
    let made = c.as_slice-made.result.now in
    let all : map pair_view made ≡ lists.pairs c.args.version w.both w.from w.to =
    cc (c.as_slice-made.ensures.value, c.in_ok-made.ensures, c.as_slice-from.ensures.value, c.as_slice-to.ensures.value) in
    all_lists by_each pair_view (map way_view c.loop-pair.ways.items) (before ++ flat_map by_each (map pair_view made))
    c.loop-pair.pair-index made (drop_all c.loop-pair.pair-index made (omega arith)) c.loop-pair.invariant
    ∙ ap (λ (ps : List lists.Pair). before ++ flat_map by_each ps) all
