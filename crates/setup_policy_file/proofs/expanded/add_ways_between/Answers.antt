use Rattle.std.proofs.Common.{◌≡◌, rules, List, ◌∷◌, ◌++◌, [], map, ap, ◌∙◌, arith}
use Rattle.std.proofs.lemmas.List.{drop_all, map_push}
use Rattle.setup_policy_file.specs.declared.file.WayEntry.{WayEntry}
use Rattle.setup_policy_file.specs.declared.file.Word.{Word}
use Rattle.setup_policy_file.specs.Files.{way_view}
use Rattle.setup_policy_file.specs.Lists.{way_by, WayView}
use Rattle.setup_policy_file.specs.Private.{pair_view, way_lists}
use Rattle.setup_policy_file.specs.Values.{word_view}
use Rattle.setup_policy_file.proofs.Appended.{all_ones, one_more}
use Rattle.setup_policy_file.proofs.expanded.add_ways_between.Goals as goal

pub loop-by-preserved : goal.loop-by-preserved
loop-by-preserved c =
    let each = way_by (way_lists c.args.table.now) (pair_view c.args.pair.now) in
    let old = c.loop-by.ways.items in
    let new : WayEntry = record { from = c.in_ok-from.from; to = c.in_ok-to.to; by = c.in_ok-word.word; badge = c.badge_at-badge.result; rights = c.args.table.now.rights; place = c.args.table.now.place } in
    let is : way_view new ≡ each (word_view c.by-item.result) = search rules in
    let words = c.as_slice-endpoints.result.now in
    rw c.in_ok-push.ensures.items
    (one_more each word_view (map way_view old) (map way_view (old ++ new ∷ [])) (map way_view c.args.ways.now.items ++ map each (map word_view words))
    c.loop-by.by-index words c.by-item.result c.loop-by-test.true
    (map_push way_view old new ∙ ap (λ (v : WayView). map way_view old ++ v ∷ []) (is ∙ ap (λ (w : Word). each (word_view w)) c.by-item.is)) c.loop-by.invariant)

pub returns : goal.returns
returns c =
    let each = way_by (way_lists c.args.table.now) (pair_view c.args.pair.now) in
    let before = map way_view c.args.ways.now.items in
    let words = c.as_slice-endpoints.result.now in
    all_ones each word_view (map way_view c.loop-by.ways.items) (before ++ map each (map word_view words))
    c.loop-by.by-index words (drop_all c.loop-by.by-index words (omega arith)) c.loop-by.invariant
    ∙ ap (λ (ws : List Word). before ++ map each (map word_view ws)) c.as_slice-endpoints.ensures.value
