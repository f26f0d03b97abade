use Rattle.std.proofs.Common.{◌≡◌, rules, List, ◌∷◌, ◌++◌, [], map, ap, ◌∙◌, arith}
use Rattle.std.proofs.lemmas.List.{drop_all, map_push}
use Rattle.setup_policy_file.specs.declared.file.UseEntry.{UseEntry}
use Rattle.setup_policy_file.specs.declared.file.Word.{Word}
use Rattle.setup_policy_file.specs.Files.{use_view}
use Rattle.setup_policy_file.specs.Lists.{use_by, UseView}
use Rattle.setup_policy_file.specs.Private.{use_lists}
use Rattle.setup_policy_file.specs.Values.{word_view}
use Rattle.setup_policy_file.proofs.Appended.{all_ones, one_more}
use Rattle.setup_policy_file.proofs.expanded.add_uses_of.Goals as goal

pub loop-of-preserved : goal.loop-of-preserved
loop-of-preserved c =
    let each = use_by (use_lists c.args.table.now) c.args.place c.args.group.now in
    let old = c.loop-of.uses.items in
    let new : UseEntry = record { group = c.in_ok-name.name; of = c.in_ok-word.word; badge = c.badge_at-badge.result; rights = c.args.table.now.rights; place = c.args.table.now.place } in
    let is : use_view new ≡ each (word_view c.of-item.result) = search rules in
    let words = c.as_slice-endpoints.result.now in
    rw c.in_ok-push.ensures.items
    (one_more each word_view (map use_view old) (map use_view (old ++ new ∷ [])) (map use_view c.args.uses.now.items ++ map each (map word_view words))
    c.loop-of.of-index words c.of-item.result c.loop-of-test.true
    (map_push use_view old new ∙ ap (λ (v : UseView). map use_view old ++ v ∷ []) (is ∙ ap (λ (w : Word). each (word_view w)) c.of-item.is)) c.loop-of.invariant)

pub returns : goal.returns
returns c =
    let each = use_by (use_lists c.args.table.now) c.args.place c.args.group.now in
    let before = map use_view c.args.uses.now.items in
    let words = c.as_slice-endpoints.result.now in
    all_ones each word_view (map use_view c.loop-of.uses.items) (before ++ map each (map word_view words))
    c.loop-of.of-index words (drop_all c.loop-of.of-index words (omega arith)) c.loop-of.invariant
    ∙ ap (λ (ws : List Word). before ++ map each (map word_view ws)) c.as_slice-endpoints.ensures.value
