use Rattle.std.proofs.Common.{◌≡◌, ℕ, List, ◌∷◌, [], ◌++◌, map, get_or, refl, ap, ◌∙◌, arith, string_bytes}
use Rattle.std.proofs.lemmas.List.{drop_all, map_push}
use Rattle.setup_policy_file.specs.declared.expanded.Pair.{Pair}
use Rattle.setup_policy_file.specs.declared.file.TakeEntry.{TakeEntry}
use Rattle.setup_policy_file.specs.Files.{take_view}
use Rattle.setup_policy_file.specs.Lists as lists
use Rattle.setup_policy_file.specs.Private.{pair_view, take_lists}
use Rattle.setup_policy_file.proofs.Appended.{all_ones, one_more}
use Rattle.setup_policy_file.proofs.expanded.add_takes.Goals as goal

take_is : (made : List Pair) (i : ℕ) (d : Pair) (t : TakeEntry) → string_bytes t.from ≡ (get_or made i d).from.now → string_bytes t.to ≡ (get_or made i d).to.now
    → take_view t ≡ lists.take_between (pair_view (get_or made i d))
take_is made i d t a b = rw (a, b) refl

pub loop-pair-preserved : goal.loop-pair-preserved
loop-pair-preserved c =
    let old = c.loop-pair.takes.items in
    let new : TakeEntry = record { from = c.in_ok-from.from; to = c.in_ok-to.to; place = c.args.table.now.place } in
    let made = c.as_slice-made.result.now in
    let is = take_is made c.loop-pair.pair-index _ new c.in_ok-from.ensures.ok c.in_ok-to.ensures.ok in
    rw c.in_ok-push.ensures.items
    (one_more lists.take_between pair_view (map take_view old) (map take_view (old ++ new ∷ [])) (map take_view c.args.takes.now.items ++ map lists.take_between (map pair_view made))
    c.loop-pair.pair-index made _ c.loop-pair-test.true
    (map_push take_view old new ∙ ap (λ (v : lists.TakeView). map take_view old ++ v ∷ []) is) c.loop-pair.invariant)

pub returns : goal.returns
returns c =
    let t = take_lists c.args.table.now in
    let before = map take_view c.args.takes.now.items in
    let made = c.as_slice-made.result.now in
    let all : map pair_view made ≡ lists.pairs c.args.version t.both t.from t.to =
    cc (c.as_slice-made.ensures.value, c.in_ok-made.ensures, c.as_slice-from.ensures.value, c.as_slice-to.ensures.value) in
    all_ones lists.take_between pair_view (map take_view c.loop-pair.takes.items) (before ++ map lists.take_between (map pair_view made))
    c.loop-pair.pair-index made (drop_all c.loop-pair.pair-index made (omega arith)) c.loop-pair.invariant
    ∙ ap (λ (ps : List lists.Pair). before ++ map lists.take_between ps) all
