use Rattle.std.proofs.Common.{◌≡◌, ℕ, List, ◌++◌, map, ap, ◌∙◌, arith, rules, string_bytes}
use Rattle.std.specs.List.{flat_map}
use Rattle.std.proofs.lemmas.List.{drop_all}
use Rattle.setup_policy_file.specs.Lists.{pairs_between}
use Rattle.setup_policy_file.specs.Private.{pair_view}
use Rattle.setup_policy_file.proofs.Appended.{all_lists, list_more}
use Rattle.setup_policy_file.proofs.expanded.add_pairs.Goals as goal

pub loop-other-preserved : goal.loop-other-preserved
loop-other-preserved c =
    let with_each = pairs_between c.args.version c.args.both c.args.place c.args.from.now in
    let old = map pair_view c.loop-other.pairs.items in
    let name : c.as_str-to.result.now ≡ string_bytes c.other-item.result = search rules in
    list_more with_each string_bytes old (map pair_view c.add_pair.new.pairs.items) (map pair_view c.args.pairs.now.items ++ flat_map with_each (map string_bytes c.args.to.now))
    c.loop-other.other-index c.args.to.now c.other-item.result c.loop-other-test.true
    (c.in_ok-add_pair.ensures ∙ ap (λ (t : List ℕ). old ++ with_each t) (name ∙ ap string_bytes c.other-item.is)) c.loop-other.invariant

pub returns : goal.returns
returns c =
    let with_each = pairs_between c.args.version c.args.both c.args.place c.args.from.now in
    all_lists with_each string_bytes (map pair_view c.loop-other.pairs.items) (map pair_view c.args.pairs.now.items ++ flat_map with_each (map string_bytes c.args.to.now))
    c.loop-other.other-index c.args.to.now (drop_all c.loop-other.other-index c.args.to.now (omega arith)) c.loop-other.invariant
