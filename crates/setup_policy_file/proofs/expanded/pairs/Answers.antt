use Rattle.std.proofs.Common.{◌≡◌, ℕ, List, ◌++◌, map, ap, ◌∙◌, arith, rules, string_bytes}
use Rattle.std.specs.List.{flat_map}
use Rattle.std.proofs.lemmas.List.{drop_all}
use Rattle.setup_policy_file.specs.Lists as lists
use Rattle.setup_policy_file.specs.Private.{pair_view}
use Rattle.setup_policy_file.proofs.Appended.{all_numbered, numbered_more}
use Rattle.setup_policy_file.proofs.expanded.pairs.Goals as goal

pub loop-place-preserved : goal.loop-place-preserved
loop-place-preserved c =
    let to = map string_bytes c.args.to.now in
    let with_others = λ (f : ℕ × List ℕ). flat_map (lists.pairs_between c.args.version c.args.both f.0 f.1) to in
    let i = c.loop-place.place in
    let old = map pair_view c.loop-place.pairs.items in
    let name : c.as_str.result.now ≡ string_bytes c.index-from-place.result = search rules in
    numbered_more with_others string_bytes old (map pair_view c.add_pairs.new.pairs.items) (lists.pairs c.args.version c.args.both (map string_bytes c.args.from.now) to)
    i c.args.from.now c.index-from-place.result (omega arith)
    (c.in_ok-add_pairs.ensures ∙ ap (λ (t : List ℕ). old ++ with_others (i, t)) (name ∙ ap string_bytes c.index-from-place.is)) c.loop-place.invariant

pub returns : goal.returns
returns c =
    let to = map string_bytes c.args.to.now in
    all_numbered (λ (f : ℕ × List ℕ). flat_map (lists.pairs_between c.args.version c.args.both f.0 f.1) to) string_bytes (map pair_view c.loop-place.pairs.items)
    (lists.pairs c.args.version c.args.both (map string_bytes c.args.from.now) to) c.loop-place.place c.args.from.now (drop_all c.loop-place.place c.args.from.now (omega arith)) c.loop-place.invariant
