use Rattle.std.proofs.Common.{◌≡◌, ℕ, List, ◌++◌, map, ap, ◌∙◌, arith, rules, string_bytes}
use Rattle.std.specs.Prelude.{String}
use Rattle.std.specs.declared.alloc.Global.{Global}
use Rattle.std.specs.List.{enumerate_from, flat_map}
use Rattle.std.proofs.lemmas.List.{drop_all}
use Rattle.setup_policy_file.specs.Files.{use_view}
use Rattle.setup_policy_file.specs.Lists.{use_by}
use Rattle.setup_policy_file.specs.Private.{use_lists}
use Rattle.setup_policy_file.proofs.Appended.{all_numbered, numbered_more}
use Rattle.setup_policy_file.proofs.expanded.add_uses.Goals as goal

pub loop-place-preserved : goal.loop-place-preserved
loop-place-preserved c =
    let u = use_lists c.args.table.now in
    let of_each = λ (g : ℕ × List ℕ). map (use_by u g.0 g.1) u.of in
    let groups = c.as_slice-groups.result.now in
    let i = c.loop-place.place in
    let old = map use_view c.loop-place.uses.items in
    let name : c.as_str.result.now ≡ string_bytes c.index-groups-place.result = search rules in
    numbered_more of_each string_bytes old (map use_view c.add_uses_of.new.uses.items) (map use_view c.args.uses.now.items ++ flat_map of_each (enumerate_from 0 (map string_bytes groups)))
    i groups c.index-groups-place.result (omega arith)
    (c.in_ok-add_uses_of.ensures ∙ ap (λ (t : List ℕ). old ++ of_each (i, t)) (name ∙ ap string_bytes c.index-groups-place.is)) c.loop-place.invariant

pub returns : goal.returns
returns c =
    let u = use_lists c.args.table.now in
    let of_each = λ (g : ℕ × List ℕ). map (use_by u g.0 g.1) u.of in
    let before = map use_view c.args.uses.now.items in
    let groups = c.as_slice-groups.result.now in
    all_numbered of_each string_bytes (map use_view c.loop-place.uses.items) (before ++ flat_map of_each (enumerate_from 0 (map string_bytes groups)))
    c.loop-place.place groups (drop_all c.loop-place.place groups (omega arith)) c.loop-place.invariant
    ∙ ap (λ (gs : List (String Global)). before ++ flat_map of_each (enumerate_from 0 (map string_bytes gs))) c.as_slice-groups.ensures.value
