use Rattle.std.proofs.Common.{◌≡◌, ◌+◌, ◌<◌, ℕ, length, set, map, take, drop, ◌++◌, sym, subst, arith}
use Rattle.std.proofs.lemmas.List.{get_or_default}
use Rattle.std.proofs.lemmas.List.Edits.{map_over_more}
use Rattle.query_orders.specs.Private.Grouping.{regrouped}
use Rattle.query_orders.proofs.groups.grouping.regroup.Goals as goal

pub loop-group-preserved : goal.loop-group-preserved
loop-group-preserved c =
    let low : c.loop-group.group-index < length c.loop-group.groups = omega arith in
    let f = regrouped c.args.from c.args.to in
    subst (λ (x : ℕ). set c.loop-group.groups c.loop-group.group-index x
    ≡ map f (take (c.loop-group.group-index + 1) c.args.groups.now) ++ drop (c.loop-group.group-index + 1) c.args.groups.now)
    (sym c.regrouped_one.ensures)
    (map_over_more f c.args.groups.now c.loop-group.groups c.loop-group.group-index _ (omega arith) c.loop-group.invariant
    (get_or_default c.loop-group.groups c.loop-group.group-index _ _ low))
