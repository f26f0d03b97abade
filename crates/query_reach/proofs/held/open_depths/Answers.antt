use Rattle.std.proofs.Common.{◌≡◌, arith, length, map, refl}
use Rattle.std.proofs.lemmas.List.{length-map}
use Rattle.query_reach.proofs.Depths.{none_below, are_depths}
use Rattle.query_reach.proofs.held.open_depths.Goals as goal

pub loop-depth-init : goal.loop-depth-init
loop-depth-init c = rw c.new-depths.ensures.items (none_below (map (λ r. r.items) c.args.rows.now))

pub returns : goal.returns
returns c =
    let m : length (map (λ r. r.items) c.args.rows.now) ≡ length c.args.rows.now = rw length-map refl in
    are_depths (map (λ r. r.items) c.args.rows.now) c.loop-depth.depths.items c.loop-depth.depth (omega (arith, m, c.loop-depth-test.false)) c.loop-depth.invariant
