use Rattle.std.proofs.Common.{rules, ◌≡◌, ◌<◌, ◌≤◌, length, slice_get, arith}
use Rattle.kernel_shared.proofs.Clients.{alike_more}
use Rattle.kernel_shared.proofs.client.alike.Goals as goal

pub loop-place-preserved : goal.loop-place-preserved
loop-place-preserved g c =
    let one = g.T.Absorb.state c.args.one.now in
    let other = g.T.Absorb.state c.args.other.now in
    let e : slice_get one c.loop-place.place ≡ slice_get other c.loop-place.place = search rules in
    let lt : c.loop-place.place < c.args.seen = search rules in
    let r : c.args.seen ≤ length one = c.requires in
    record { same = alike_more c.loop-place.place one other (omega arith) e c.loop-place.invariant.same }
