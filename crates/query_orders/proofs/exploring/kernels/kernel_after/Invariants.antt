use Rattle.std.proofs.Common.{◌≡◌, length, replicate, take}
use Rattle.kernel_abstract.specs.State.{shown}
use Rattle.kernel_abstract.specs.Reached.{IsReached}
use Rattle.query_orders.specs.World.{World, world_after}
use Rattle.query_orders.specs.Nodes.{own_calls}
use Rattle.query_orders.proofs.exploring.kernels.kernel_after.Given as goal

abbrev pub invariant-loop-i : goal.invariant-loop-i
invariant-loop-i g l =
    let p = g.P.Profile.profile in
    let own = own_calls l.calls in
    (w : World) → IsReached p w.kernel → l.kernel ≡ shown w.kernel → w.made ≡ replicate (length l.calls) 0
    → (l.at ≡ shown (world_after p own w (take l.i l.order)).kernel) × (l.made.items ≡ (world_after p own w (take l.i l.order)).made)
