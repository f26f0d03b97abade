use Rattle.std.proofs.Common.{◌≡◌}
use Rattle.kernel_forest.specs.Marked.{is_parent as is_parent_in}
use Rattle.kernel_forest.proofs.Trees.Parented.{still_above}
use Rattle.slot_core.specs.Links.{unplaced}
use Rattle.slot_core.specs.Walks.{stack_of}
use Rattle.slot_core.proofs.linked.walk.leave.Given as goal

abbrev pub invariant-loop-top : goal.invariant-loop-top
invariant-loop-top g l =
    still_above (is_parent_in g.P.Profile.profile) (unplaced l.link) (stack_of l.links l.above.items)
    ≡ still_above (is_parent_in g.P.Profile.profile) (unplaced l.link) (stack_of l.links l.initial.above.items)

abbrev pub decreases-loop-top : goal.decreases-loop-top
decreases-loop-top g l = goal.left-loop-top g l
