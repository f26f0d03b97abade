use Rattle.std.proofs.Common.{◌≡◌, ◌+◌, ◌-◌, ◌*◌, ◌≤◌, ◌++◌}
use Rattle.cap_core.specs.Numbers.{slot_size}
use Rattle.kernel_forest.specs.Slots.{addresses}
use Rattle.kernel_delete.proofs.chain.SlotChain.push_node.Given as goal

abbrev pub invariant-loop-left : goal.invariant-loop-left
invariant-loop-left g l =
    record {
      within : l.left ≤ l.count;
      pushed : l.self ≡ (addresses (slot_size g.P.Profile.profile) (l.base + l.left * slot_size g.P.Profile.profile) (l.count - l.left) ++ l.fn.self.0, l.fn.self.1);
    }

abbrev pub decreases-loop-left : goal.decreases-loop-left
decreases-loop-left g l = l.left
