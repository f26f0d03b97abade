use Rattle.std.proofs.Common.{◌≡◌, ◌≢◌, ℕ, ◌*◌, ◌<◌, true}
use Rattle.cap_core.specs.Numbers.{slot_size}
use Rattle.kernel_forest.specs.Entries.{cap_at}
use Rattle.test_parts.specs.TestForests.{leaves_room}
use Rattle.test_parts.proofs.slots.calls.has_room.Given as goal

abbrev pub invariant-loop-i : goal.invariant-loop-i
invariant-loop-i g l =
    (k : ℕ) → k < l.i → k ≢ l.parent → leaves_room g.P.Profile.profile l.region l.cap (cap_at (g.S.CapStore.forest l.store) (k * slot_size g.P.Profile.profile)) ≡ true
