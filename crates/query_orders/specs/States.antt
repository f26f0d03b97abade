-- When orders lead to the same state.
use Rattle.std.specs.Prelude.{◌≡◌, ◌↔◌, true, ℕ, List}
use Rattle.cap_core.specs.declared.profile.ProfileName.{ProfileName}
use Rattle.kernel_abstract.specs.declared.call.Call.{Call}
use Rattle.kernel_abstract.specs.State.{shown}
use Rattle.query_orders.specs.World.{World, world_after}
use Rattle.query_orders.specs.Nodes.{lead_alike}

-- each client has made as many calls, the same calls wait, and the kernel shows the same
pub record IsSameState (v w : World) : Type 0 where
  pub made : v.made ≡ w.made
  pub waits : v.waits ≡ w.waits
  pub shows : shown v.kernel ≡ shown w.kernel

-- two orders are taken together if they lead to the same state, and nowhere else
abbrev pub AreTakenTogether : ProfileName → List (List Call) → World → List ℕ → List ℕ → Type 0
AreTakenTogether p own w order order' = (lead_alike p own w order order' ≡ true) ↔ IsSameState (world_after p own w order) (world_after p own w order')
