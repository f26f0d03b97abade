-- The kernels of a layer's first nodes.
use Rattle.std.specs.Prelude.{◌≡◌, List, [], ◌∷◌}
use Rattle.cap_core.specs.declared.profile.ProfileName.{ProfileName}
use Rattle.kernel_abstract.specs.declared.call.Call.{Call}
use Rattle.kernel_abstract.specs.Shown.{Shown}
use Rattle.kernel_abstract.specs.State.{shown}
use Rattle.query_orders.specs.World.{World, world_after}
use Rattle.query_orders.specs.declared.exploring.node.Node.{Node}

-- a kernel that shows the state after the order of a node
abbrev pub IsKernelOf : ProfileName → List (List Call) → World → Node → Shown → Type 0
IsKernelOf p own w n v = v ≡ shown (world_after p own w n.order).kernel

-- kernels of the first of some nodes, of each in turn
abbrev pub AreKernels : ProfileName → List (List Call) → World → List Shown → List Node → Type 0
AreKernels p own w [] nodes = Unit {0}
AreKernels p own w (v ∷ kernels) [] = ⊥
AreKernels p own w (v ∷ kernels) (n ∷ nodes) = IsKernelOf p own w n v × AreKernels p own w kernels nodes
