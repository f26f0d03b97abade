-- What a node of an exploration stands for.
use Rattle.std.specs.Prelude.{◌≡◌, ℕ, Bool, List, [], ◌∷◌, ◌++◌, map, filter, nat_eq}
use Rattle.std.specs.List.{AllByRecursion as Each}
use Rattle.std.specs.Cmp.Lexicographic.{pointwise}
use Rattle.std.specs.Global.{Vec}
use Rattle.cap_core.specs.declared.profile.ProfileName.{ProfileName}
use Rattle.kernel_abstract.specs.declared.call.Call.{Call}
use Rattle.kernel_abstract.specs.Shown.{Shown}
use Rattle.kernel_abstract.specs.State.{shown}
use Rattle.kernel_lists.specs.Firsts.{firsts}
use Rattle.query_orders.specs.Words.{listed, shown_words}
use Rattle.query_orders.specs.declared.answer.WaitingCall.{WaitingCall}
use Rattle.query_orders.specs.World.{World, may_call, world_after}
use Rattle.query_orders.specs.Orders.{orders}
use Rattle.query_orders.specs.declared.exploring.node.Node.{Node}

-- each client's own calls, in order
abbrev pub own_calls : List (Vec Call) → List (List Call)
own_calls calls = map (λ (v : Vec Call). v.items) calls

-- a call that waits, as words
abbrev pub wait_words : WaitingCall → List ℕ
wait_words call = call.thread ∷ call.client ∷ call.place ∷ []

-- how many calls each client has made, which calls wait and what the kernel shows, as words
abbrev pub state_words : List ℕ → List WaitingCall → Shown → List ℕ
state_words made waits v = listed (λ n. n ∷ []) made ++ (listed wait_words waits ++ shown_words v)

abbrev pub world_words : World → List ℕ
world_words w = state_words w.made w.waits (shown w.kernel)

-- whether two orders lead to the same state
abbrev pub lead_alike : ProfileName → List (List Call) → World → List ℕ → List ℕ → Bool
lead_alike p own w order order' = pointwise nat_eq (world_words (world_after p own w order)) (world_words (world_after p own w order'))

-- of the orders that begin in one way and have so many calls more, the first to each state
abbrev pub layer : ProfileName → List (List Call) → World → List ℕ → ℕ → List (List ℕ)
layer p own w first n = firsts (lead_alike p own w) (orders p own w first n)

-- an order, longer by the next call of a client, where it can make one
abbrev pub one_longer : ProfileName → List (List Call) → World → List ℕ → ℕ → List (List ℕ)
one_longer p own w order client = map (λ c. order ++ c ∷ []) (filter (may_call own (world_after p own w order)) (client ∷ []))

-- the calls of a node, made and waiting, are those of the world after its order
pub record IsWay (p : ProfileName) (own : List (List Call)) (w : World) (n : Node) : Type 0 where
  pub made_is : n.made.items ≡ (world_after p own w n.order).made
  pub waits_are : n.waits.items ≡ (world_after p own w n.order).waits

-- a node's parts are those of the world after its order
pub record IsNode (p : ProfileName) (own : List (List Call)) (w : World) (n : Node) : Type 0 where
  pub made_is : n.made.items ≡ (world_after p own w n.order).made
  pub waits_are : n.waits.items ≡ (world_after p own w n.order).waits
  pub words_are : n.words.items ≡ world_words (world_after p own w n.order)

abbrev pub AreNodes : ProfileName → List (List Call) → World → List Node → Type 0
AreNodes p own w nodes = Each (IsNode p own w) nodes

-- the order of a node, with how many orders lead to its state
abbrev pub node_order : Node → List ℕ × ℕ
node_order n = (n.order, n.weight)

abbrev pub node_orders : List Node → List (List ℕ × ℕ)
node_orders nodes = map node_order nodes
