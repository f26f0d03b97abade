-- What the exploration of each group by itself gives.
use Rattle.std.specs.Prelude.{◌≡◌, ℕ, Bool, List, map}
use Rattle.std.specs.List.{AllByRecursion as Each}
use Rattle.cap_core.specs.declared.profile.ProfileName.{ProfileName}
use Rattle.kernel_abstract.specs.declared.call.Call.{Call}
use Rattle.kernel_abstract.specs.State.{State}
use Rattle.query_orders.specs.declared.answer.Answer.{Answer}
use Rattle.query_orders.specs.declared.groups.exploring.GroupExplored.{GroupExplored}
use Rattle.query_orders.specs.declared.groups.exploring.GroupsExplored.{GroupsExplored}
use Rattle.query_orders.specs.World.{start, world_after}
use Rattle.query_orders.specs.Groups.{AreGroups, is_client_in, first_of_groups, alone}
use Rattle.query_orders.specs.Explorations.{IsExplored}

-- all orders of each group's clients are explored, by themselves, as far as the limit lets it go; the groups are those that there
-- are behind the first calls
pub record IsExploredByGroups (p : ProfileName) (own : List (List Call)) (A : State) (first : List ℕ) (same : Answer → Answer → Bool) (limit count : ℕ) (e : GroupsExplored) : Type 0 where
  pub groups_are : AreGroups p own (world_after p own (start own A) first) e.groups.items
  pub firsts_are : map (λ (g : GroupExplored). g.first) e.explored.items ≡ first_of_groups e.groups.items
  pub explored_are : Each (λ (g : GroupExplored). IsExplored p (alone own (world_after p own (start own A) first).made (is_client_in e.groups.items g.first)) A first same limit count g.explored) e.explored.items
