-- What groups are told is what their explorations give.
use Rattle.std.proofs.Common.{◌≡◌, ℕ, ◌+◌, Bool, true, false, cond, List, [], ◌∷◌, filter, map, length, refl, ap, ap₂, ◌∙◌}
use Rattle.std.specs.List.{AllByRecursion as Each}
use Rattle.cap_core.specs.declared.profile.ProfileName.{ProfileName}
use Rattle.kernel_abstract.specs.Boot.{boot}
use Rattle.setup_format.specs.Views.{SetupView}
use Rattle.query_orders.specs.contracts.answer.AnswerPartialEq.TheImpl as answer_eq
use Rattle.query_orders.specs.Answers.{Answered}
use Rattle.query_orders.specs.Found.{answer_of, answers_of}
use Rattle.query_orders.specs.declared.exploring.found.FoundAnswer.{FoundAnswer}
use Rattle.query_orders.specs.Groups.{is_client_in, alone}
use Rattle.query_orders.specs.Explorations.{IsExplored}
use Rattle.query_orders.specs.GroupsExplored.{IsExploredByGroups}
use Rattle.query_orders.specs.declared.groups.exploring.GroupExplored.{GroupExplored}
use Rattle.query_orders.specs.declared.groups.exploring.GroupsExplored.{GroupsExplored}
use Rattle.command_explore.specs.Clients.{calls_of_each, first_clients}
use Rattle.command_explore.specs.Groups.{GroupView, group_view, behind_first, group_exploration, group_explorations}
use Rattle.command_explore.proofs.Explored.{explored_from}

-- the answers of some clients, found first and then told, or told first
pub answers_among : (has : ℕ → Bool) (found : List FoundAnswer) → map answer_of (filter (λ (f : FoundAnswer). has f.client) found) ≡ filter (λ (a : Answered). has a.client) (answers_of found)
answers_among has [] = refl
answers_among has (f ∷ found) =
    elim (has f.client) as (λ b. map answer_of (cond b (f ∷ filter (λ (f : FoundAnswer). has f.client) found) (filter (λ (f : FoundAnswer). has f.client) found)) ≡ cond b (answer_of f ∷ filter (λ (a : Answered). has a.client) (answers_of found)) (filter (λ (a : Answered). has a.client) (answers_of found))) [
      | true ↦ ap (λ l. answer_of f ∷ l) (answers_among has found)
      | false ↦ answers_among has found
    ]

module _ (p : ProfileName) (setup : SetupView) (first limit : ℕ) (groups : List ℕ) where
  -- what a group's exploration gives
  abbrev Gives : GroupExplored → Type 0
  Gives g = IsExplored p (alone (calls_of_each setup) (behind_first p setup first).made (is_client_in groups g.first)) (boot p setup.plan) (first_clients setup first) answer_eq.ghosts.eq limit (length setup.calls + 1) g.explored

  pub views_are : (explored : List GroupExplored) → Each Gives explored → map group_view explored ≡ map (group_exploration p setup first limit groups) (map (λ (g : GroupExplored). g.first) explored)
  views_are [] all = refl
  views_are (g ∷ explored) all =
      ap₂ (λ (v : GroupView) (vs : List GroupView). v ∷ vs)
      (ap (λ e. (g.first, e)) (explored_from p (alone (calls_of_each setup) (behind_first p setup first).made (is_client_in groups g.first)) (boot p setup.plan) (first_clients setup first) limit (length setup.calls + 1) g.explored all.0))
      (views_are explored all.1)

pub explorations_are : (p : ProfileName) (setup : SetupView) (first limit : ℕ) (e : GroupsExplored) →
    IsExploredByGroups p (calls_of_each setup) (boot p setup.plan) (first_clients setup first) answer_eq.ghosts.eq limit (length setup.calls + 1) e →
    map group_view e.explored.items ≡ group_explorations p setup first limit e.groups.items
unfolding group_explorations
explorations_are p setup first limit e is =
    views_are p setup first limit e.groups.items e.explored.items is.explored_are
    ∙ ap (map (group_exploration p setup first limit e.groups.items)) is.firsts_are
