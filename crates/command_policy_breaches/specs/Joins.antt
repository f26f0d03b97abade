-- Which parts Grant joins: one can hand capabilities to another, by a message or by its answer.
use Rattle.std.specs.Prelude.{ℕ, ◌==◌, ◌&&◌, ◌||◌, Bool, not, cond, min, max, List, [], ◌∷◌, map, filter, find, Option, Some, None}
use Rattle.std.specs.List.{list_any, flat_map}
use Rattle.command_policy_breaches.specs.declared.joining.Join.{Join}
use Rattle.command_policy_breaches.specs.declared.held.Block.{Block}
use Rattle.command_policy_breaches.specs.declared.held.Home.{Home}
use Rattle.command_policy_breaches.specs.declared.held.Layout.{Layout}
use Rattle.setup_policy.specs.declared.policy.Policy.{Policy}
use Rattle.command_policy_breaches.specs.Layouts.{homes_at}
use Rattle.command_policy_breaches.specs.declared.sides.Right.TheVariants.{Give, Call, Answer, Receive}
use Rattle.command_policy_breaches.specs.Sides.{may, is_at_home}

-- ---- what one part can hand to another

-- part j takes what is handed by an endpoint: what is sent there, where it may receive, or what is answered, where it may call
abbrev pub takes_of : Bool → Bool → Layout → ℕ → ℕ → Bool
takes_of sent answered l j endpoint = (sent && may Receive l j endpoint) || (answered && may Call l j endpoint)

-- by the endpoint part i can hand capabilities to part j: in a message, where it may send with Grant, or in its answer, where it may
-- receive with Grant
abbrev pub hands_by : Layout → ℕ → ℕ → ℕ → Bool
hands_by l i j endpoint = takes_of (may Give l i endpoint) (may Answer l i endpoint) l j endpoint

-- so it can by some endpoint
abbrev pub are_given : Layout → ℕ → ℕ → Bool
are_given l i j = list_any (hands_by l i j) l.endpoints.items

-- ---- a join for each two parts and each endpoint by which the one can hand capabilities to the other

abbrev pub join_from : ℕ → ℕ → ℕ → Join
join_from from endpoint to = record { from = from; endpoint = endpoint; to = to }

abbrev pub is_joined_by : Layout → ℕ → ℕ → ℕ → Bool
is_joined_by l endpoint from to = not (to == from) && hands_by l from to endpoint

abbrev pub joins_from : Layout → ℕ → ℕ → List Join
joins_from l endpoint from = map (join_from from endpoint) (filter (is_joined_by l endpoint from) l.parts.items)

abbrev pub joins_on : Layout → ℕ → List Join
joins_on l endpoint = flat_map (joins_from l endpoint) l.parts.items

-- the joins of all parts, by all endpoints; none if Grant hands over nothing
abbrev pub joins : Policy → Layout → List Join
joins c l = cond c.grant (flat_map (joins_on l) l.endpoints.items) []

-- ---- joined parts have one number: first each has its own, and each join gives two the lesser

-- a part that is joined to no other has its own number
abbrev pub single_block : ℕ → Block
single_block part = record { part = part; block = part }

abbrev pub block_number : ℕ → Option Block → ℕ
block_number part None = part
block_number part (Some b) = b.block

abbrev pub block_of_part : List Block → ℕ → ℕ
block_of_part blocks part = block_number part (find (λ (b : Block). b.part == part) blocks)

abbrev pub renumbered : ℕ → ℕ → Block → Block
renumbered from to b = cond (b.block == from) (record { part = b.part; block = to }) b

abbrev pub joined : List Block → Join → List Block
joined blocks j =
    map (renumbered (max (block_of_part blocks j.from) (block_of_part blocks j.to)) (min (block_of_part blocks j.from) (block_of_part blocks j.to))) blocks

-- each join gives two parts the lesser of their numbers
abbrev pub all_joined : List Block → List Join → List Block
all_joined blocks [] = blocks
all_joined blocks (j ∷ js) = all_joined (joined blocks j) js

abbrev pub blocks : Policy → Layout → List Block
blocks c l = all_joined (map single_block l.parts.items) (joins c l)

-- ---- the groups of joined parts

abbrev pub number_at : List Block → Home → ℕ
number_at blocks h = block_of_part blocks h.part

abbrev pub homes_joined_of : List Home → List Block → ℕ → List Home
homes_joined_of homes blocks group = homes_at group (map (number_at blocks) (filter (λ (h : Home). h.group == group) homes))

-- in which joined parts groups have threads
abbrev pub homes_joined : Policy → Layout → List Block → List Home
homes_joined c l blocks = flat_map (homes_joined_of l.homes.items blocks) c.groups.items

-- ---- the groups of two parts, which may be the same

abbrev pub is_in_either : ℕ → ℕ → Home → Bool
is_in_either one other h = h.part == one || h.part == other

-- a group but this one has a thread in one of them
abbrev pub has_another : List Home → ℕ → ℕ → ℕ → Bool
has_another homes one other group = list_any (λ (h : Home). is_in_either one other h && not (h.group == group)) homes

-- threads of two groups lie in them
abbrev pub have_two_groups : List Home → ℕ → ℕ → Bool
have_two_groups homes one other = list_any (λ (h : Home). is_in_either one other h && has_another homes one other h.group) homes

-- one group has threads in both, and no other has
abbrev pub is_theirs : List Home → ℕ → ℕ → Home → Bool
is_theirs homes one other h = h.part == one && (is_at_home homes other h.group && not (has_another homes one other h.group))

-- two parts have threads of one group, and of no other
abbrev pub have_one_group : List Home → ℕ → ℕ → Bool
have_one_group homes one other = list_any (is_theirs homes one other) homes
