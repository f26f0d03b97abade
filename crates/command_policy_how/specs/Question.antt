-- Which question of `how` a breach stands for, and of which threads it is asked.
use Rattle.std.specs.Prelude.{◌≡◌, ℕ, ◌==◌, ◌&&◌, ◌||◌, Bool, true, false, not, cond, List, ◌++◌, filter, Option, Some, None}
use Rattle.query_parts.specs.declared.listed.PartMemory.{PartMemory}
use Rattle.query_parts.specs.Listed.{part_at}
use Rattle.command_how_witness.specs.declared.asked.Happening.{Happening}
use Rattle.command_how_witness.specs.declared.asked.Happening.TheVariants.{Message, Hold, Loss}
use Rattle.command_how_witness.specs.Witness.{Asking}
use Rattle.command_policy_breaches.specs.declared.held.Home.{Home}
use Rattle.command_policy_breaches.specs.declared.held.Layout.{Layout}
use Rattle.setup_policy.specs.declared.policy.Member.{Member}
use Rattle.setup_policy.specs.declared.policy.Policy.{Policy}
use Rattle.command_policy_breaches.specs.Layouts.{trusted_threads}
use Rattle.command_parts.specs.declared.takes.Take.{Take}
use Rattle.command_policy_breaches.specs.Sides.{is_in_part}
use Rattle.command_policy_breaches.specs.Ways.{is_end_at}
use Rattle.command_policy_text.specs.declared.told.Told.{Told}
use Rattle.command_policy_text.specs.declared.told.Told.TheVariants.{Joined, Badge, Way, Waits, Taken}

-- of groups in one part: that one holds another; of a take: a loss; else a message
abbrev pub happening_of : Told → Happening
happening_of (Joined part) = Hold
happening_of (Taken take) = Loss
happening_of told = Message

-- with which badge: that of the capability, 0 where it has none, since then no entry lists it; that of the passage, unless it is any
abbrev pub badge_of_breach : Told → Option ℕ
badge_of_breach (Badge used) = Some used.badge.0
badge_of_breach (Way passage) = cond (passage.badge == 0) None (Some passage.badge)
badge_of_breach (Waits wait) = cond wait.sends (Some wait.badge) None
badge_of_breach told = None

abbrev pub is_use_of_endpoint : Told → ℕ → Bool
is_use_of_endpoint (Badge used) endpoint = used.endpoint == endpoint
is_use_of_endpoint (Way passage) endpoint = passage.endpoint == endpoint
is_use_of_endpoint (Waits wait) endpoint = wait.endpoint == endpoint
is_use_of_endpoint told endpoint = false

-- by no other endpoint than that of the breach
abbrev pub other_endpoints : Layout → Told → List ℕ
other_endpoints l told = filter (λ endpoint. not (is_use_of_endpoint told endpoint)) l.endpoints.items

-- a question is of a breach, whichever threads it is of: the threads that the policy trusts make no calls
pub record IsAbout (c : Policy) (l : Layout) (told : Told) (q : Asking) : Type 0 where
  pub what : q.what ≡ happening_of told
  pub by : q.by ≡ other_endpoints l told
  pub badge : q.badge ≡ badge_of_breach told
  pub memory : q.memory ≡ l.memory.items
  pub without : q.without ≡ trusted_threads c

-- it is of a breach and of these threads
pub record IsQuestionOf (c : Policy) (l : Layout) (told : Told) (from to : ℕ) (q : Asking) : Type 0 where
  pub about : IsAbout c l told q
  pub from_is : q.from ≡ from
  pub to_is : q.to ≡ to

-- ---- of which threads

-- all threads of a policy, also those that it trusts
abbrev pub everyone : Policy → List Member
everyone c = c.members.items ++ (c.silent.items ++ c.messages.items)

-- a thread lies in a part
abbrev pub is_the_part : ℕ → Option ℕ → Bool
is_the_part part None = false
is_the_part part (Some found) = found == part

abbrev pub is_in_that_part : List PartMemory → ℕ → ℕ → Bool
is_in_that_part memory part thread = is_the_part part (part_at memory thread)

-- one lies in a part, and the other one not in the same
abbrev pub are_two : Option ℕ → Option ℕ → Bool
are_two None None = false
are_two None (Some j) = true
are_two (Some i) None = true
are_two (Some i) (Some j) = not (i == j)

abbrev pub are_in_two_parts : List PartMemory → ℕ → ℕ → Bool
are_in_two_parts memory from to = are_two (part_at memory from) (part_at memory to)

-- threads of groups of the two parts of a take lie there: the one in the part that takes, and the other in that from which it does
abbrev pub are_of_take : Layout → Take → Member → Member → Bool
are_of_take l t from to =
    (is_in_that_part l.memory.items t.by from.thread && is_in_that_part l.memory.items t.of to.thread) && (is_in_part l t.by from.actor && is_in_part l t.of to.actor)

-- from whom to whom a breach may let a message pass: from the part that has the capability to everyone; from the groups that send to those that
-- receive; from the thread that waits to send, or to the one that waits to receive. Of groups in one part: from each to each other. Of a take: who
-- may take something of whom
abbrev pub are_ends : Layout → List Home → Told → Member → Member → Bool
are_ends l hs (Joined part) from to = (is_in_that_part l.memory.items part from.thread && is_in_that_part l.memory.items part to.thread) && not (from.actor == to.actor)
are_ends l hs (Badge used) from to = is_in_that_part l.memory.items used.part from.thread
are_ends l hs (Way passage) from to = is_end_at hs passage.from from.actor && is_end_at hs passage.to to.actor
are_ends l hs (Waits wait) from to = cond wait.sends from.thread to.thread == wait.thread
are_ends l hs (Taken take) from to = are_of_take l take from to
are_ends l hs told from to = false

abbrev pub is_joined : Told → Bool
is_joined (Joined part) = true
is_joined told = false

-- it is asked of two threads: but of groups in one part, where they lie in two parts, which pass by the endpoints of the layout alone
abbrev pub is_asked : Layout → List Home → Told → Member → Member → Bool
is_asked l hs told from to = are_ends l hs told from to && (is_joined told || are_in_two_parts l.memory.items from.thread to.thread)
