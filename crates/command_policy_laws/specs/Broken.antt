-- What is told as a breach of the least parts is one of all parts that are closed around the same threads.
use Rattle.std.specs.Prelude.{◌≡◌, ℕ, ◌||◌, Bool, true, false, List, Option, Some}
use Rattle.std.specs.List.{Contains}
use Rattle.cap_core.specs.declared.profile.ProfileName.{ProfileName}
use Rattle.cap_core.specs.Rights.{write_bit, read_bit}
use Rattle.kernel_abstract.specs.Decode.{has_right}
use Rattle.kernel_abstract.specs.State.{State, shown}
use Rattle.kernel_abstract.specs.Reached.{IsReached}
use Rattle.query_parts.specs.declared.listed.PartUse.{PartUse}
use Rattle.query_parts.specs.Parts.{Parts}
use Rattle.query_parts.specs.Listed.{part_at}
use Rattle.query_parts.specs.Least.{AreClosedAround}
use Rattle.command_parts.specs.Threads.{callers}
use Rattle.command_parts.specs.declared.takes.Take.{Take}
use Rattle.setup_policy.specs.declared.policy.Member.{Member}
use Rattle.setup_policy.specs.declared.policy.Policy.{Policy}
use Rattle.command_policy_breaches.specs.declared.held.Layout.{Layout}
use Rattle.command_policy_breaches.specs.declared.held.Waiting.{Waiting}
use Rattle.command_policy_breaches.specs.declared.ways.Passage.{Passage}
use Rattle.command_policy_breaches.specs.Breaches.{has_other_badge, has_right_too_much, is_unlisted}
use Rattle.command_policy_breaches.specs.Joins.{block_of_part, blocks, have_two_groups, homes_joined}
use Rattle.command_policy_breaches.specs.Layouts.{IsLayoutOf, trusted_threads}
use Rattle.command_policy_breaches.specs.Sides.{is_found_home}
use Rattle.command_policy_breaches.specs.Takes.{is_take_amiss}
use Rattle.command_policy_breaches.specs.Ways.{is_passage_amiss, part_end, passage, sending}
use Rattle.command_policy_laws.specs.Keeps.{KeepPolicy}
use Rattle.command_policy_laws.specs.Takes.{StandBelowOnly}
use Rattle.command_policy_laws.specs.Unbroken.{any_endpoint, may_group_pass, may_hold, may_take}

-- a thread of a group
pub record IsOfGroup (c : Policy) (m : Member) : Type 0 where
  pub member : Contains c.members.items m
  pub group : Contains c.groups.items m.actor

-- threads have the groups that the policy gives them
abbrev pub NamesGroups : Policy → (ℕ → Option ℕ) → Type 0
NamesGroups c group_of = (m : Member) → IsOfGroup c m → group_of m.thread ≡ Some m.actor

-- whatever else is a thread's group, no parts that are closed around the threads which the policy does not trust keep it
abbrev pub NoPartsKeep : ProfileName → Policy → Layout → State → Type 0
NoPartsKeep p c l A =
    (group_of : ℕ → Option ℕ) → NamesGroups c group_of → (others : Parts) → AreClosedAround p (callers p (shown A) (trusted_threads c)) A others →
    KeepPolicy p group_of any_endpoint (may_hold c l) (may_group_pass c) (shown A) others → ⊥

-- a line is told of a use: no entry is of its endpoint, or of those that are none has its badge, or one of its rights
abbrev pub is_use_told : Policy → Layout → PartUse → Bool
is_use_told c l u = is_unlisted c l u || (has_other_badge c l u || has_right_too_much c l u)

-- a use of a part in which a group has a thread, of an endpoint in no part of this group
pub record IsUseOf (c : Policy) (l : Layout) (u : PartUse) (m : Member) : Type 0 where
  pub used : Contains l.uses.items u
  pub named : IsOfGroup c m
  pub there : part_at l.memory.items m.thread ≡ Some u.part
  pub elsewhere : is_found_home l.homes.items m.actor (part_at l.memory.items u.endpoint) ≡ false

-- what passes from the part of one use to that of another; parts that Grant joins have one number
abbrev pub passage_by : Policy → Layout → PartUse → PartUse → Passage
passage_by c l u r =
    passage (sending (part_end (block_of_part (blocks c l) u.part)) u.part u.badge.0) u.endpoint (part_end (block_of_part (blocks c l) r.part))

-- the part of one thread of a group has a use to send by an endpoint, and that of another one to receive there
pub record IsPassageOf (c : Policy) (l : Layout) (u r : PartUse) (m n : Member) : Type 0 where
  pub sender : Contains l.uses.items u
  pub receiver : Contains l.uses.items r
  pub sends : has_right write_bit u.rights ≡ true
  pub hears : has_right read_bit r.rights ≡ true
  pub same : r.endpoint ≡ u.endpoint
  pub from : IsOfGroup c m
  pub to : IsOfGroup c n
  pub here : part_at l.memory.items m.thread ≡ Some u.part
  pub there : part_at l.memory.items n.thread ≡ Some r.part

-- the part of one thread of a group takes from that of another one
pub record IsTakeOf (c : Policy) (l : Layout) (t : Take) (m n : Member) : Type 0 where
  pub taken : Contains l.takes.items t
  pub from : IsOfGroup c m
  pub to : IsOfGroup c n
  pub here : part_at l.memory.items m.thread ≡ Some t.by
  pub there : part_at l.memory.items n.thread ≡ Some t.of

-- whatever else is a thread's group, in all parts that are closed around these threads a slot stands below one of a group that may not take
-- from its own
abbrev pub NoPartsStand : ProfileName → Policy → Layout → State → Type 0
NoPartsStand p c l A =
    (group_of : ℕ → Option ℕ) → NamesGroups c group_of → (others : Parts) → AreClosedAround p (callers p (shown A) (trusted_threads c)) A others →
    StandBelowOnly group_of (may_take c) A.derivations others → ⊥

-- if a line is told of such a use, of a part with threads of two groups, or of such a passage, the policy is broken by all parts; and
-- so it is if one is told of a take
abbrev pub WhatIsToldIsBroken : ProfileName → Policy → Layout → State → Type 0
WhatIsToldIsBroken p c l A =
    IsReached p A → IsLayoutOf p c (shown A) l →
    ((u : PartUse) (m : Member) → IsUseOf c l u m → is_use_told c l u ≡ true → NoPartsKeep p c l A)
    × ((part : ℕ) → have_two_groups l.homes.items part part ≡ true → NoPartsKeep p c l A)
    × ((u r : PartUse) (m n : Member) (us : List PartUse) (ws : List Waiting) → IsPassageOf c l u r m n →
    is_passage_amiss c l (homes_joined c l (blocks c l)) us ws (passage_by c l u r) ≡ true → NoPartsKeep p c l A)
    × ((t : Take) (m n : Member) → IsTakeOf c l t m n → is_take_amiss c l t ≡ true → NoPartsStand p c l A)
