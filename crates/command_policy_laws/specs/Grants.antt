-- Who can hand capabilities to whom, where messages and answers carry them: parts that Grant joins, and no others.
use Rattle.std.specs.Prelude.{◌≡◌, ◌≢◌, ⊤, ℕ, true, false, List, Some}
use Rattle.std.specs.List.{Contains, AllByRecursion as Each}
use Rattle.cap_core.specs.declared.profile.ProfileName.{ProfileName}
use Rattle.cap_core.specs.declared.capability.Cap.{Cap}
use Rattle.cap_core.specs.declared.capability.Cap.TheVariants.{Endpoint}
use Rattle.cap_core.specs.Rights.{write_bit, read_bit, grant_bit}
use Rattle.kernel_forest.specs.Entries.{cap_at}
use Rattle.kernel_abstract.specs.declared.call.Call.{Call}
use Rattle.kernel_abstract.specs.Decode.{has_right}
use Rattle.kernel_abstract.specs.Shown.{Shown}
use Rattle.kernel_abstract.specs.State.{State, shown}
use Rattle.kernel_abstract.specs.Step.{state_after}
use Rattle.kernel_abstract.specs.Reached.{IsReached}
use Rattle.query_parts.specs.Listed.{part_at, parts_listed}
use Rattle.query_parts.specs.Laws.{IsAllowed}
use Rattle.setup_policy.specs.declared.policy.Policy.{Policy}
use Rattle.command_policy_breaches.specs.declared.held.Layout.{Layout}
use Rattle.command_policy_breaches.specs.declared.sides.Right.TheVariants.{Call as MayCall, Receive}
use Rattle.command_policy_breaches.specs.Joins.{are_given, block_of_part, blocks}
use Rattle.command_policy_breaches.specs.Layouts.{IsLayoutOf}
use Rattle.command_policy_breaches.specs.Sides.{may}

-- the number of a part: parts that Grant joins have one, also if they are joined by others
abbrev pub number_of : Policy → Layout → ℕ → ℕ
number_of c l part = block_of_part (blocks c l) part

-- what is joined is closed: a part that can be given capabilities has the number of the one that gives them
abbrev pub AreJoinsClosed : Policy → Layout → Type 0
AreJoinsClosed c l =
    (i j : ℕ) → Contains l.parts.items i → Contains l.parts.items j → are_given l i j ≡ true → number_of c l i ≡ number_of c l j

-- by a capability nothing is handed to part j: with Write and Grant it is to no endpoint on which the part may receive, and with Read and
-- Grant to none by which it may call
abbrev pub HandsNothing : Layout → ℕ → Cap → Type 0
HandsNothing l j (Endpoint base badge rights) =
    (has_right write_bit rights ≡ true → has_right grant_bit rights ≡ true → may Receive l j base ≡ false)
    × (has_right read_bit rights ≡ true → has_right grant_bit rights ≡ true → may MayCall l j base ≡ false)
HandsNothing l j cap = ⊤

-- so it is of each slot of part i, from each state that is shown, whatever threads of the parts call, and others send and receive
abbrev pub HandNothingEver : ProfileName → Layout → Shown → ℕ → ℕ → Type 0
HandNothingEver p l v i j =
    (A : State) → IsReached p A → v ≡ shown A → (calls : List Call) → Each (IsAllowed (parts_listed l.memory.items l.uses.items)) calls →
    (slot : ℕ) → part_at l.memory.items slot ≡ Some i → HandsNothing l j (cap_at (state_after p A calls).derivations slot)

-- if Grant hands over capabilities: what is joined is closed, and no part ever hands one to a part with another number
abbrev pub WhatIsJoinedIsClosed : ProfileName → Policy → Layout → Shown → Type 0
WhatIsJoinedIsClosed p c l v =
    IsLayoutOf p c v l → c.grant ≡ true →
    AreJoinsClosed c l
    × ((i j : ℕ) → Contains l.parts.items i → Contains l.parts.items j → number_of c l i ≢ number_of c l j → HandNothingEver p l v i j)
