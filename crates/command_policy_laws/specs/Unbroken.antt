-- What a policy lets groups hold and send, and that it is so ever if no line tells of a breach.
use Rattle.std.specs.Prelude.{◌≡◌, ◌≢◌, ◌≤◌, ◌<◌, ⊤, ℕ, ◌==◌, ◌&&◌, ◌||◌, Bool, true, not, List, [], Option, Some, None, option_map, find}
use Rattle.std.specs.List.{list_any, Contains, AllByRecursion as Each}
use Rattle.cap_core.specs.declared.profile.ProfileName.{ProfileName}
use Rattle.cap_core.specs.declared.capability.Badge.{Badge}
use Rattle.cap_core.specs.Objects.{base_of, end_of}
use Rattle.cap_core.specs.declared.capability.Cap.{Cap}
use Rattle.cap_core.specs.declared.capability.Cap.TheVariants.{Null, Untyped, Endpoint, CNode, Tcb}
use Rattle.cap_core.specs.declared.rights.Rights.{Rights}
use Rattle.cap_core.specs.Rights.{write_bit, read_bit, grant_bit, grant_reply_bit}
use Rattle.kernel_forest.specs.Forest.{Forest}
use Rattle.kernel_forest.specs.Entries.{Entry, cap_at}
use Rattle.kernel_abstract.specs.declared.call.Call.{Call}
use Rattle.kernel_abstract.specs.declared.call.Reply.{Reply}
use Rattle.kernel_abstract.specs.Decode.{has_right}
use Rattle.kernel_abstract.specs.Shown.{Shown}
use Rattle.kernel_abstract.specs.State.{State, shown}
use Rattle.kernel_abstract.specs.Step.{state_after}
use Rattle.kernel_abstract.specs.Reached.{IsReached}
use Rattle.query_parts.specs.Listed.{part_at, parts_listed}
use Rattle.query_parts.specs.Laws.{IsAllowed, Names}
use Rattle.setup_format.specs.Views.{SetupView}
use Rattle.command_core.specs.declared.fault.Verdict.TheVariants.{AllMet}
use Rattle.setup_policy.specs.declared.policy.Allowance.{Allowance}
use Rattle.command_policy_breaches.specs.declared.held.Home.{Home}
use Rattle.setup_policy.specs.declared.policy.Labels.{Labels}
use Rattle.command_policy_breaches.specs.declared.held.Layout.{Layout}
use Rattle.setup_policy.specs.declared.policy.Member.{Member}
use Rattle.setup_policy.specs.declared.policy.OwnRegion.{OwnRegion}
use Rattle.setup_policy.specs.declared.policy.Policy.{Policy}
use Rattle.setup_policy.specs.declared.policy.PolicyTake.{PolicyTake}
use Rattle.setup_policy.specs.declared.policy.PolicyVersion.TheVariants.{Two}
use Rattle.setup_policy.specs.declared.policy.PolicyWay.{PolicyWay}
use Rattle.command_policy_breaches.specs.Breaches.{range_lies_within, meets}
use Rattle.command_policy_breaches.specs.Joins.{blocks, homes_joined, joins}
use Rattle.command_policy_breaches.specs.Layouts.{IsLayoutOf}
use Rattle.command_policy_breaches.specs.Sides.{is_found_home}
use Rattle.command_policy_breaches.specs.Ways.{passages}
use Rattle.command_policy_text.specs.declared.told.Told.{Told}
use Rattle.command_policy_text.specs.Texts.{breaches, text_and_verdict}
use Rattle.command_policy_laws.specs.Grants.{HandsNothing}
use Rattle.command_policy_laws.specs.Keeps.{AreSlotsHeld, KeepPolicy}
use Rattle.command_policy_laws.specs.Takes.{TakesOnly}

-- ---- whose an address is

-- the group that has threads in a part
abbrev pub group_in : List Home → Option ℕ → Option ℕ
group_in homes None = None
group_in homes (Some part) = option_map (λ (h : Home). h.group) (find (λ (h : Home). h.part == part) homes)

-- the group of an address: the one that has threads in the part in whose memory it lies
abbrev pub group_of : Layout → ℕ → Option ℕ
group_of l address = group_in l.homes.items (part_at l.memory.items address)

-- ---- what a group may hold

-- an entry is of the group and of the endpoint, and has this badge or any
abbrev pub is_entry_of : ℕ → ℕ → ℕ → Allowance → Bool
is_entry_of group endpoint badge a = a.actor == group && (a.endpoint == endpoint && meets a.badge badge)

abbrev pub has_entry_with : Policy → ℕ → ℕ → ℕ → ℕ → Bool
has_entry_with c group endpoint badge right =
    list_any (λ (a : Allowance). is_entry_of group endpoint badge a && has_right right a.rights) c.allowances.items

-- the right is not there, or an entry has it
abbrev pub allows_right : Policy → ℕ → ℕ → ℕ → Rights → ℕ → Bool
allows_right c group endpoint badge rights right = not (has_right right rights) || has_entry_with c group endpoint badge right

-- entries have the endpoint, the badge, and each of the rights
abbrev pub entries_allow : Policy → ℕ → ℕ → ℕ → Rights → Bool
entries_allow c group endpoint badge rights =
    list_any (is_entry_of group endpoint badge) c.allowances.items
    && (allows_right c group endpoint badge rights write_bit && (allows_right c group endpoint badge rights read_bit
    && (allows_right c group endpoint badge rights grant_bit && allows_right c group endpoint badge rights grant_reply_bit)))

-- 2^bits addresses lie in a region of the group
abbrev pub is_in_region : ℕ → ℕ → ℕ → OwnRegion → Bool
is_in_region bits group base own = own.group == group && range_lies_within base bits own.base own.bits

abbrev pub is_in_their_region : Policy → ℕ → ℕ → ℕ → Bool
is_in_their_region c bits group base = list_any (is_in_region bits group base) c.regions.items

-- the endpoint lies in a region of the group, or in the memory of a part where it has threads
abbrev pub is_their_own : Policy → Layout → ℕ → ℕ → Bool
is_their_own c l group endpoint =
    is_in_their_region c l.endpoint_bits group endpoint || is_found_home l.homes.items group (part_at l.memory.items endpoint)

-- a group may hold capabilities to endpoints of its own, and those that its entries allow
abbrev pub may_hold : Policy → Layout → ℕ → ℕ → Badge → Rights → Bool
may_hold c l group endpoint badge rights = is_their_own c l group endpoint || entries_allow c group endpoint badge.0 rights

-- an untyped region lies in one of the group's
abbrev pub IsRegionTheirs : Policy → ℕ → Cap → Type 0
IsRegionTheirs c group (Untyped base bits free) = is_in_their_region c bits group base ≡ true
IsRegionTheirs c group cap = ⊤

-- each untyped region in a slot of a group's part does
abbrev pub AreRegionsTheirs : Policy → Layout → Forest Entry → Type 0
AreRegionsTheirs c l f = (slot group : ℕ) → group_of l slot ≡ Some group → IsRegionTheirs c group (cap_at f slot)

-- ---- what may pass

abbrev pub is_way_of : ℕ → ℕ → ℕ → ℕ → PolicyWay → Bool
is_way_of from endpoint badge to way = way.from == from && (way.endpoint == endpoint && (way.to == to && meets way.badge badge))

-- a way from the one group to the other is by the endpoint, and with this badge or any
abbrev pub may_group_pass : Policy → ℕ → ℕ → Badge → ℕ → Bool
may_group_pass c from endpoint badge to = list_any (is_way_of from endpoint badge.0 to) c.ways.items

-- ---- who may take from whom

-- an entry lets the one group take from the other
abbrev pub may_take : Policy → ℕ → ℕ → Bool
may_take c from to = list_any (λ (w : PolicyTake). w.from == from && w.to == to) c.takes.items

-- whatever call a thread of a group makes: it leaves each slot of another group as it is, unless an entry lets the one take from the other
abbrev pub AreTakesHeld : ProfileName → Policy → Layout → State → Type 0
AreTakesHeld p c l A = (call : Call) → TakesOnly p l.memory.items (group_of l) (may_take c) A call

-- every endpoint counts, also one that is made later
abbrev pub any_endpoint : ℕ → Bool
any_endpoint endpoint = true

-- ---- the laws

-- a thread that the policy names is of the group that names it
abbrev pub AreNamed : Policy → Layout → Type 0
AreNamed c l =
    (m : Member) (part : ℕ) → Contains c.members.items m → Contains c.groups.items m.actor → part_at l.memory.items m.thread ≡ Some part →
    group_of l m.thread ≡ Some m.actor

-- if no line tells of a breach, threads are of the groups that name them, and the parts keep the policy
abbrev pub WhatIsNotToldIsKept : ProfileName → Policy → Layout → Labels → State → Type 0
WhatIsNotToldIsKept p c l n A =
    IsLayoutOf p c (shown A) l → breaches c l n (homes_joined c l (blocks c l)) (joins c l) (passages c l (blocks c l)) ≡ [] →
    AreNamed c l × KeepPolicy p (group_of l) any_endpoint (may_hold c l) (may_group_pass c) (shown A) (parts_listed l.memory.items l.uses.items)

-- if no line of version 2 tells of a breach, groups take only from those from which an entry lets them, whatever is called before
abbrev pub WhatIsNotToldIsNotTaken : ProfileName → Policy → Layout → Labels → State → Type 0
WhatIsNotToldIsNotTaken p c l n A =
    IsReached p A → IsLayoutOf p c (shown A) l → c.version ≡ Two →
    breaches c l n (homes_joined c l (blocks c l)) (joins c l) (passages c l (blocks c l)) ≡ [] →
    (calls : List Call) → Each (IsAllowed (parts_listed l.memory.items l.uses.items)) calls → AreTakesHeld p c l (state_after p A calls)

-- each address of the object that a capability names, but of an endpoint, is of the group
abbrev pub AreAddressesTheirs : ProfileName → Layout → ℕ → Cap → Type 0
AreAddressesTheirs p l group cap = (address : ℕ) → base_of cap ≤ address → address < end_of p cap → group_of l address ≡ Some group

abbrev pub IsObjectTheirs : ProfileName → Layout → ℕ → Cap → Type 0
IsObjectTheirs p l group Null = ⊤
IsObjectTheirs p l group (Endpoint base badge rights) = ⊤
IsObjectTheirs p l group (Untyped base bits free) = AreAddressesTheirs p l group (Untyped base bits free)
IsObjectTheirs p l group (CNode base radix guard) = AreAddressesTheirs p l group (CNode base radix guard)
IsObjectTheirs p l group (Tcb base) = AreAddressesTheirs p l group (Tcb base)

-- threads, CNodes and untyped regions in the slots of a group's part are of the group: none is another group's
abbrev pub AreObjectsTheirs : ProfileName → Layout → Forest Entry → Type 0
AreObjectsTheirs p l f = (slot group : ℕ) → group_of l slot ≡ Some group → IsObjectTheirs p l group (cap_at f slot)

-- the slots that a group's threads name are of the group: no call of theirs reaches into another group's CNode
abbrev pub AreNamesTheirs : ProfileName → Layout → Forest Entry → Type 0
AreNamesTheirs p l f = (thread slot group : ℕ) → group_of l thread ≡ Some group → Names p f thread slot → group_of l slot ≡ Some group

-- if Grant hands over capabilities: by nothing in a slot of a group's part can one be handed to the part of a thread of another group
abbrev pub HandNothingOut : Policy → Layout → Forest Entry → Type 0
HandNothingOut c l f =
    c.grant ≡ true →
    (slot thread j g h : ℕ) → group_of l slot ≡ Some g → group_of l thread ≡ Some h → part_at l.memory.items thread ≡ Some j → g ≢ h →
    HandsNothing l j (cap_at f slot)

-- what is so after some calls: what groups hold and what passes, their untyped regions, their objects, what their threads name, what
-- they can hand over, and, in version 2, whom they can take from
abbrev pub AreKept : ProfileName → Policy → Layout → State → List Call → Type 0
AreKept p c l A calls =
    AreSlotsHeld p (group_of l) any_endpoint (may_hold c l) (may_group_pass c) l.memory.items A calls
    × AreRegionsTheirs c l (state_after p A calls).derivations
    × AreObjectsTheirs p l (state_after p A calls).derivations
    × AreNamesTheirs p l (state_after p A calls).derivations
    × HandNothingOut c l (state_after p A calls).derivations
    × (c.version ≡ Two → AreTakesHeld p c l (state_after p A calls))

-- what is promised if the verdict on a layout is `AllMet`, which is status 0: the threads that the policy names are of the groups that
-- name them, and, whatever calls the threads of the parts make, and whatever messages other threads send and receive, the layout is held
-- to the policy, and objects and names of a group stay its own; in version 2 each group takes only from those from which it may
abbrev pub IsPromised : ProfileName → Policy → Layout → Labels → SetupView → List Reply → (Told → List ℕ) → List ℕ → Type 0
IsPromised p c l n setup replies places text =
    (A : State) → IsReached p A → IsLayoutOf p c (shown A) l →
    (text, AllMet) ≡ text_and_verdict places c l n (homes_joined c l (blocks c l)) (joins c l) (passages c l (blocks c l)) setup replies →
    AreNamed c l × ((calls : List Call) → Each (IsAllowed (parts_listed l.memory.items l.uses.items)) calls → AreKept p c l A calls)
