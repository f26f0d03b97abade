-- Which part may send to an endpoint, receive on it, or hand over capabilities by it.
use Rattle.std.specs.Prelude.{ℕ, ◌==◌, ◌&&◌, ◌||◌, Bool, true, false, not, cond, List, [], ◌∷◌, ◌++◌, map, filter, Option, Some, None}
use Rattle.std.specs.List.{list_any}
use Rattle.cap_core.specs.Rights.{write_bit, read_bit, grant_bit, grant_reply_bit}
use Rattle.kernel_abstract.specs.Decode.{has_right}
use Rattle.query_parts.specs.declared.listed.PartUse.{PartUse}
use Rattle.query_parts.specs.Listed.{part_at}
use Rattle.setup_report.specs.State.{rising}
use Rattle.command_parts.specs.Text.{is_part}
use Rattle.command_policy_breaches.specs.declared.held.Home.{Home}
use Rattle.command_policy_breaches.specs.declared.held.Layout.{Layout}
use Rattle.command_policy_breaches.specs.declared.held.Waiting.{Waiting}
use Rattle.command_policy_breaches.specs.declared.sides.Right.{Right}
use Rattle.command_policy_breaches.specs.declared.sides.Right.TheVariants.{Send, SendAny, Give, Call, Answer, Receive}

-- ---- what a use of a part lets it do on an endpoint

abbrev pub is_use_on : ℕ → ℕ → PartUse → Bool
is_use_on part endpoint u = u.part == part && u.endpoint == endpoint

abbrev pub sends : ℕ → ℕ → PartUse → Bool
sends part endpoint u = is_use_on part endpoint u && has_right write_bit u.rights

-- it hands over capabilities: with Write and Grant
abbrev pub sends_with_grant : ℕ → ℕ → PartUse → Bool
sends_with_grant part endpoint u = sends part endpoint u && has_right grant_bit u.rights

-- it can be answered with capabilities: with Write, and Grant or GrantReply
abbrev pub calls : ℕ → ℕ → PartUse → Bool
calls part endpoint u = sends part endpoint u && (has_right grant_bit u.rights || has_right grant_reply_bit u.rights)

abbrev pub hears : ℕ → ℕ → PartUse → Bool
hears part endpoint u = is_use_on part endpoint u && has_right read_bit u.rights

-- it answers with capabilities: with Read and Grant
abbrev pub answers : ℕ → ℕ → PartUse → Bool
answers part endpoint u = hears part endpoint u && has_right grant_bit u.rights

-- a use gives the part a right to the endpoint
abbrev pub is_use_for : Right → ℕ → ℕ → PartUse → Bool
is_use_for Send part endpoint u = sends part endpoint u
is_use_for SendAny part endpoint u = sends part endpoint u && u.badge.0 == 0
is_use_for Give part endpoint u = sends_with_grant part endpoint u
is_use_for Call part endpoint u = calls part endpoint u
is_use_for Answer part endpoint u = answers part endpoint u
is_use_for Receive part endpoint u = hears part endpoint u

-- ---- what a part may do on an endpoint: in whose memory it lies may do all, with any badge

abbrev pub owns_in_layout : Layout → ℕ → ℕ → Bool
owns_in_layout l part endpoint = is_part part (part_at l.memory.items endpoint)

abbrev pub may_give : Layout → ℕ → ℕ → Bool
may_give l part endpoint = owns_in_layout l part endpoint || list_any (sends_with_grant part endpoint) l.uses.items

abbrev pub may_part_call : Layout → ℕ → ℕ → Bool
may_part_call l part endpoint = owns_in_layout l part endpoint || list_any (calls part endpoint) l.uses.items

abbrev pub may_answer : Layout → ℕ → ℕ → Bool
may_answer l part endpoint = owns_in_layout l part endpoint || list_any (answers part endpoint) l.uses.items

-- a thread of the part waits there, to receive or to send
abbrev pub waits_to_hear : Layout → ℕ → ℕ → Waiting → Bool
waits_to_hear l part endpoint w = not w.sends && (w.endpoint == endpoint && is_part part (part_at l.memory.items w.thread))

abbrev pub waits_to_send : Layout → ℕ → ℕ → Waiting → Bool
waits_to_send l part endpoint w = w.sends && (w.endpoint == endpoint && is_part part (part_at l.memory.items w.thread))

abbrev pub may_hear : Layout → ℕ → ℕ → Bool
may_hear l part endpoint =
    owns_in_layout l part endpoint || (list_any (hears part endpoint) l.uses.items || list_any (waits_to_hear l part endpoint) l.waits.items)

abbrev pub sends_any : Layout → ℕ → ℕ → Bool
sends_any l part endpoint = owns_in_layout l part endpoint || list_any (λ (u : PartUse). sends part endpoint u && u.badge.0 == 0) l.uses.items

-- a thread of the part waits there: to send, or else to receive
abbrev pub is_wait_on : Bool → Layout → ℕ → ℕ → Waiting → Bool
is_wait_on true l part endpoint w = waits_to_send l part endpoint w
is_wait_on false l part endpoint w = waits_to_hear l part endpoint w

abbrev pub waits_on : Bool → Layout → ℕ → ℕ → Bool
waits_on sends l part endpoint = list_any (is_wait_on sends l part endpoint) l.waits.items

-- the part has the right to the endpoint
abbrev pub may : Right → Layout → ℕ → ℕ → Bool
may Send l part endpoint = owns_in_layout l part endpoint || (list_any (sends part endpoint) l.uses.items || waits_on true l part endpoint)
may SendAny l part endpoint = sends_any l part endpoint
may Give l part endpoint = may_give l part endpoint
may Call l part endpoint = may_part_call l part endpoint
may Answer l part endpoint = may_answer l part endpoint
may Receive l part endpoint = may_hear l part endpoint

abbrev pub some_badges : Layout → ℕ → ℕ → List ℕ
some_badges l part endpoint =
    rising (map (λ (u : PartUse). u.badge.0) (filter (sends part endpoint) l.uses.items)
    ++ map (λ (w : Waiting). w.badge) (filter (waits_to_send l part endpoint) l.waits.items))

-- the badges with which a part may send, or whose sends wait; 0 alone for any
abbrev pub sent_badges : Layout → ℕ → ℕ → List ℕ
sent_badges l part endpoint = cond (sends_any l part endpoint) (0 ∷ []) (some_badges l part endpoint)

-- ---- the groups of a part, or of the joined parts that have a number

abbrev pub is_home : ℕ → ℕ → Home → Bool
is_home group part h = h.group == group && h.part == part

-- a group has a thread there
abbrev pub is_at_home : List Home → ℕ → ℕ → Bool
is_at_home homes part group = list_any (is_home group part) homes

-- the part that is found is one where the group has a thread
abbrev pub is_found_home : List Home → ℕ → Option ℕ → Bool
is_found_home homes group None = false
is_found_home homes group (Some part) = is_at_home homes part group

abbrev pub is_in_part : Layout → ℕ → ℕ → Bool
is_in_part l part group = is_at_home l.homes.items part group

-- the groups that have a thread there, in the order of the policy
abbrev pub groups_at : List Home → ℕ → List ℕ
groups_at homes part = map (λ (h : Home). h.group) (filter (λ (h : Home). h.part == part) homes)
