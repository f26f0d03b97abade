-- What breaks a policy, but the ways: of each part, what it has and no entry lets it have.
use Rattle.std.specs.Prelude.{ℕ, ◌==◌, ◌&&◌, ◌||◌, nat_le, nat_lt, Bool, true, false, not, cond, List, Option, Some, None, option_map}
use Rattle.std.specs.List.{list_any}
use Rattle.cap_core.specs.Rights.{write_bit, read_bit, grant_bit, grant_reply_bit}
use Rattle.kernel_abstract.specs.Decode.{has_right}
use Rattle.query_parts.specs.declared.listed.PartUse.{PartUse}
use Rattle.query_parts.specs.Listed.{part_at, last_in}
use Rattle.command_policy_breaches.specs.declared.breaches.Hold.{Hold}
use Rattle.command_policy_breaches.specs.declared.breaches.Need.{Need}
use Rattle.command_policy_breaches.specs.declared.breaches.Need.TheVariants as need
use Rattle.setup_policy.specs.declared.policy.Allowance.{Allowance}
use Rattle.command_policy_breaches.specs.declared.held.HeldRegion.{HeldRegion}
use Rattle.command_policy_breaches.specs.declared.held.Layout.{Layout}
use Rattle.setup_policy.specs.declared.policy.Member.{Member}
use Rattle.setup_policy.specs.declared.policy.OwnRegion.{OwnRegion}
use Rattle.setup_policy.specs.declared.policy.Policy.{Policy}
use Rattle.command_policy_breaches.specs.declared.held.Waiting.{Waiting}
use Rattle.command_policy_breaches.specs.Sides.{is_in_part}

-- ---- what is a group's own

abbrev pub ends_within : Option ℕ → Option ℕ → Bool → Bool
ends_within None end begins = false
ends_within (Some last) None begins = false
ends_within (Some last) (Some end) begins = begins && nat_le last end

-- 2^bits addresses lie among 2^most others
abbrev pub range_lies_within : ℕ → ℕ → ℕ → ℕ → Bool
range_lies_within base bits first most = ends_within (last_in base bits) (last_in first most) (nat_le first base)

abbrev pub has_region : Layout → ℕ → ℕ → ℕ → OwnRegion → Bool
has_region l part base bits own = range_lies_within base bits own.base own.bits && is_in_part l part own.group

abbrev pub is_own : Policy → Layout → ℕ → ℕ → ℕ → Bool
is_own c l part base bits = list_any (has_region l part base bits) c.regions.items

abbrev pub is_own_endpoint : Policy → Layout → ℕ → ℕ → Bool
is_own_endpoint c l part endpoint = is_own c l part endpoint l.endpoint_bits

-- ---- what entries let a part have

-- an entry is of the endpoint, and of a group that has a thread in the part
abbrev pub is_entry : Layout → ℕ → ℕ → Allowance → Bool
is_entry l part endpoint a = a.endpoint == endpoint && is_in_part l part a.actor

abbrev pub has_entry : Policy → Layout → ℕ → ℕ → Bool
has_entry c l part endpoint = list_any (is_entry l part endpoint) c.allowances.items

-- an entry has the right, with whatever badge
abbrev pub lets_ever : Policy → Layout → ℕ → ℕ → ℕ → Bool
lets_ever c l part endpoint right =
    list_any (λ (a : Allowance). is_entry l part endpoint a && has_right right a.rights) c.allowances.items

-- 0 is any badge
abbrev pub meets : ℕ → ℕ → Bool
meets allowed badge = allowed == 0 || allowed == badge

abbrev pub lets_with : Policy → Layout → ℕ → ℕ → ℕ → ℕ → Bool
lets_with c l part endpoint badge right =
    list_any (λ (a : Allowance). is_entry l part endpoint a && (has_right right a.rights && meets a.badge badge)) c.allowances.items

abbrev pub lets_badge : Policy → Layout → ℕ → ℕ → ℕ → Bool
lets_badge c l part endpoint badge =
    list_any (λ (a : Allowance). is_entry l part endpoint a && meets a.badge badge) c.allowances.items

-- an entry has what is asked of it
abbrev pub is_met_by : Need → Allowance → Bool
is_met_by need.Entry a = true
is_met_by (need.Right right) a = has_right right.0 a.rights
is_met_by (need.Badge badge) a = meets a.badge badge
is_met_by (need.RightWith right badge) a = has_right right.0 a.rights && meets a.badge badge

abbrev pub is_entry_with : Need → Layout → ℕ → ℕ → Allowance → Bool
is_entry_with need.Entry l part endpoint a = is_entry l part endpoint a
is_entry_with asked l part endpoint a = is_entry l part endpoint a && is_met_by asked a

-- an entry of the part for the endpoint has it
abbrev pub lets : Policy → Layout → ℕ → ℕ → Need → Bool
lets c l part endpoint asked = list_any (is_entry_with asked l part endpoint) c.allowances.items

-- ---- uses: no entry is of the endpoint; or some are, and none has the right; or some have the right, and none of these the badge

-- a right that no entry has
abbrev pub exceeds : Policy → Layout → PartUse → ℕ → Bool
exceeds c l u right = has_right right u.rights && not (lets_ever c l u.part u.endpoint right)

-- a right that entries have, and none of them with this badge
abbrev pub is_stray_right : Policy → Layout → PartUse → ℕ → Bool
is_stray_right c l u right =
    has_right right u.rights && (lets_ever c l u.part u.endpoint right && not (lets_with c l u.part u.endpoint u.badge.0 right))

abbrev pub needs_entry : Policy → Layout → PartUse → Bool
needs_entry c l u = not (is_own_endpoint c l u.part u.endpoint)

-- no entry of the part's groups is of the endpoint of a use, which is none of their own
abbrev pub is_unlisted : Policy → Layout → PartUse → Bool
is_unlisted c l u = needs_entry c l u && not (has_entry c l u.part u.endpoint)

abbrev pub is_listed : Policy → Layout → PartUse → Bool
is_listed c l u = needs_entry c l u && has_entry c l u.part u.endpoint

-- entries are of the endpoint, and the use has a right that none of them has
abbrev pub has_right_too_much : Policy → Layout → PartUse → Bool
has_right_too_much c l u =
    is_listed c l u && (exceeds c l u write_bit || (exceeds c l u read_bit || (exceeds c l u grant_bit || exceeds c l u grant_reply_bit)))

abbrev pub has_no_right : PartUse → Bool
has_no_right u =
    not (has_right write_bit u.rights) && (not (has_right read_bit u.rights)
    && (not (has_right grant_bit u.rights) && not (has_right grant_reply_bit u.rights)))

-- without any right: no entry has the badge
abbrev pub strays_somehow : Policy → Layout → PartUse → Bool
strays_somehow c l u =
    is_stray_right c l u write_bit || (is_stray_right c l u read_bit || (is_stray_right c l u grant_bit || (is_stray_right c l u grant_reply_bit
    || (has_no_right u && not (lets_badge c l u.part u.endpoint u.badge.0)))))

-- entries are of the endpoint, and of those with a right of the use none has its badge
abbrev pub has_other_badge : Policy → Layout → PartUse → Bool
has_other_badge c l u = is_listed c l u && strays_somehow c l u

-- ---- trusted threads: a part has the control block of one

abbrev pub hold_in : ℕ → Option ℕ → Option Hold
hold_in thread part = option_map (λ i. record { part = i; thread = thread }) part

-- a part has the control block of the trusted thread
abbrev pub hold_of : Layout → Member → Option Hold
hold_of l m = hold_in m.thread (part_at l.memory.items m.thread)

-- ---- regions: one in a slot of a part lies in none of the part's own, and in no larger such one

abbrev pub is_region_own : Policy → Layout → HeldRegion → Bool
is_region_own c l r = is_own c l r.part r.base r.bits

-- a larger one of the part, which is none of its own, has the region in it
abbrev pub is_larger_around : Policy → Layout → HeldRegion → HeldRegion → Bool
is_larger_around c l r o =
    o.part == r.part && (nat_lt r.bits o.bits && (range_lies_within r.base r.bits o.base o.bits && not (is_region_own c l o)))

abbrev pub is_in_larger : Policy → Layout → HeldRegion → Bool
is_in_larger c l r = list_any (is_larger_around c l r) l.regions.items

-- the region lies in none of the part's own, and in no larger one that is to be written
abbrev pub is_region_amiss : Policy → Layout → HeldRegion → Bool
is_region_amiss c l r = not (is_region_own c l r) && not (is_in_larger c l r)

-- ---- threads that wait where no entry lets them

abbrev pub lets_send : Policy → Layout → ℕ → Waiting → Bool
lets_send c l part w = lets_with c l part w.endpoint w.badge write_bit

abbrev pub lets_wait : Policy → Layout → ℕ → Waiting → Bool
lets_wait c l part w = cond w.sends (lets_send c l part w) (lets_ever c l part w.endpoint read_bit)

abbrev pub is_wait_amiss_in : Policy → Layout → Waiting → Option ℕ → Bool
is_wait_amiss_in c l w None = false
is_wait_amiss_in c l w (Some part) = not (is_own_endpoint c l part w.endpoint) && not (lets_wait c l part w)

-- a thread of a part waits where no entry lets it, on an endpoint that is none of the part's own
abbrev pub is_wait_amiss : Policy → Layout → Waiting → Bool
is_wait_amiss c l w = is_wait_amiss_in c l w (part_at l.memory.items w.thread)
