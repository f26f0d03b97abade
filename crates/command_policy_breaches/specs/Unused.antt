-- What a policy allows and of which nothing is there.
use Rattle.std.specs.Prelude.{ℕ, ◌==◌, ◌&&◌, ◌||◌, Bool, not, cond, List, count_by}
use Rattle.std.specs.List.{list_any}
use Rattle.cap_core.specs.Rights.{write_bit, read_bit, grant_bit, grant_reply_bit}
use Rattle.kernel_abstract.specs.Decode.{has_right}
use Rattle.query_parts.specs.declared.listed.PartUse.{PartUse}
use Rattle.query_parts.specs.Listed.{part_at}
use Rattle.setup_policy.specs.Entries.{sender_entry}
use Rattle.setup_policy.specs.declared.policy.Allowance.{Allowance}
use Rattle.command_policy_breaches.specs.declared.held.Home.{Home}
use Rattle.command_policy_breaches.specs.declared.held.HeldRegion.{HeldRegion}
use Rattle.command_policy_breaches.specs.declared.held.Layout.{Layout}
use Rattle.setup_policy.specs.declared.policy.Member.{Member}
use Rattle.setup_policy.specs.declared.policy.OwnRegion.{OwnRegion}
use Rattle.setup_policy.specs.declared.policy.Policy.{Policy}
use Rattle.setup_policy.specs.declared.policy.PolicyWay.{PolicyWay}
use Rattle.command_policy_breaches.specs.declared.held.Waiting.{Waiting}
use Rattle.command_policy_breaches.specs.Breaches.{range_lies_within}
pub use Rattle.command_policy_breaches.specs.Sides.{is_in_part}
use Rattle.command_policy_breaches.specs.Sides.{is_found_home}
use Rattle.command_policy_breaches.specs.Ways.{is_receive_of, is_send_of}

-- two badges have one in common, where 0 is any
abbrev pub cross : ℕ → ℕ → Bool
cross one other = one == 0 || (other == 0 || one == other)

-- ---- ways

-- the endpoint lies in the memory of a part of the group
abbrev pub group_owns : Layout → ℕ → ℕ → Bool
group_owns l actor endpoint = is_found_home l.homes.items actor (part_at l.memory.items endpoint)

abbrev pub is_use_of_entry : Layout → ℕ → ℕ → ℕ → PartUse → Bool
is_use_of_entry l actor endpoint badge u = u.endpoint == endpoint && (cross badge u.badge.0 && is_in_part l u.part actor)

-- a use of the group has the right
abbrev pub is_used : Layout → ℕ → ℕ → ℕ → ℕ → Bool
is_used l actor endpoint badge right =
    list_any (λ (u : PartUse). is_use_of_entry l actor endpoint badge u && has_right right u.rights) l.uses.items

-- a thread in a part of the group waits there
abbrev pub is_wait_of : Layout → ℕ → ℕ → Waiting → Bool
is_wait_of l actor endpoint w = w.endpoint == endpoint && is_found_home l.homes.items actor (part_at l.memory.items w.thread)

abbrev pub sends_by_wait : Layout → ℕ → ℕ → ℕ → Bool
sends_by_wait l actor endpoint badge =
    list_any (λ (w : Waiting). w.sends && (cross badge w.badge && is_wait_of l actor endpoint w)) l.waits.items

abbrev pub hears_by_wait : Layout → ℕ → ℕ → Bool
hears_by_wait l actor endpoint = list_any (λ (w : Waiting). not w.sends && is_wait_of l actor endpoint w) l.waits.items

abbrev pub group_sends : Layout → ℕ → ℕ → ℕ → Bool
group_sends l actor endpoint badge =
    group_owns l actor endpoint || (is_used l actor endpoint badge write_bit || sends_by_wait l actor endpoint badge)

abbrev pub group_hears : Layout → ℕ → ℕ → Bool
group_hears l actor endpoint = group_owns l actor endpoint || (is_used l actor endpoint 0 read_bit || hears_by_wait l actor endpoint)

abbrev pub is_trusted_actor : List Member → ℕ → Bool
is_trusted_actor trusted actor = list_any (λ (m : Member). m.actor == actor) trusted

abbrev pub waits_with_badge : Layout → ℕ → ℕ → ℕ → Bool
waits_with_badge l thread endpoint badge = list_any (λ (w : Waiting). is_send_of thread endpoint w && cross badge w.badge) l.waits.items

abbrev pub member_sends : Layout → ℕ → ℕ → ℕ → Member → Bool
member_sends l actor endpoint badge m = m.actor == actor && waits_with_badge l m.thread endpoint badge

abbrev pub member_hears : Layout → ℕ → ℕ → Member → Bool
member_hears l actor endpoint m = m.actor == actor && list_any (is_receive_of m.thread endpoint) l.waits.items

-- a thread that is trusted to send may send; of another that is trusted, a send waits
abbrev pub thread_sends : Policy → Layout → ℕ → ℕ → ℕ → Bool
thread_sends c l actor endpoint badge =
    is_trusted_actor c.messages.items actor || list_any (member_sends l actor endpoint badge) c.silent.items

abbrev pub thread_hears : Policy → Layout → ℕ → ℕ → Bool
thread_hears c l actor endpoint = is_trusted_actor c.messages.items actor || list_any (member_hears l actor endpoint) c.silent.items

-- something of the sender may be sent by the endpoint with the badge, and the receiver may receive there
abbrev pub is_way_used : Policy → Layout → PolicyWay → Bool
is_way_used c l w =
    (group_sends l w.from w.endpoint w.badge || thread_sends c l w.from w.endpoint w.badge)
    && (group_hears l w.to w.endpoint || thread_hears c l w.to w.endpoint)

-- ---- rights that nothing has

-- the entry has the right, and by it a thread in a part of its group waits: by Read to receive there, by Write to send with a badge that
-- the entry lets
abbrev pub waits_with : Layout → Allowance → ℕ → Bool
waits_with l a right =
    has_right right a.rights
    && cond (right == read_bit) (hears_by_wait l a.actor a.endpoint) (right == write_bit && sends_by_wait l a.actor a.endpoint a.badge)

-- an entry has a right that nothing of its group has, and by which none of its threads waits
abbrev pub is_idle : Layout → Allowance → ℕ → Bool
is_idle l a right = has_right right a.rights && (not (is_used l a.actor a.endpoint a.badge right) && not (waits_with l a right))

abbrev pub has_idle_behind_write : Layout → Allowance → Bool
has_idle_behind_write l a = is_idle l a read_bit || (is_idle l a grant_bit || is_idle l a grant_reply_bit)

abbrev pub is_group : Policy → ℕ → Bool
is_group c actor = list_any (λ g. g == actor) c.groups.items

-- a way that is used has a right beside Write that nothing of its sender has
abbrev pub has_way_idle_right : Policy → Layout → PolicyWay → Bool
has_way_idle_right c l w =
    is_way_used c l w && (is_group c w.from && (not (group_owns l w.from w.endpoint) && has_idle_behind_write l (sender_entry w)))

-- ---- uses

-- a part of the entry's group has a use of the endpoint, with a badge that the entry lets
abbrev pub has_use_of_entry : Layout → Allowance → Bool
has_use_of_entry l a = list_any (is_use_of_entry l a.actor a.endpoint a.badge) l.uses.items

-- a part of the entry's group has a use of the endpoint with a badge that the entry lets, or a thread in it waits by a right of the entry
abbrev pub is_entry_used : Layout → Allowance → Bool
is_entry_used l a = has_use_of_entry l a || (waits_with l a read_bit || waits_with l a write_bit)

-- an entry that is used has a right that nothing of its group has, and by which none of its threads waits
abbrev pub has_use_idle_right : Layout → Allowance → Bool
has_use_idle_right l a = is_entry_used l a && (is_idle l a write_bit || has_idle_behind_write l a)

-- ---- regions and groups

abbrev pub is_region_of : Layout → OwnRegion → HeldRegion → Bool
is_region_of l own r = range_lies_within r.base r.bits own.base own.bits && is_in_part l r.part own.group

-- a slot of the group's parts holds a region that lies in this one
abbrev pub is_region_used : Layout → OwnRegion → Bool
is_region_used l own = list_any (is_region_of l own) l.regions.items

-- how many parts the threads of a group are, if those that Grant joins count as one; `homes` are those of the joined parts
abbrev pub count_of_parts : List Home → ℕ → ℕ
count_of_parts homes group = count_by (λ (h : Home). h.group == group) homes
