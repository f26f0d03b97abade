-- The kinds of lines: what is told of a layout, one kind after another.
use Rattle.std.specs.Prelude.{ℕ, nat_lt, not, List, [], ◌∷◌, ◌++◌, map, filter}
use Rattle.std.specs.List.{filter_map}
use Rattle.query_parts.specs.declared.listed.PartUse.{PartUse}
use Rattle.command_parts.specs.declared.takes.Take.{Take}
use Rattle.command_policy_breaches.specs.declared.breaches.Hold.{Hold}
use Rattle.command_policy_breaches.specs.declared.joining.Join.{Join}
use Rattle.setup_policy.specs.declared.policy.Allowance.{Allowance}
use Rattle.command_policy_breaches.specs.declared.held.Home.{Home}
use Rattle.command_policy_breaches.specs.declared.held.HeldRegion.{HeldRegion}
use Rattle.command_policy_breaches.specs.declared.held.Layout.{Layout}
use Rattle.setup_policy.specs.declared.policy.Member.{Member}
use Rattle.setup_policy.specs.declared.policy.OwnRegion.{OwnRegion}
use Rattle.setup_policy.specs.declared.policy.Policy.{Policy}
use Rattle.setup_policy.specs.declared.policy.PolicyTake.{PolicyTake}
use Rattle.setup_policy.specs.declared.policy.PolicyWay.{PolicyWay}
use Rattle.command_policy_breaches.specs.declared.held.Waiting.{Waiting}
use Rattle.command_policy_text.specs.declared.told.Told.{Told}
use Rattle.command_policy_text.specs.declared.told.Told.TheVariants.{Silent, Messages, Group, Joined, Grant, Thread, Region, Use, Badge, Right, Way, Waits, Taken, UnusedWay, UnusedUse, IdleInWay, IdleInUse, UnusedRegion, UnusedGroup, UnusedTake}
use Rattle.command_policy_breaches.specs.declared.ways.Passage.{Passage}
use Rattle.command_policy_breaches.specs.Breaches.{has_other_badge, has_right_too_much, hold_of, is_region_amiss, is_unlisted, is_wait_amiss}
use Rattle.command_policy_breaches.specs.Joins.{have_one_group, have_two_groups}
use Rattle.command_policy_breaches.specs.Takes.{is_take_used, takes_amiss}
use Rattle.command_policy_breaches.specs.Unused.{count_of_parts, has_use_idle_right, has_way_idle_right, is_entry_used, is_region_used, is_way_used}
use Rattle.command_policy_breaches.specs.Ways.{is_passage_amiss}

-- ---- who there is

-- the threads that are trusted to make no more calls
abbrev pub silent : Policy → List Told
silent c = map (λ (m : Member). Silent m.thread) c.silent.items

-- the threads that are trusted only to send and to receive
abbrev pub messages : Policy → List Told
messages c = map (λ (m : Member). Messages m.thread) c.messages.items

-- the groups of the policy
abbrev pub groups : Policy → List Told
groups c = map (λ (g : ℕ). Group g) c.groups.items

-- ---- breaches

-- the parts in which threads of two groups lie
abbrev pub joined_breaches : Layout → List Told
joined_breaches l = map (λ (i : ℕ). Joined i) (filter (λ part. have_two_groups l.homes.items part part) l.parts.items)

-- the joins that are not between two parts of one group
abbrev pub grants : Layout → List Join → List Told
grants l js = map (λ (j : Join). Grant j) (filter (λ (j : Join). not (have_one_group l.homes.items j.from j.to)) js)

-- the trusted threads whose control blocks parts have
abbrev pub thread_breaches : Policy → Layout → List Told
thread_breaches c l = map (λ (h : Hold). Thread h) (filter_map (hold_of l) c.silent.items ++ filter_map (hold_of l) c.messages.items)

-- the untyped regions in slots of parts that are none of their own
abbrev pub regions : Policy → Layout → List Told
regions c l = map (λ (r : HeldRegion). Region r) (filter (is_region_amiss c l) l.regions.items)

-- the uses of endpoints of which the part has no entry
abbrev pub uses : Policy → Layout → List Told
uses c l = map (λ (u : PartUse). Use u) (filter (is_unlisted c l) l.uses.items)

-- the uses with another badge than the part's entries with their rights
abbrev pub badge_breaches : Policy → Layout → List Told
badge_breaches c l = map (λ (u : PartUse). Badge u) (filter (has_other_badge c l) l.uses.items)

-- the uses with a right that none of the part's entries has
abbrev pub right_breaches : Policy → Layout → List Told
right_breaches c l = map (λ (u : PartUse). Right u) (filter (has_right_too_much c l) l.uses.items)

-- the uses and the waits whose badges are told already
abbrev pub uses_told : Policy → Layout → List PartUse
uses_told c l = filter (has_other_badge c l) l.uses.items ++ filter (has_right_too_much c l) l.uses.items

abbrev pub waits_told : Policy → Layout → List Waiting
waits_told c l = filter (is_wait_amiss c l) l.waits.items

abbrev pub untold_passages : Policy → Layout → List Home → List Passage → List Passage
untold_passages c l hs ws = filter (is_passage_amiss c l hs (uses_told c l) (waits_told c l)) ws

-- the passages that no way lets be
abbrev pub passage_breaches : Policy → Layout → List Home → List Passage → List Told
passage_breaches c l hs ws = map (λ (w : Passage). Way w) (untold_passages c l hs ws)

-- the threads that wait where no entry lets them
abbrev pub waiting_breaches : Policy → Layout → List Told
waiting_breaches c l = map (λ (w : Waiting). Waits w) (waits_told c l)

-- what parts take from others, and no entry lets them
abbrev pub take_breaches : Policy → Layout → List Told
take_breaches c l = map (λ (t : Take). Taken t) (takes_amiss c l)

-- all of them, but calls: kind by kind
abbrev pub breach_kinds : Policy → Layout → List Home → List Join → List Passage → List (List Told)
breach_kinds c l hs js ws =
    joined_breaches l ∷ grants l js ∷ thread_breaches c l ∷ regions c l ∷ uses c l ∷ badge_breaches c l ∷ right_breaches c l
    ∷ passage_breaches c l hs ws ∷ waiting_breaches c l ∷ take_breaches c l ∷ []

-- ---- what is allowed and not there

-- the ways that are not used
abbrev pub idle_ways : Policy → Layout → List Told
idle_ways c l = map (λ (w : PolicyWay). UnusedWay w) (filter (λ (w : PolicyWay). not (is_way_used c l w)) c.ways.items)

-- the entries of `use` that are not used
abbrev pub idle_uses : Policy → Layout → List Told
idle_uses c l = map (λ (a : Allowance). UnusedUse a) (filter (λ (a : Allowance). not (is_entry_used l a)) c.uses.items)

abbrev pub idle_in_ways : Policy → Layout → List Told
idle_in_ways c l = map (λ (w : PolicyWay). IdleInWay w) (filter (has_way_idle_right c l) c.ways.items)

abbrev pub idle_in_uses : Policy → Layout → List Told
idle_in_uses c l = map (λ (a : Allowance). IdleInUse a) (filter (has_use_idle_right l) c.uses.items)

-- the ways and the entries of `use` that have rights which nothing has
abbrev pub idle_rights : Policy → Layout → List Told
idle_rights c l = idle_in_ways c l ++ idle_in_uses c l

-- the regions of groups that are not used
abbrev pub idle_regions : Policy → Layout → List Told
idle_regions c l = map (λ (r : OwnRegion). UnusedRegion r) (filter (λ (r : OwnRegion). not (is_region_used l r)) c.regions.items)

-- the groups whose threads are several parts
abbrev pub idle_groups : Policy → List Home → List Told
idle_groups c hs = map (λ (g : ℕ). UnusedGroup g) (filter (λ g. nat_lt 1 (count_of_parts hs g)) c.groups.items)

-- the takes that are not used
abbrev pub idle_takes : Policy → Layout → List Told
idle_takes c l = map (λ (t : PolicyTake). UnusedTake t) (filter (λ (t : PolicyTake). not (is_take_used l t)) c.takes.items)
