-- What parts can take of each other, by a revoke, and what of it no entry lets be.
use Rattle.std.specs.Prelude.{ℕ, ◌==◌, ◌&&◌, Bool, true, false, not, cond, List, [], filter}
use Rattle.std.specs.List.{list_any}
use Rattle.command_parts.specs.declared.takes.Take.{Take}
use Rattle.command_policy_breaches.specs.declared.held.Home.{Home}
use Rattle.command_policy_breaches.specs.declared.held.Layout.{Layout}
use Rattle.setup_policy.specs.declared.policy.Policy.{Policy}
use Rattle.setup_policy.specs.declared.policy.PolicyTake.{PolicyTake}
use Rattle.setup_policy.specs.declared.policy.PolicyVersion.{PolicyVersion}
use Rattle.setup_policy.specs.declared.policy.PolicyVersion.TheVariants.{One, Two}
use Rattle.command_policy_breaches.specs.Sides.{is_in_part}

-- policies say who may take from whom: from version 2 on
abbrev pub says_takes : PolicyVersion → Bool
says_takes One = false
says_takes Two = true

-- ---- takes that no entry lets be

-- the home of a group in the part that takes, which has a thread in the other part, too
abbrev pub is_home_in_both : Layout → Take → Home → Bool
is_home_in_both l t h = h.part == t.by && is_in_part l t.of h.group

-- threads of one group lie in both parts
abbrev pub have_group_in_common : Layout → Take → Bool
have_group_in_common l t = list_any (is_home_in_both l t) l.homes.items

-- an entry is from a group of the part that takes to one of the other part
abbrev pub is_take_of : Layout → Take → PolicyTake → Bool
is_take_of l t w = is_in_part l t.by w.from && is_in_part l t.of w.to

-- an entry lets the one part take from the other
abbrev pub is_take_let : Policy → Layout → Take → Bool
is_take_let c l t = list_any (is_take_of l t) c.takes.items

-- the parts have no group in common, and no entry lets the one take from the other
abbrev pub is_take_amiss : Policy → Layout → Take → Bool
is_take_amiss c l t = not (have_group_in_common l t) && not (is_take_let c l t)

-- the takes that no entry lets be; none in version 1, which says nothing of them
abbrev pub takes_amiss : Policy → Layout → List Take
takes_amiss c l = cond (says_takes c.version) (filter (is_take_amiss c l) l.takes.items) []

-- ---- entries of which nothing is there

-- a part of the group that an entry is from takes from one of the group that it is to
abbrev pub is_take_used : Layout → PolicyTake → Bool
is_take_used l w = list_any (λ (t : Take). is_take_of l t w) l.takes.items
