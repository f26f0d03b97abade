-- What can pass between parts of different numbers, and between a part and a trusted thread that waits; and what of it no way lets
-- pass.
use Rattle.std.specs.Prelude.{ℕ, ◌==◌, ◌&&◌, ◌||◌, Bool, true, false, not, cond, is_some, List, [], ◌++◌, map, filter}
use Rattle.std.specs.List.{list_any, flat_map}
use Rattle.query_parts.specs.declared.listed.PartUse.{PartUse}
use Rattle.query_parts.specs.Listed.{part_at}
use Rattle.setup_report.specs.State.{rising}
use Rattle.command_parts.specs.Text.{is_part}
use Rattle.command_policy_breaches.specs.declared.held.Block.{Block}
use Rattle.command_policy_breaches.specs.declared.held.Home.{Home}
use Rattle.command_policy_breaches.specs.declared.held.Layout.{Layout}
use Rattle.setup_policy.specs.declared.policy.Member.{Member}
use Rattle.setup_policy.specs.declared.policy.Policy.{Policy}
use Rattle.setup_policy.specs.declared.policy.PolicyWay.{PolicyWay}
use Rattle.command_policy_breaches.specs.declared.held.Waiting.{Waiting}
use Rattle.command_policy_breaches.specs.declared.ways.End.{End}
use Rattle.command_policy_breaches.specs.declared.ways.Sending.{Sending}
use Rattle.command_policy_breaches.specs.declared.ways.Passage.{Passage}
use Rattle.command_policy_breaches.specs.Breaches.{meets}
pub use Rattle.command_policy_breaches.specs.Joins.{block_of_part}
use Rattle.command_policy_breaches.specs.Sides.{sent_badges, is_at_home, may_hear}

-- ---- who may send to an endpoint, with which badges

abbrev pub part_end : ℕ → End
part_end number = record { is_part = true; number = number }

abbrev pub thread_end : ℕ → End
thread_end number = record { is_part = false; number = number }

abbrev pub sending : End → ℕ → ℕ → Sending
sending end part badge = record { end = end; part = part; badge = badge }

abbrev pub part_sendings : Layout → List Block → ℕ → ℕ → List Sending
part_sendings l bs endpoint part = map (sending (part_end (block_of_part bs part)) part) (sent_badges l part endpoint)

-- a trusted thread is in no part
abbrev pub is_in_no_part : Layout → Member → Bool
is_in_no_part l m = not (is_some (part_at l.memory.items m.thread))

abbrev pub is_send_of : ℕ → ℕ → Waiting → Bool
is_send_of thread endpoint w = w.sends && (w.endpoint == endpoint && w.thread == thread)

abbrev pub waiting_send : ℕ → Waiting → Sending
waiting_send actor w = sending (thread_end actor) 0 w.badge

-- what a thread that is trusted to make no more calls sends, where it waits to
abbrev pub thread_sendings : Layout → ℕ → Member → List Sending
thread_sendings l endpoint m = cond (is_in_no_part l m) (map (waiting_send m.actor) (filter (is_send_of m.thread endpoint) l.waits.items)) []

abbrev pub sendings_to : Policy → Layout → List Block → ℕ → List Sending
sendings_to c l bs endpoint = flat_map (part_sendings l bs endpoint) l.parts.items ++ flat_map (thread_sendings l endpoint) c.silent.items

-- ---- who may receive there

abbrev pub hears_on : Layout → ℕ → ℕ → Bool
hears_on l endpoint part = may_hear l part endpoint

abbrev pub is_receive_of : ℕ → ℕ → Waiting → Bool
is_receive_of thread endpoint w = not w.sends && (w.endpoint == endpoint && w.thread == thread)

abbrev pub hears_as_thread : Layout → ℕ → Member → Bool
hears_as_thread l endpoint m = is_in_no_part l m && list_any (is_receive_of m.thread endpoint) l.waits.items

abbrev pub hearers_on : Policy → Layout → List Block → ℕ → List End
hearers_on c l bs endpoint =
    map part_end (rising (map (block_of_part bs) (filter (hears_on l endpoint) l.parts.items)))
    ++ map (λ (m : Member). thread_end m.actor) (filter (hears_as_thread l endpoint) c.silent.items)

-- ---- what can pass

-- between parts of different numbers, and between a part and a thread
abbrev pub is_apart : End → End → Bool
is_apart from to = cond from.is_part (not to.is_part || not (from.number == to.number)) to.is_part

abbrev pub passage : Sending → ℕ → End → Passage
passage s endpoint to = record { from = s.end; part = s.part; endpoint = endpoint; badge = s.badge; to = to }

abbrev pub passages_of : List End → ℕ → Sending → List Passage
passages_of hearers endpoint s = map (passage s endpoint) (filter (is_apart s.end) hearers)

abbrev pub passages_by : Policy → Layout → List Block → ℕ → List Passage
passages_by c l bs endpoint = flat_map (passages_of (hearers_on c l bs endpoint) endpoint) (sendings_to c l bs endpoint)

-- what can pass by each live endpoint: between parts of different numbers, or between a part and a trusted thread that waits
abbrev pub passages : Policy → Layout → List Block → List Passage
passages c l bs = flat_map (passages_by c l bs) l.endpoints.items

-- both ends of a passage are parts
abbrev pub is_between_parts : Passage → Bool
is_between_parts w = w.from.is_part && w.to.is_part

-- ---- what no way lets pass: `homes` are those of the joined parts

-- a group has a thread in one of the parts, or the actor is the thread
abbrev pub is_end_at : List Home → End → ℕ → Bool
is_end_at homes end actor = cond end.is_part (is_at_home homes end.number actor) (end.number == actor)

-- the home of a group at one end, which has a thread at the other, too
abbrev pub is_home_of_both : List Home → Passage → Home → Bool
is_home_of_both homes w h = w.from.is_part && (h.part == w.from.number && (w.to.is_part && is_at_home homes w.to.number h.group))

abbrev pub have_one_in_common : List Home → Passage → Bool
have_one_in_common homes w = list_any (is_home_of_both homes w) homes

abbrev pub begins_there : List Home → Passage → PolicyWay → Bool
begins_there homes w way = way.endpoint == w.endpoint && is_end_at homes w.from way.from

-- a way is between the ends of a passage, by its endpoint
abbrev pub is_way_between : List Home → Passage → PolicyWay → Bool
is_way_between homes w way = begins_there homes w way && is_end_at homes w.to way.to

-- a way says so, with this badge or any
abbrev pub is_let : Policy → List Home → Passage → Bool
is_let c homes w = list_any (λ (way : PolicyWay). is_way_between homes w way && meets way.badge w.badge) c.ways.items

abbrev pub is_let_elsewhere : Policy → List Home → Passage → Bool
is_let_elsewhere c homes w = list_any (λ (way : PolicyWay). begins_there homes w way && meets way.badge w.badge) c.ways.items

abbrev pub has_way : Policy → List Home → Passage → Bool
has_way c homes w = list_any (is_way_between homes w) c.ways.items

abbrev pub is_use_of_passage : Passage → PartUse → Bool
is_use_of_passage w u = u.part == w.part && (u.endpoint == w.endpoint && u.badge.0 == w.badge)

abbrev pub is_wait_of_passage : Layout → Passage → Waiting → Bool
is_wait_of_passage l w wait =
    wait.sends && (wait.endpoint == w.endpoint && (wait.badge == w.badge && is_part w.part (part_at l.memory.items wait.thread)))

-- its badge is told already, of one of these uses or of these sends that wait
abbrev pub is_passage_told : Layout → List PartUse → List Waiting → Passage → Bool
is_passage_told l uses waits w = list_any (is_use_of_passage w) uses || list_any (is_wait_of_passage l w) waits

-- the badge alone is amiss, and told already
abbrev pub is_badge_told : Policy → Layout → List Home → List PartUse → List Waiting → Passage → Bool
is_badge_told c l homes uses waits w = is_passage_told l uses waits w && (has_way c homes w && not (is_let_elsewhere c homes w))

-- no way lets the passage be, its ends have no group in common, and its badge is not written already
abbrev pub is_passage_amiss : Policy → Layout → List Home → List PartUse → List Waiting → Passage → Bool
is_passage_amiss c l homes uses waits w =
    not (have_one_in_common homes w) && (not (is_let c homes w) && not (is_badge_told c l homes uses waits w))
