-- What is told of a layout that is held to a policy, as text.
use Rattle.std.specs.Prelude.{codes, ℕ, ◌==◌, ◌&&◌, ◌||◌, Bool, false, not, cond, List, ◌++◌, map, filter}
use Rattle.std.specs.List.{flat_map}
use Rattle.std.specs.Fmt.{decimal}
use Rattle.cap_core.specs.Rights.{write_bit, read_bit, grant_bit, grant_reply_bit}
use Rattle.kernel_abstract.specs.Decode.{has_right}
use Rattle.query_parts.specs.declared.listed.PartUse.{PartUse}
use Rattle.setup_report.specs.State.{rising}
use Rattle.setup_report.specs.Text.{rights_text}
use Rattle.command_parts.specs.declared.takes.Take.{Take}
use Rattle.command_parts.specs.Text.{any_badge_text as badge_told}
use Rattle.command_policy_breaches.specs.declared.breaches.Hold.{Hold}
use Rattle.command_policy_breaches.specs.declared.joining.Join.{Join}
use Rattle.command_policy_text.specs.declared.names.Letters.{Letters}
use Rattle.setup_policy.specs.declared.policy.Allowance.{Allowance}
use Rattle.command_policy_breaches.specs.declared.held.Home.{Home}
use Rattle.command_policy_breaches.specs.declared.held.HeldRegion.{HeldRegion}
use Rattle.setup_policy.specs.declared.policy.Labels.{Labels}
use Rattle.command_policy_breaches.specs.declared.held.Layout.{Layout}
use Rattle.setup_policy.specs.declared.policy.Member.{Member}
use Rattle.setup_policy.specs.declared.policy.OwnRegion.{OwnRegion}
use Rattle.setup_policy.specs.declared.policy.Policy.{Policy}
use Rattle.setup_policy.specs.declared.policy.PolicyTake.{PolicyTake}
use Rattle.setup_policy.specs.declared.policy.PolicyWay.{PolicyWay}
use Rattle.command_policy_breaches.specs.declared.held.Waiting.{Waiting}
use Rattle.command_policy_text.specs.declared.told.Told.{Told}
use Rattle.command_policy_text.specs.declared.told.Told.TheVariants.{Silent, Messages, Group, Joined, Grant, Thread, Region, Use, Badge, Right, Way, Waits, Taken, UnusedWay, UnusedUse, IdleInWay, IdleInUse, UnusedRegion, UnusedGroup, UnusedTake}
use Rattle.command_policy_breaches.specs.declared.ways.End.{End}
use Rattle.command_policy_breaches.specs.declared.ways.Passage.{Passage}
use Rattle.command_policy_breaches.specs.Breaches.{is_entry, lets_ever, is_stray_right}
pub use Rattle.command_policy_text.specs.Names.{actor_name}
use Rattle.command_policy_text.specs.Names.{joined_names, letters_text, numbers_with_commas, labelled_text, part_label}
use Rattle.command_policy_text.specs.Order.{in_order}
use Rattle.command_policy_breaches.specs.Sides.{groups_at}
use Rattle.command_policy_breaches.specs.Unused.{count_of_parts, is_idle}
use Rattle.setup_policy.specs.Entries.{sender_entry}

-- ---- who there is

abbrev pub labelled_thread : Labels → ℕ → List ℕ
labelled_thread n thread = labelled_text n.threads.items thread

abbrev pub labelled_endpoint : Labels → ℕ → List ℕ
labelled_endpoint n endpoint = labelled_text n.endpoints.items endpoint

abbrev pub word_behind : List ℕ → List ℕ
word_behind word = codes " " ++ word

abbrev pub group_text : Policy → Labels → ℕ → List ℕ
group_text c n group =
    (codes "group " ++ (actor_name c group ++ codes " threads"))
    ++ flat_map word_behind (in_order (map (λ (m : Member). labelled_thread n m.thread) (filter (λ (m : Member). m.actor == group) c.members.items)))

-- ---- breaches

abbrev pub joined_text : Policy → Layout → ℕ → List ℕ
joined_text c l part = codes "breach joined" ++ flat_map word_behind (in_order (map (actor_name c) (groups_at l.homes.items part)))

abbrev pub grant_text : Policy → Layout → Labels → Join → List ℕ
grant_text c l n j =
    codes "breach grant " ++ (part_label c l j.from ++ (codes " -> " ++ (labelled_endpoint n j.endpoint ++ (codes " -> " ++ part_label c l j.to))))

abbrev pub hold_text : Policy → Layout → Labels → Hold → List ℕ
hold_text c l n h = codes "breach thread " ++ (part_label c l h.part ++ (codes " " ++ labelled_thread n h.thread))

abbrev pub region_text : Policy → Layout → Labels → HeldRegion → List ℕ
region_text c l n r =
    codes "breach region " ++ (part_label c l r.part ++ (codes " " ++ (labelled_text n.regions.items r.base ++ (codes " bits " ++ decimal r.bits))))

-- a capability to an endpoint, with its badge and its rights
abbrev pub capability_text : Labels → PartUse → List ℕ
capability_text n u =
    labelled_endpoint n u.endpoint ++ (codes " badge " ++ (badge_told u.badge.0 ++ (codes " rights " ++ rights_text u.rights)))

abbrev pub use_text : Policy → Layout → Labels → PartUse → List ℕ
use_text c l n u = codes "breach use " ++ (part_label c l u.part ++ (codes " " ++ capability_text n u))

-- the badges of the entries that have a right of the use, where none has its badge
abbrev pub has_strayed : Policy → Layout → PartUse → ℕ → Allowance → Bool
has_strayed c l u right a = has_right right a.rights && is_stray_right c l u right

-- an entry has a badge that stands in place of that of a use
abbrev pub is_other_badge : Policy → Layout → PartUse → Allowance → Bool
is_other_badge c l u a =
    is_entry l u.part u.endpoint a && (not (a.badge == 0)
    && (u.rights.0 == 0 || (has_strayed c l u write_bit a || (has_strayed c l u read_bit a || (has_strayed c l u grant_bit a || has_strayed c l u grant_reply_bit a)))))

-- the badges that a part may have in place of that of a use, rising
abbrev pub allowed_badges : Policy → Layout → PartUse → List ℕ
allowed_badges c l u = rising (map (λ (a : Allowance). a.badge) (filter (is_other_badge c l u) c.allowances.items))

abbrev pub badge_breach_text : Policy → Layout → Labels → PartUse → List ℕ
badge_breach_text c l n u =
    codes "breach badge " ++ (part_label c l u.part ++ (codes " " ++ (capability_text n u ++ (codes " allowed " ++ numbers_with_commas (allowed_badges c l u)))))

-- the rights that a part may have to the endpoint of a use, whatever its badge
abbrev pub allowed_rights : Policy → Layout → PartUse → Letters
allowed_rights c l u = record {
  write = lets_ever c l u.part u.endpoint write_bit;
  read = lets_ever c l u.part u.endpoint read_bit;
  grant = lets_ever c l u.part u.endpoint grant_bit;
  grant_reply = lets_ever c l u.part u.endpoint grant_reply_bit;
}

abbrev pub right_breach_text : Policy → Layout → Labels → PartUse → List ℕ
right_breach_text c l n u =
    codes "breach right " ++ (part_label c l u.part ++ (codes " " ++ (capability_text n u ++ (codes " allowed " ++ letters_text (allowed_rights c l u)))))

-- the groups of an end of a passage, or the trusted thread
abbrev pub end_label : Policy → List Home → End → List ℕ
end_label c hs end = cond end.is_part (joined_names c (groups_at hs end.number)) (actor_name c end.number)

abbrev pub passage_text : Policy → Labels → List Home → Passage → List ℕ
passage_text c n hs w =
    codes "breach way " ++ (end_label c hs w.from ++ (codes " -> " ++ (labelled_endpoint n w.endpoint ++ (codes " badge " ++ (badge_told w.badge
    ++ (codes " -> " ++ end_label c hs w.to))))))

abbrev pub wait_text : Labels → Waiting → List ℕ
wait_text n w =
    cond w.sends
    (codes "breach waiting " ++ (labelled_thread n w.thread ++ (codes " -> " ++ (labelled_endpoint n w.endpoint ++ (codes " badge " ++ decimal w.badge)))))
    (codes "breach waiting " ++ (labelled_endpoint n w.endpoint ++ (codes " -> " ++ labelled_thread n w.thread)))

-- a part, and another from which it takes
abbrev pub take_text : Policy → Layout → Take → List ℕ
take_text c l t = codes "breach take " ++ (part_label c l t.by ++ (codes " -> " ++ part_label c l t.of))

-- ---- what is allowed and not there

abbrev pub way_text : Policy → Labels → PolicyWay → List ℕ
way_text c n w =
    codes "way " ++ (actor_name c w.from ++ (codes " -> " ++ (labelled_endpoint n w.endpoint ++ (codes " badge " ++ (badge_told w.badge
    ++ (codes " -> " ++ actor_name c w.to))))))

abbrev pub unused_entry_text : Policy → Labels → Allowance → List ℕ
unused_entry_text c n a =
    codes "use " ++ (actor_name c a.actor ++ (codes " " ++ (labelled_endpoint n a.endpoint ++ (codes " badge " ++ (badge_told a.badge
    ++ (codes " rights " ++ rights_text a.rights))))))

abbrev pub idle_behind_write : Layout → Allowance → Letters
idle_behind_write l a =
    record { write = false; read = is_idle l a read_bit; grant = is_idle l a grant_bit; grant_reply = is_idle l a grant_reply_bit }

abbrev pub idle : Layout → Allowance → Letters
idle l a = record {
  write = is_idle l a write_bit;
  read = is_idle l a read_bit;
  grant = is_idle l a grant_bit;
  grant_reply = is_idle l a grant_reply_bit;
}

abbrev pub idle_way_text : Policy → Layout → Labels → PolicyWay → List ℕ
idle_way_text c l n w = codes "unused right " ++ (letters_text (idle_behind_write l (sender_entry w)) ++ (codes " of " ++ way_text c n w))

abbrev pub idle_use_text : Policy → Layout → Labels → Allowance → List ℕ
idle_use_text c l n a = codes "unused right " ++ (letters_text (idle l a) ++ (codes " of " ++ unused_entry_text c n a))

abbrev pub unused_region_text : Policy → Labels → OwnRegion → List ℕ
unused_region_text c n r =
    codes "unused region " ++ (actor_name c r.group ++ (codes " " ++ (labelled_text n.regions.items r.base ++ (codes " bits " ++ decimal r.bits))))

abbrev pub unused_group_text : Policy → List Home → ℕ → List ℕ
unused_group_text c hs group =
    codes "unused group " ++ (actor_name c group ++ (codes " is " ++ (decimal (count_of_parts hs group) ++ codes " parts")))

abbrev pub unused_take_text : Policy → PolicyTake → List ℕ
unused_take_text c t = codes "unused take " ++ (actor_name c t.from ++ (codes " -> " ++ actor_name c t.to))

-- ---- a line, without its end

-- the line of what is told
abbrev pub line_told : Policy → Layout → Labels → List Home → Told → List ℕ
line_told c l n hs (Silent thread) = codes "silent" ++ (codes " " ++ labelled_thread n thread)
line_told c l n hs (Messages thread) = codes "messages" ++ (codes " " ++ labelled_thread n thread)
line_told c l n hs (Group group) = group_text c n group
line_told c l n hs (Joined part) = joined_text c l part
line_told c l n hs (Grant join) = grant_text c l n join
line_told c l n hs (Thread hold) = hold_text c l n hold
line_told c l n hs (Region region) = region_text c l n region
line_told c l n hs (Use used) = use_text c l n used
line_told c l n hs (Badge used) = badge_breach_text c l n used
line_told c l n hs (Right used) = right_breach_text c l n used
line_told c l n hs (Way passage) = passage_text c n hs passage
line_told c l n hs (Waits wait) = wait_text n wait
line_told c l n hs (Taken take) = take_text c l take
line_told c l n hs (UnusedWay way) = codes "unused " ++ way_text c n way
line_told c l n hs (UnusedUse entry) = codes "unused " ++ unused_entry_text c n entry
line_told c l n hs (IdleInWay way) = idle_way_text c l n way
line_told c l n hs (IdleInUse entry) = idle_use_text c l n entry
line_told c l n hs (UnusedRegion own) = unused_region_text c n own
line_told c l n hs (UnusedGroup group) = unused_group_text c hs group
line_told c l n hs (UnusedTake take) = unused_take_text c take
