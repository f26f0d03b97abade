-- What a policy file means in a state: its words stand for the threads, the endpoints and the regions of the policy.
use Rattle.std.specs.Prelude.{◌≡◌, ℕ, ◌+◌, ◌++◌, ◌==◌, ◌||◌, Bool, true, not, nat_lt, cond, List, [], ◌∷◌, length, map, Option, Some, None, option_and_then, option_map, position, string_bytes, String}
use Rattle.std.specs.Str.{bytes_eq}
use Rattle.std.specs.declared.alloc.Global.{Global}
use Rattle.std.specs.List.{list_all, list_any, range_with_len}
use Rattle.cap_core.specs.declared.profile.ProfileName.{ProfileName}
use Rattle.cap_core.specs.declared.capability.Cap.{Cap}
use Rattle.cap_core.specs.declared.capability.Cap.TheVariants.{Tcb}
use Rattle.kernel_abstract.specs.Plan.{Plan}
use Rattle.kernel_abstract.specs.Shown.{Shown}
use Rattle.setup_values.specs.Names.{Names}
use Rattle.setup_report.specs.State.{Derived, slot_rows}
use Rattle.setup_policy.specs.declared.policy.Allowance.{Allowance}
use Rattle.setup_policy.specs.declared.policy.Member.{Member}
use Rattle.setup_policy.specs.declared.policy.OwnRegion.{OwnRegion}
use Rattle.setup_policy.specs.declared.policy.Policy.{Policy}
use Rattle.setup_policy.specs.declared.policy.PolicyTake.{PolicyTake}
use Rattle.setup_policy.specs.declared.policy.PolicyWay.{PolicyWay}
use Rattle.setup_policy.specs.Entries.{allowances_of}
use Rattle.setup_policy_file.specs.declared.file.Word.{Word}
use Rattle.setup_policy_file.specs.declared.file.GroupEntry.{GroupEntry}
use Rattle.setup_policy_file.specs.declared.file.WayEntry.{WayEntry}
use Rattle.setup_policy_file.specs.declared.file.UseEntry.{UseEntry}
use Rattle.setup_policy_file.specs.declared.file.TakeEntry.{TakeEntry}
use Rattle.setup_policy_file.specs.declared.file.PolicyFile.{PolicyFile}
use Rattle.setup_policy_file.specs.Values.{all_of, and_more}
use Rattle.setup_policy_meaning.specs.Meant.{thread_meant, endpoint_meant, word_name}
use Rattle.setup_policy_meaning.specs.Regions.{region_meant}

-- ---- groups and trusted threads, each with its number

-- what elements are read as, where each has a number, from this one on; none if one of them is not taken
abbrev pub all_from : {A B : Type 0} → (ℕ → A → Option B) → ℕ → List A → Option (List B)
all_from read n [] = Some []
all_from read n (x ∷ xs) = and_more (read n x) (all_from read (n + 1) xs)

-- a list, and behind it another one, where there is one
abbrev pub in_front : {A : Type 0} → List A → Option (List A) → Option (List A)
in_front front None = None
in_front front (Some xs) = Some (front ++ xs)

abbrev pub joined : {A : Type 0} → Option (List A) → Option (List A) → Option (List A)
joined None more = None
joined (Some front) more = in_front front more

-- what is read of some words of each group, which have the numbers from this one on
abbrev pub of_groups : {B : Type 0} → (ℕ → Word → Option B) → (GroupEntry → List Word) → ℕ → List GroupEntry → Option (List B)
of_groups read words n [] = Some []
of_groups read words n (g ∷ gs) = joined (all_of (read n) (words g)) (of_groups read words (n + 1) gs)

abbrev pub member : ℕ → ℕ → Member
member actor thread = record { thread = thread; actor = actor }

abbrev pub member_meant : ProfileName → Names → Plan → Shown → ℕ → Word → Option Member
member_meant p names plan v actor w = option_map (member actor) (thread_meant p names plan v w)

-- the words of a group's threads, and of its regions
abbrev pub thread_words : GroupEntry → List Word
thread_words g = g.threads.items

abbrev pub region_words : GroupEntry → List Word
region_words g = g.regions.items

-- the threads of groups
abbrev pub members_meant : ProfileName → Names → Plan → Shown → List GroupEntry → Option (List Member)
members_meant p names plan v groups = of_groups (member_meant p names plan v) thread_words 0 groups

-- the regions of groups
abbrev pub own : ℕ → ℕ × ℕ → OwnRegion
own group region = record { group = group; base = region.0; bits = region.1 }

abbrev pub own_meant : ProfileName → Names → Plan → Shown → ℕ → Word → Option OwnRegion
own_meant p names plan v group w = option_map (own group) (region_meant p names plan v w)

abbrev pub regions_meant : ProfileName → Names → Plan → Shown → List GroupEntry → Option (List OwnRegion)
regions_meant p names plan v groups = of_groups (own_meant p names plan v) region_words 0 groups

abbrev pub group_name : GroupEntry → List ℕ
group_name g = string_bytes g.name

-- the names of the groups, and what the trusted threads are called
abbrev pub actor_names : PolicyFile → List (List ℕ)
actor_names file = map group_name file.groups.items ++ (map word_name file.silent.items ++ map word_name file.messages.items)

-- the number of a group or of a trusted thread, by its name
abbrev pub actor_named : List (String Global) → List ℕ → Option ℕ
actor_named names name = position (λ other. bytes_eq (string_bytes other) name) names

-- ---- ways and uses

abbrev pub way_between : Option ℕ → Option ℕ → Option ℕ → WayEntry → Option PolicyWay
way_between (Some from) (Some to) (Some endpoint) w = Some (record { from = from; to = to; endpoint = endpoint; badge = w.badge; rights = w.rights })
way_between _ _ _ w = None

abbrev pub way_meant : ProfileName → Names → Plan → Shown → List (String Global) → WayEntry → Option PolicyWay
way_meant p names plan v actors w =
    way_between (actor_named actors (string_bytes w.from)) (actor_named actors (string_bytes w.to)) (endpoint_meant p names plan v w.by) w

abbrev pub use_by : Option ℕ → Option ℕ → UseEntry → Option Allowance
use_by (Some actor) (Some endpoint) u = Some (record { actor = actor; endpoint = endpoint; badge = u.badge; rights = u.rights })
use_by _ _ u = None

abbrev pub use_meant : ProfileName → Names → Plan → Shown → List (String Global) → UseEntry → Option Allowance
use_meant p names plan v actors u = use_by (actor_named actors (string_bytes u.group)) (endpoint_meant p names plan v u.of) u

-- ---- takes

-- the number of a group by its name, where there are so many groups; none of a trusted thread
abbrev pub if_group : ℕ → ℕ → Option ℕ
if_group count actor = cond (nat_lt actor count) (Some actor) None

abbrev pub group_named : ℕ → List (String Global) → List ℕ → Option ℕ
group_named count actors name = option_and_then (if_group count) (actor_named actors name)

abbrev pub take_between : Option ℕ → Option ℕ → Option PolicyTake
take_between (Some from) (Some to) = Some (record { from = from; to = to })
take_between _ _ = None

abbrev pub take_meant : ℕ → List (String Global) → TakeEntry → Option PolicyTake
take_meant count actors t = take_between (group_named count actors (string_bytes t.from)) (group_named count actors (string_bytes t.to))

-- ---- the policy

-- a thread is among these
abbrev pub is_member : ℕ → List Member → Bool
is_member thread members = list_any (λ (m : Member). m.thread == thread) members

abbrev pub is_trusted : List Member → List Member → ℕ → Bool
is_trusted silent messages thread = is_member thread silent || is_member thread messages

-- a thread is of a group, or trusted
abbrev pub is_known : List Member → List Member → List Member → ℕ → Bool
is_known members silent messages thread = is_member thread members || is_trusted silent messages thread

-- no thread of a group is trusted
abbrev pub are_untrusted : List Member → List Member → List Member → Bool
are_untrusted silent messages members = list_all (λ (m : Member). not (is_trusted silent messages m.thread)) members

-- a capability names no other thread
abbrev pub names_known : (ℕ → Bool) → Cap → Bool
names_known known (Tcb base) = known base
names_known known cap = true

-- each live thread, which is each that a full slot names, is of a group or trusted
abbrev pub are_known : Policy → Shown → Bool
are_known c v = list_all (λ (d : Derived). names_known (is_known c.members.items c.silent.items c.messages.items) d.0.cap) (slot_rows v)

-- the policy is what the file means in a state: each word of it stands for what it names there
pub record IsPolicyMeant (p : ProfileName) (names : Names) (plan : Plan) (v : Shown) (file : PolicyFile) (c : Policy) : Type 0 where
  pub version : c.version ≡ file.version
  pub actors : map string_bytes c.actors.items ≡ actor_names file
  pub groups : c.groups.items ≡ range_with_len 0 (length file.groups.items)
  pub silent : all_from (member_meant p names plan v) (length file.groups.items) file.silent.items ≡ Some c.silent.items
  pub messages : all_from (member_meant p names plan v) (length file.groups.items + length file.silent.items) file.messages.items ≡ Some c.messages.items
  pub members : members_meant p names plan v file.groups.items ≡ Some c.members.items
  pub untrusted : are_untrusted c.silent.items c.messages.items c.members.items ≡ true
  pub regions : regions_meant p names plan v file.groups.items ≡ Some c.regions.items
  pub known : are_known c v ≡ true
  pub ways : all_of (way_meant p names plan v c.actors.items) file.ways.items ≡ Some c.ways.items
  pub uses : all_of (use_meant p names plan v c.actors.items) file.uses.items ≡ Some c.uses.items
  pub takes : all_of (take_meant (length file.groups.items) c.actors.items) file.takes.items ≡ Some c.takes.items
  pub allowances : c.allowances.items ≡ allowances_of c.ways.items c.uses.items
  pub grant : c.grant ≡ file.grant
  pub calls : c.calls ≡ file.calls
