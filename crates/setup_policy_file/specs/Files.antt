-- What a policy file says: a grammar over the table of its text. It is of files that are taken, and says nothing of faults.
use Rattle.std.specs.Prelude.{codes, ◌≡◌, ℕ, List, [], ◌∷◌, ◌++◌, map, Bool, true, false, bit_and, ◌==◌, if◌then◌else◌, Option, Some, None, is_some, option_and_then, option_map, string_bytes}
use Rattle.std.specs.List.{list_all}
use Rattle.toml.specs.Data.{Data, as_table, Members, get_member}
use Rattle.toml.specs.Parse.{parse_document}
use Rattle.std.specs.Str.{IsUtf8, bytes_eq}
use Rattle.cap_core.specs.declared.rights.Rights.{Rights}
use Rattle.cap_core.specs.Rights.{write_bit}
use Rattle.setup_policy_file.specs.declared.file.GroupEntry.{GroupEntry}
use Rattle.setup_policy_file.specs.declared.file.WayEntry.{WayEntry}
use Rattle.setup_policy_file.specs.declared.file.UseEntry.{UseEntry}
use Rattle.setup_policy_file.specs.declared.file.TakeEntry.{TakeEntry}
use Rattle.setup_policy_file.specs.declared.file.PolicyFile.{PolicyFile}
use Rattle.setup_policy.specs.declared.policy.PolicyVersion.{PolicyVersion}
use Rattle.setup_policy.specs.declared.policy.PolicyVersion.TheVariants.{One, Two}
use Rattle.setup_format.specs.Tables.{is_one_of}
use Rattle.setup_values.specs.Keys.{keys_of}
use Rattle.setup_policy_file.specs.Values.{all_of, word_view, version_of, switch_of, number_of, group_name_of, word_of, word_in, list_of, elements_of, badge_of, rights_of, one_or_more, if_apart, is_same_word, WordView}
use Rattle.setup_policy_file.specs.Lists.{is_way_taken, is_use_taken, is_take_taken, expanded_way, expanded_use, expanded_take, WayLists, UseLists, TakeLists, WayView, UseView, TakeView}

-- ---- what is read at a key

-- a key that has to be there
abbrev pub needed : {A : Type 0} → (Data → Option A) → List ℕ → Members → Option A
needed read key table = option_and_then read (get_member key table)

-- a key that may be missing
abbrev pub given_or : {A : Type 0} → A → (Data → Option A) → Option Data → Option A
given_or other read None = Some other
given_or other read (Some d) = read d

abbrev pub optional : {A : Type 0} → (Data → Option A) → Option Data → Option (Option A)
optional read None = Some None
optional read (Some d) = option_map Some (read d)

-- a switch, which is this where the key is missing
abbrev pub switch_or : Bool → List ℕ → Members → Option Bool
switch_or other key table = given_or other switch_of (get_member key table)

-- the elements of a list, none where the key is missing
abbrev pub elements_at : List ℕ → Members → Option (List Data)
elements_at key table = given_or [] elements_of (get_member key table)

-- what they are read as
abbrev pub list_at : {A : Type 0} → (Data → Option A) → List ℕ → Members → Option (List A)
list_at read key table = given_or [] (list_of read) (get_member key table)

abbrev pub words_at : List ℕ → Members → Option (List WordView)
words_at key table = list_at word_of key table

-- names of groups, and words: in version 2 also a list, in which none stands twice
abbrev pub names_at : PolicyVersion → List ℕ → Members → Option (List (List ℕ))
names_at version key table = option_and_then (if_apart bytes_eq) (needed (one_or_more version group_name_of) key table)

abbrev pub different_words_at : PolicyVersion → List ℕ → Members → Option (List WordView)
different_words_at version key table = option_and_then (if_apart is_same_word) (needed (one_or_more version word_of) key table)

-- badges: in version 2 also a list, in which one may stand twice
abbrev pub badges_at : PolicyVersion → Members → Option (List ℕ)
badges_at version table = needed (one_or_more version badge_of) (codes "badge") table

-- whether a value is there and is a list
abbrev pub is_list : Option Data → Bool
is_list d = is_some (option_and_then elements_of d)

-- the names of the groups that have one thread, which has the group's name
abbrev pub alone_at : Members → Option (List (List ℕ))
alone_at table = list_at group_name_of (codes "alone") table

-- the number of calls after which the policy is held to
abbrev pub after_in : Members → Option (Option ℕ)
after_in table = optional number_of (get_member (codes "after") table)

-- the version of the form
abbrev pub version_in : Members → Option PolicyVersion
version_in table = needed version_of (codes "policy") table

-- the rights of a way: Write where they are not given, and else some with Write
abbrev pub with_write : Rights → Option Rights
with_write r = if bit_and r.0 write_bit == 0 then None else Some r

abbrev pub way_rights_at : Members → Option Rights
way_rights_at table = given_or (record { 0 = write_bit }) (λ d. option_and_then with_write (rights_of d)) (get_member (codes "rights") table)

-- ---- the keys that a table may have

abbrev pub has_only : List (List ℕ) → Members → Bool
has_only known table = list_all (is_one_of known) (keys_of table)

abbrev pub take_key : PolicyVersion → List (List ℕ)
take_key One = []
take_key Two = codes "take" ∷ []

abbrev pub top_keys : PolicyVersion → List (List ℕ)
top_keys version = codes "policy" ∷ codes "after" ∷ codes "silent" ∷ codes "messages" ∷ codes "alone" ∷ codes "seL4_grant" ∷ codes "calls_succeed" ∷ codes "group" ∷ codes "way" ∷ codes "use" ∷ take_key version

abbrev pub group_keys : List (List ℕ)
group_keys = codes "name" ∷ codes "threads" ∷ codes "regions" ∷ []

abbrev pub both_key : PolicyVersion → List (List ℕ)
both_key One = []
both_key Two = codes "both" ∷ []

abbrev pub way_keys : PolicyVersion → List (List ℕ)
way_keys version = codes "from" ∷ codes "to" ∷ codes "by" ∷ codes "badge" ∷ codes "rights" ∷ both_key version

abbrev pub use_keys : List (List ℕ)
use_keys = codes "group" ∷ codes "of" ∷ codes "badge" ∷ codes "rights" ∷ []

abbrev pub take_keys : List (List ℕ)
take_keys = codes "from" ∷ codes "to" ∷ codes "both" ∷ []

-- what is read of an element that is a table with no other keys
abbrev pub table_with : {A : Type 0} → List (List ℕ) → (Members → Option A) → Option Members → Option A
table_with known read None = None
table_with known read (Some table) = if has_only known table then read table else None

-- the entries that elements stand for, one after another; none where one of them is not taken
abbrev pub entries_of : {A : Type 0} → (Data → Option (List A)) → List Data → Option (List A)
entries_of read [] = Some []
entries_of read (d ∷ ds) = option_and_then (λ xs. option_map (λ ys. xs ++ ys) (entries_of read ds)) (read d)

-- ---- groups

-- threads that may be one part, and the regions that they may hold
pub record GroupView : Type 0 where
  pub name : List ℕ
  pub threads : List WordView
  pub regions : List WordView

abbrev pub group_view : GroupEntry → GroupView
group_view g = record { name = string_bytes g.name; threads = map word_view g.threads.items; regions = map word_view g.regions.items }

abbrev pub group_with : Option (List ℕ) → Option (List WordView) → Option (List WordView) → Option GroupView
group_with (Some name) (Some threads) (Some regions) = Some (record { name = name; threads = threads; regions = regions })
group_with _ _ _ = None

abbrev pub group_in : Members → Option GroupView
group_in table = group_with (needed group_name_of (codes "name") table) (needed (list_of word_of) (codes "threads") table) (words_at (codes "regions") table)

abbrev pub group_of : Data → Option GroupView
group_of d = table_with group_keys group_in (as_table d)

abbrev pub group_entries : Data → Option (List GroupView)
group_entries d = option_map (λ g. g ∷ []) (group_of d)

-- the group of a name of alone, which has the thread of that name
abbrev pub alone_of : List ℕ → Option GroupView
alone_of name = group_with (Some name) (option_map (λ w. w ∷ []) (word_in name)) (Some [])

abbrev pub alone_groups_of : Members → Option (List GroupView)
alone_groups_of table = option_and_then (all_of alone_of) (alone_at table)

abbrev pub table_groups_of : Members → Option (List GroupView)
table_groups_of table = option_and_then (entries_of group_entries) (elements_at (codes "group") table)

-- ---- ways: who may send to whom; a badge of 0 stands for any

abbrev pub way_view : WayEntry → WayView
way_view w = record { from = string_bytes w.from; to = string_bytes w.to; by = word_view w.by; badge = w.badge; rights = w.rights }

abbrev pub way_lists_with : Option (List (List ℕ)) → Option (List (List ℕ)) → Option (List WordView) → Option (List ℕ) → Option Rights → Option Bool → Option WayLists
way_lists_with (Some from) (Some to) (Some by) (Some badges) (Some rights) (Some both) =
    Some (record { from = from; to = to; by = by; badges = badges; rights = rights; both = both })
way_lists_with _ _ _ _ _ _ = None

abbrev pub if_way_taken : PolicyVersion → Bool → WayLists → Option WayLists
if_way_taken version listed w = if is_way_taken version listed w then Some w else None

abbrev pub way_lists_in : PolicyVersion → Members → Option WayLists
way_lists_in version table =
    option_and_then (if_way_taken version (is_list (get_member (codes "badge") table)))
    (way_lists_with (names_at version (codes "from") table) (names_at version (codes "to") table) (different_words_at version (codes "by") table)
    (badges_at version table) (way_rights_at table) (switch_or false (codes "both") table))

abbrev pub way_entries : PolicyVersion → Data → Option (List WayView)
way_entries version d = option_map (expanded_way version) (table_with (way_keys version) (way_lists_in version) (as_table d))

abbrev pub ways_of : PolicyVersion → Members → Option (List WayView)
ways_of version table = option_and_then (entries_of (way_entries version)) (elements_at (codes "way") table)

-- ---- uses: capabilities that open no way by themselves; a badge of 0 stands for any

abbrev pub use_view : UseEntry → UseView
use_view u = record { group = string_bytes u.group; of = word_view u.of; badge = u.badge; rights = u.rights }

abbrev pub use_lists_with : Option (List (List ℕ)) → Option (List WordView) → Option (List ℕ) → Option Rights → Option UseLists
use_lists_with (Some groups) (Some of) (Some badges) (Some rights) = Some (record { groups = groups; of = of; badges = badges; rights = rights })
use_lists_with _ _ _ _ = None

abbrev pub if_use_taken : UseLists → Option UseLists
if_use_taken u = if is_use_taken u then Some u else None

abbrev pub use_lists_in : PolicyVersion → Members → Option UseLists
use_lists_in version table =
    option_and_then if_use_taken
    (use_lists_with (names_at version (codes "group") table) (different_words_at version (codes "of") table) (badges_at version table) (needed rights_of (codes "rights") table))

abbrev pub use_entries : PolicyVersion → Data → Option (List UseView)
use_entries version d = option_map expanded_use (table_with use_keys (use_lists_in version) (as_table d))

abbrev pub uses_of : PolicyVersion → Members → Option (List UseView)
uses_of version table = option_and_then (entries_of (use_entries version)) (elements_at (codes "use") table)

-- ---- takes: who may empty slots of whom; version 1 has none

abbrev pub take_view : TakeEntry → TakeView
take_view t = record { from = string_bytes t.from; to = string_bytes t.to }

abbrev pub take_lists_with : Option (List (List ℕ)) → Option (List (List ℕ)) → Option Bool → Option TakeLists
take_lists_with (Some from) (Some to) (Some both) = Some (record { from = from; to = to; both = both })
take_lists_with _ _ _ = None

abbrev pub if_take_taken : PolicyVersion → TakeLists → Option TakeLists
if_take_taken version t = if is_take_taken version t then Some t else None

abbrev pub take_lists_in : PolicyVersion → Members → Option TakeLists
take_lists_in version table =
    option_and_then (if_take_taken version)
    (take_lists_with (names_at version (codes "from") table) (names_at version (codes "to") table) (switch_or false (codes "both") table))

abbrev pub take_entries : PolicyVersion → Data → Option (List TakeView)
take_entries version d = option_map (expanded_take version) (table_with take_keys (take_lists_in version) (as_table d))

abbrev pub takes_of : PolicyVersion → Members → Option (List TakeView)
takes_of One table = Some []
takes_of Two table = option_and_then (entries_of (take_entries Two)) (elements_at (codes "take") table)

-- ---- a policy file

-- the file is what the table says; groups of alone stand first
pub record IsPolicyTable (table : Members) (file : PolicyFile) : Type 0 where
  pub version : version_in table ≡ Some file.version
  pub only : has_only (top_keys file.version) table ≡ true
  pub after : after_in table ≡ Some file.after
  pub silent : words_at (codes "silent") table ≡ Some (map word_view file.silent.items)
  pub messages : words_at (codes "messages") table ≡ Some (map word_view file.messages.items)
  pub grant : switch_or true (codes "seL4_grant") table ≡ Some file.grant
  pub calls : switch_or true (codes "calls_succeed") table ≡ Some file.calls
  pub alone : List GroupEntry
  pub told : List GroupEntry
  pub groups : file.groups.items ≡ alone ++ told
  pub alone_are : alone_groups_of table ≡ Some (map group_view alone)
  pub told_are : table_groups_of table ≡ Some (map group_view told)
  pub ways : ways_of file.version table ≡ Some (map way_view file.ways.items)
  pub uses : uses_of file.version table ≡ Some (map use_view file.uses.items)
  pub takes : takes_of file.version table ≡ Some (map take_view file.takes.items)

-- the file is what the text says
pub record IsPolicyText (bytes : List ℕ) (file : PolicyFile) : Type 0 where
  pub table : Members
  pub text : IsUtf8 bytes
  pub is : parse_document bytes ≡ Some table
  pub says : IsPolicyTable table file
