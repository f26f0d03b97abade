-- What a table says, once each of its keys was read.
use Rattle.std.proofs.Common.{◌≡◌, ℕ, List, [], ◌∷◌, ◌++◌, Bool, true, false, ◌&&◌, length, map, codes, Some, None, refl, ap, subst, ◌∙◌, string_bytes}
use Rattle.std.specs.Prelude.{Option, Result, Ok, Err, IfOk, IfSome, if◌then◌else◌, is_ok, option_and_then, option_map}
use Rattle.std.proofs.lemmas.List.{length-map, map_push}
use Rattle.toml.specs.Data.{Members, get_member}
use Rattle.cap_core.specs.declared.rights.Rights.{Rights}
use Rattle.setup_policy.specs.declared.policy.PolicyVersion.{PolicyVersion}
use Rattle.setup_policy_file.specs.declared.tables.WayTable.{WayTable}
use Rattle.setup_policy_file.specs.declared.tables.UseTable.{UseTable}
use Rattle.setup_policy_file.specs.declared.tables.TakeTable.{TakeTable}
use Rattle.setup_policy_file.specs.Files.{badges_at, different_words_at, has_only, if_take_taken, if_use_taken, if_way_taken, is_list, names_at, needed, switch_or, table_with, take_lists_in, take_lists_with, use_lists_in, use_lists_with, way_lists_in, way_lists_with, way_rights_at}
use Rattle.setup_policy_file.specs.Lists.{are_all_left_out, has_badges}
use Rattle.setup_policy_file.specs.Private.{take_lists, use_lists, way_lists}
use Rattle.setup_policy_file.specs.Values.{WordView, are_apart, if_apart, rights_of, word_view}

-- an element that is a table with known keys
pub known_said : {A : Type 0} (known : List (List ℕ)) (read : Members → Option A) (element : Option Members) (table : Members) (x : A)
    → element ≡ Some table → has_only known table ≡ true → read table ≡ Some x → table_with known read element ≡ Some x
known_said known read element table x is only said = rw (is, only) said

-- what is read as it is
pub same_given : (o : Option ℕ) → option_map (λ n. n) o ≡ o
same_given None = refl
same_given (Some n) = refl

pub same_each : (xs : List ℕ) → map (λ n. n) xs ≡ xs
same_each [] = refl
same_each (x ∷ xs) = ap (λ (ys : List ℕ). x ∷ ys) (same_each xs)

-- elements that stand apart
pub apart_said : {A : Type 0} (same : A → A → Bool) (read : Option (List A)) (xs : List A) → read ≡ Some xs → are_apart same xs ≡ true → option_and_then (if_apart same) read ≡ Some xs
apart_said same read xs is apart = rw (is, apart) refl

way_read : (version : PolicyVersion) (listed : Bool) (w : WayTable) (from to : Option (List (List ℕ))) (by : Option (List WordView)) (badges : Option (List ℕ)) (rights : Option Rights) (both : Option Bool)
    → from ≡ Some (map string_bytes w.from.items) → to ≡ Some (map string_bytes w.to.items) → by ≡ Some (map word_view w.by.items) → badges ≡ Some w.badges.items
    → rights ≡ Some w.rights → both ≡ Some w.both → has_badges (length w.from.items) w.badges.items ≡ true → (w.both && listed) ≡ false
    → are_all_left_out version (map string_bytes w.from.items) (map string_bytes w.to.items) ≡ false
    → option_and_then (if_way_taken version listed) (way_lists_with from to by badges rights both) ≡ Some (way_lists w)
way_read version listed w from to by badges rights both a b c d e f enough one some = rw (a, b, c, d, e, f, length-map w.from.items string_bytes, enough, one, some) refl

use_read : (u : UseTable) (groups : Option (List (List ℕ))) (of : Option (List WordView)) (badges : Option (List ℕ)) (rights : Option Rights)
    → groups ≡ Some (map string_bytes u.groups.items) → of ≡ Some (map word_view u.of.items) → badges ≡ Some u.badges.items → rights ≡ Some u.rights
    → has_badges (length u.groups.items) u.badges.items ≡ true
    → option_and_then if_use_taken (use_lists_with groups of badges rights) ≡ Some (use_lists u)
use_read u groups of badges rights a b c d enough = rw (a, b, c, d, length-map u.groups.items string_bytes, enough) refl

take_read : (version : PolicyVersion) (t : TakeTable) (from to : Option (List (List ℕ))) (both : Option Bool)
    → from ≡ Some (map string_bytes t.from.items) → to ≡ Some (map string_bytes t.to.items) → both ≡ Some t.both
    → are_all_left_out version (map string_bytes t.from.items) (map string_bytes t.to.items) ≡ false
    → option_and_then (if_take_taken version) (take_lists_with from to both) ≡ Some (take_lists t)
take_read version t from to both a b c some = rw (a, b, c, some) refl

-- the same, if the table is of the version of its policy
pub way_said : (version own : PolicyVersion) (w : WayTable) (table : Members) → own ≡ version
    → names_at own (codes "from") table ≡ Some (map string_bytes w.from.items) → names_at own (codes "to") table ≡ Some (map string_bytes w.to.items)
    → different_words_at own (codes "by") table ≡ Some (map word_view w.by.items) → badges_at own table ≡ Some (map (λ (n : ℕ). n) w.badges.items)
    → way_rights_at table ≡ Some w.rights → switch_or false (codes "both") table ≡ Some w.both → has_badges (length w.from.items) w.badges.items ≡ true
    → (w.both && is_list (get_member (codes "badge") table)) ≡ false → are_all_left_out own (map string_bytes w.from.items) (map string_bytes w.to.items) ≡ false
    → way_lists_in version table ≡ Some (way_lists w)
way_said version own w table same a b c d e f enough one some =
    subst (λ (v : PolicyVersion). way_lists_in v table ≡ Some (way_lists w)) same
    (way_read own (is_list (get_member (codes "badge") table)) w (names_at own (codes "from") table) (names_at own (codes "to") table) (different_words_at own (codes "by") table) (badges_at own table)
    (way_rights_at table) (switch_or false (codes "both") table) a b c (d ∙ ap Some (same_each w.badges.items)) e f enough one some)

pub use_said : (version own : PolicyVersion) (u : UseTable) (table : Members) → own ≡ version
    → names_at own (codes "group") table ≡ Some (map string_bytes u.groups.items) → different_words_at own (codes "of") table ≡ Some (map word_view u.of.items)
    → badges_at own table ≡ Some (map (λ (n : ℕ). n) u.badges.items) → needed rights_of (codes "rights") table ≡ Some u.rights
    → has_badges (length u.groups.items) u.badges.items ≡ true → use_lists_in version table ≡ Some (use_lists u)
use_said version own u table same a b c d enough =
    subst (λ (v : PolicyVersion). use_lists_in v table ≡ Some (use_lists u)) same
    (use_read u (names_at own (codes "group") table) (different_words_at own (codes "of") table) (badges_at own table) (needed rights_of (codes "rights") table) a b (c ∙ ap Some (same_each u.badges.items)) d enough)

pub take_said : (version own : PolicyVersion) (t : TakeTable) (table : Members) → own ≡ version
    → names_at own (codes "from") table ≡ Some (map string_bytes t.from.items) → names_at own (codes "to") table ≡ Some (map string_bytes t.to.items)
    → switch_or false (codes "both") table ≡ Some t.both → are_all_left_out own (map string_bytes t.from.items) (map string_bytes t.to.items) ≡ false
    → take_lists_in version table ≡ Some (take_lists t)
take_said version own t table same a b c some =
    subst (λ (v : PolicyVersion). take_lists_in v table ≡ Some (take_lists t)) same
    (take_read own t (names_at own (codes "from") table) (names_at own (codes "to") table) (switch_or false (codes "both") table) a b c some)

-- ---- the entries of a table stand behind those before

entries_said : {A B : Type 0} (expanded : A → List B) (old new : List B) (said : Option A) (x : A) → said ≡ Some x → new ≡ old ++ expanded x
    → option_map (λ es. old ++ es) (option_map expanded said) ≡ Some new
entries_said expanded old new said x is added = rw (is, added) refl

pub kept_said : {A B U E : Type 0} (expanded : A → List B) (old new : List B) (said : Option A) (x : A) (kept : Option U) (made : Result U E)
    → said ≡ Some x → IfSome kept (λ u. made ≡ Ok u) → IfOk made (λ _. new ≡ old ++ expanded x)
    → IfSome kept (λ _. option_map (λ es. old ++ es) (option_map expanded said) ≡ Some new)
kept_said expanded old new said x None made is kept added = tt
kept_said expanded old new said x (Some u) made is kept added = entries_said expanded old new said x is (rw kept at added)

-- one entry was added
pub pushed_said : {T B U E : Type 0} (v : T → B) (old new : List T) (x : T) (made : Result U E) → new ≡ (if is_ok made then old ++ x ∷ [] else old)
    → IfOk made (λ _. map v new ≡ map v old ++ v x ∷ [])
pushed_said v old new x (Ok u) is = rw is (map_push v old x)
pushed_said v old new x (Err e) is = tt
