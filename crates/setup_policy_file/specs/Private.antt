-- What the contracts of private functions cite.
use Rattle.std.specs.Prelude.{◌≡◌, [], ◌∷◌, ◌++◌, map, Option, Some, None, string_bytes}
use Rattle.std.specs.Global.{Vec}
use Rattle.setup_policy_file.specs.declared.expanded.Pair.{Pair}
use Rattle.setup_policy_file.specs.declared.tables.WayTable.{WayTable}
use Rattle.setup_policy_file.specs.declared.tables.UseTable.{UseTable}
use Rattle.setup_policy_file.specs.declared.tables.TakeTable.{TakeTable}
use Rattle.setup_policy_file.specs.Lists.{WayLists, UseLists, TakeLists}
use Rattle.setup_policy_file.specs.Lists as lists
use Rattle.setup_policy_file.specs.Values.{word_view}

-- a list has one element more, where both were read
abbrev pub is_added : {T : Type 0} → Option (Vec T) → Option T → Vec T → Type 0
is_added (Some xs) (Some x) v = v.items ≡ xs.items ++ x ∷ []
is_added (Some xs) None v = ⊥
is_added None one v = ⊥

-- what tables with lists say
abbrev pub way_lists : WayTable → WayLists
way_lists w =
    record { from = map string_bytes w.from.items; to = map string_bytes w.to.items; by = map word_view w.by.items; badges = w.badges.items; rights = w.rights; both = w.both }

abbrev pub use_lists : UseTable → UseLists
use_lists u = record { groups = map string_bytes u.groups.items; of = map word_view u.of.items; badges = u.badges.items; rights = u.rights }

abbrev pub take_lists : TakeTable → TakeLists
take_lists t = record { from = map string_bytes t.from.items; to = map string_bytes t.to.items; both = t.both }

abbrev pub pair_view : Pair → lists.Pair
pair_view p = record { from = p.from.now; to = p.to.now; place = p.place }
