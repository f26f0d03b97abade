use Rattle.std.proofs.Common.{◌≡◌, ◌&&◌, Some, codes, false, length, map, string_bytes, true}
use Rattle.toml.specs.Data.{as_table, get_member}
use Rattle.toml.specs.View.{view, table_view}
use Rattle.setup_policy_file.specs.declared.tables.WayTable.{WayTable}
use Rattle.setup_policy_file.specs.Files.{is_list, table_with, way_keys, way_lists_in, way_view}
use Rattle.setup_policy_file.specs.Lists.{are_all_left_out, expanded_way, has_badges}
use Rattle.setup_policy_file.specs.Private.{way_lists}
use Rattle.setup_policy_file.proofs.Said.{kept_said, known_said, way_said}
use Rattle.setup_policy_file.proofs.tables.WaysEntryKind.read.Goals as goal

pub returns : goal.returns
returns c =
    let version = c.args.top.version in
    let table = table_view c.in_ok-reader.reader.table.now in
    let element = as_table (view c.args.value.now) in
    let said : WayTable = record { from = c.in_ok-from.from; to = c.in_ok-to.to; by = c.in_ok-by.by; badges = c.in_ok-badges.badges; rights = c.in_ok-rights.rights; both = c.in_ok-both.both; place = c.in_ok-reader.reader.place } in
    let enough : has_badges (length said.from.items) said.badges.items ≡ true =
    rw (c.as_slice.ensures.value, c.as_slice-2.ensures.value) at (rw c.in_ok-enough.ensures at c.enough_badges-enough.ensures) in
    let one : (said.both && is_list (get_member (codes "badge") table)) ≡ false = rw c.find.ensures at (rw c.in_ok-one.ensures at c.one_badge-one.ensures) in
    let some : are_all_left_out c.in_ok-reader.reader.version (map string_bytes said.from.items) (map string_bytes said.to.items) ≡ false =
    rw (c.as_slice-3.ensures.value, c.as_slice-4.ensures.value) at (rw c.in_ok-taken.ensures at c.others-others.ensures) in
    let read : way_lists_in version table ≡ Some (way_lists said) =
    way_said version c.in_ok-reader.reader.version said table c.in_ok-reader.ensures.version c.in_ok-from.ensures c.in_ok-to.ensures c.in_ok-by.ensures c.in_ok-badges.ensures c.in_ok-rights.ensures c.in_ok-both.ensures enough one some in
    let is : table_with (way_keys version) (way_lists_in version) element ≡ Some (way_lists said) =
    known_said (way_keys version) (way_lists_in version) element table (way_lists said) c.in_ok-reader.ensures.is (rw c.way_form.ensures.keys at c.in_ok-reader.ensures.only) read in
    kept_said (expanded_way version) (map way_view c.args.entries.now.items) (map way_view c.add_ways.new.ways.items) (table_with (way_keys version) (way_lists_in version) element) (way_lists said)
    c.kept.result c.add_ways.result is c.kept.ensures c.add_ways.ensures
