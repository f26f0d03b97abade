use Rattle.std.proofs.Common.{◌≡◌, Some, length, map, true}
use Rattle.toml.specs.Data.{as_table}
use Rattle.toml.specs.View.{view, table_view}
use Rattle.setup_policy_file.specs.declared.tables.UseTable.{UseTable}
use Rattle.setup_policy_file.specs.Files.{table_with, use_keys, use_lists_in, use_view}
use Rattle.setup_policy_file.specs.Lists.{expanded_use, has_badges}
use Rattle.setup_policy_file.specs.Private.{use_lists}
use Rattle.setup_policy_file.proofs.Said.{kept_said, known_said, use_said}
use Rattle.setup_policy_file.proofs.tables.UsesEntryKind.read.Goals as goal

pub returns : goal.returns
returns c =
    let version = c.args.top.version in
    let table = table_view c.in_ok-reader.reader.table.now in
    let element = as_table (view c.args.value.now) in
    let said : UseTable = record { groups = c.in_ok-groups.groups; of = c.in_ok-of.of; badges = c.in_ok-badges.badges; rights = c.in_ok-rights.rights; place = c.in_ok-reader.reader.place } in
    let enough : has_badges (length said.groups.items) said.badges.items ≡ true =
    rw (c.as_slice.ensures.value, c.as_slice-2.ensures.value) at (rw c.in_ok-taken.ensures at c.enough_badges-enough.ensures) in
    let read : use_lists_in version table ≡ Some (use_lists said) =
    use_said version c.in_ok-reader.reader.version said table c.in_ok-reader.ensures.version c.in_ok-groups.ensures c.in_ok-of.ensures c.in_ok-badges.ensures c.in_ok-rights.ensures enough in
    let is : table_with use_keys (use_lists_in version) element ≡ Some (use_lists said) =
    known_said use_keys (use_lists_in version) element table (use_lists said) c.in_ok-reader.ensures.is c.in_ok-reader.ensures.only read in
    kept_said expanded_use (map use_view c.args.entries.now.items) (map use_view c.add_uses.new.uses.items) (table_with use_keys (use_lists_in version) element) (use_lists said)
    c.kept.result c.add_uses.result is c.kept.ensures c.add_uses.ensures
