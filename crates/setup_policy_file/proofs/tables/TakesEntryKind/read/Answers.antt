use Rattle.std.proofs.Common.{◌≡◌, Some, false, map, string_bytes}
use Rattle.toml.specs.Data.{as_table}
use Rattle.toml.specs.View.{view, table_view}
use Rattle.setup_policy_file.specs.declared.tables.TakeTable.{TakeTable}
use Rattle.setup_policy_file.specs.Files.{table_with, take_keys, take_lists_in, take_view}
use Rattle.setup_policy_file.specs.Lists.{are_all_left_out, expanded_take}
use Rattle.setup_policy_file.specs.Private.{take_lists}
use Rattle.setup_policy_file.proofs.Said.{kept_said, known_said, take_said}
use Rattle.setup_policy_file.proofs.tables.TakesEntryKind.read.Goals as goal

pub returns : goal.returns
returns c =
    let version = c.args.top.version in
    let table = table_view c.in_ok-reader.reader.table.now in
    let element = as_table (view c.args.value.now) in
    let said : TakeTable = record { from = c.in_ok-from.from; to = c.in_ok-to.to; both = c.in_ok-both.both; place = c.in_ok-reader.reader.place } in
    let some : are_all_left_out c.in_ok-reader.reader.version (map string_bytes said.from.items) (map string_bytes said.to.items) ≡ false =
    rw (c.as_slice.ensures.value, c.as_slice-2.ensures.value) at (rw c.in_ok-taken.ensures at c.others-others.ensures) in
    let read : take_lists_in version table ≡ Some (take_lists said) =
    take_said version c.in_ok-reader.reader.version said table c.in_ok-reader.ensures.version c.in_ok-from.ensures c.in_ok-to.ensures c.in_ok-both.ensures some in
    let is : table_with take_keys (take_lists_in version) element ≡ Some (take_lists said) =
    known_said take_keys (take_lists_in version) element table (take_lists said) c.in_ok-reader.ensures.is c.in_ok-reader.ensures.only read in
    kept_said (expanded_take version) (map take_view c.args.entries.now.items) (map take_view c.add_takes.new.takes.items) (table_with take_keys (take_lists_in version) element) (take_lists said)
    c.kept.result c.add_takes.result is c.kept.ensures c.add_takes.ensures
