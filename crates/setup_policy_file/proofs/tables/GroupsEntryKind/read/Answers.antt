use Rattle.std.proofs.Common.{◌≡◌, ◌∷◌, [], Some, map, codes, refl, string_bytes}
use Rattle.toml.specs.Data.{as_table, Members}
use Rattle.toml.specs.View.{view, table_view}
use Rattle.setup_policy_file.specs.declared.file.GroupEntry.{GroupEntry}
use Rattle.setup_policy_file.specs.Files.{GroupView, group_in, group_keys, group_view, needed, table_with, words_at}
use Rattle.setup_policy_file.specs.Values.{group_name_of, list_of, word_of, word_view}
use Rattle.setup_policy_file.proofs.Said.{kept_said, known_said, pushed_said}
use Rattle.setup_policy_file.proofs.tables.GroupsEntryKind.read.Goals as goal

group_said : (table : Members) (g : GroupEntry) → needed group_name_of (codes "name") table ≡ Some (string_bytes g.name)
    → needed (list_of word_of) (codes "threads") table ≡ Some (map word_view g.threads.items) → words_at (codes "regions") table ≡ Some (map word_view g.regions.items)
    → group_in table ≡ Some (group_view g)
group_said table g a b c = rw (a, b, c) refl

pub returns : goal.returns
returns c =
    let table = table_view c.in_ok-reader.reader.table.now in
    let element = as_table (view c.args.value.now) in
    let said : GroupEntry = record { name = c.in_ok-name.field-0; threads = c.in_ok-threads.field-0; regions = c.in_ok-regions.field-0; place = c.in_ok-reader.reader.place } in
    let is : table_with group_keys group_in element ≡ Some (group_view said) =
    known_said group_keys group_in element table (group_view said) c.in_ok-reader.ensures.is c.in_ok-reader.ensures.only
    (group_said table said c.in_ok-name.ensures c.in_ok-threads.ensures c.in_ok-regions.ensures) in
    kept_said (λ (g : GroupView). g ∷ []) (map group_view c.args.entries.now.items) (map group_view c.push.new.self.items) (table_with group_keys group_in element) (group_view said)
    c.kept.result c.push.result is c.kept.ensures (pushed_said group_view c.args.entries.now.items c.push.new.self.items said c.push.result c.push.ensures.items)
