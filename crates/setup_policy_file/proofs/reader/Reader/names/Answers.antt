use Rattle.std.proofs.Common.{map, sym, ◌∙◌, string_bytes}
use Rattle.std.specs.Str.{bytes_eq}
use Rattle.toml.specs.View.{table_view}
use Rattle.setup_policy_file.specs.Files.{needed}
use Rattle.setup_policy_file.specs.Values.{group_name_of, one_or_more}
use Rattle.setup_policy_file.proofs.Apart.{names_apart}
use Rattle.setup_policy_file.proofs.Said.{apart_said}
use Rattle.setup_policy_file.proofs.reader.Reader.names.Goals as goal

pub returns : goal.returns
returns c =
    let items = c.in_ok-names.names.items in
    let found = rw c.in_ok-taken.ensures at c.no_doubles.ensures in
    apart_said bytes_eq (needed (one_or_more c.args.self.version group_name_of) c.args.key.now (table_view c.args.self.table.now)) (map string_bytes items) c.in_ok-names.ensures
    (sym (names_apart items) ∙ (rw c.as_slice.ensures.value at found))
