use Rattle.std.proofs.Common.{map, sym, ◌∙◌}
use Rattle.toml.specs.View.{table_view}
use Rattle.setup_policy_file.specs.Files.{needed}
use Rattle.setup_policy_file.specs.Values.{is_same_word, one_or_more, word_of, word_view}
use Rattle.setup_policy_file.proofs.Apart.{words_apart}
use Rattle.setup_policy_file.proofs.Said.{apart_said}
use Rattle.setup_policy_file.proofs.reader.Reader.words.Goals as goal

pub returns : goal.returns
returns c =
    let items = c.in_ok-words.words.items in
    let found = rw c.in_ok-taken.ensures at c.no_doubles.ensures in
    apart_said is_same_word (needed (one_or_more c.args.self.version word_of) c.args.key.now (table_view c.args.self.table.now)) (map word_view items) c.in_ok-words.ensures
    (sym (words_apart items) ∙ (rw c.as_slice.ensures.value at found))
