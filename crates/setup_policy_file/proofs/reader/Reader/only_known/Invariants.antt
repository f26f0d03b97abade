use Rattle.std.proofs.Common.{◌≡◌, map, not, true, string_bytes}
use Rattle.std.specs.Prelude.{find}
use Rattle.std.specs.BTreeMap.{keys}
use Rattle.setup_format.specs.Tables.{is_one_of}
use Rattle.setup_policy_file.proofs.reader.Reader.only_known.Given as goal

abbrev pub invariant-loop-key : goal.invariant-loop-key
invariant-loop-key l =
    l.are_known ≡ true → find (λ k. not (is_one_of (map (λ k. k.now) l.self.form.keys.now) (string_bytes k))) l.key-iterator
    ≡ find (λ k. not (is_one_of (map (λ k. k.now) l.self.form.keys.now) (string_bytes k))) (keys l.self.table.now)
