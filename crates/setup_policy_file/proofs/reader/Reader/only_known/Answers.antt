use Rattle.std.proofs.Common.{◌≡◌, Bool, List, [], map, not, None, rules, string_bytes, sym, ap, ◌∙◌}
use Rattle.std.specs.Prelude.{String, find}
use Rattle.std.specs.BTreeMap.{keys}
use Rattle.std.specs.declared.alloc.Global.{Global}
use Rattle.setup_format.specs.Tables.{is_one_of}
use Rattle.setup_policy_file.proofs.Known.{only_known}
use Rattle.setup_policy_file.proofs.reader.Reader.only_known.Goals as goal

none_left : (test : String Global → Bool) (rest all : List (String Global)) → rest ≡ [] → find test rest ≡ find test all → find test all ≡ None
none_left test rest all none so_far = sym so_far ∙ ap (find test) none

pub returns-then-are_known : goal.returns-then-are_known
returns-then-are_known c =
    let known = map (λ k. k.now) c.args.self.form.keys.now in
    let none : c.loop-key.key-iterator ≡ [] = search rules in
    only_known known c.args.self.table.now.entries
    (none_left (λ k. not (is_one_of known (string_bytes k))) c.loop-key.key-iterator (keys c.args.self.table.now) none (c.loop-key.invariant c.if-are_known.true))
