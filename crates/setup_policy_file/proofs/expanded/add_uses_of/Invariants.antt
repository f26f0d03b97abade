use Rattle.std.proofs.Common.{◌≡◌, ◌++◌, drop, map}
use Rattle.setup_policy_file.specs.Files.{use_view}
use Rattle.setup_policy_file.specs.Lists.{use_by}
use Rattle.setup_policy_file.specs.Private.{use_lists}
use Rattle.setup_policy_file.specs.Values.{word_view}
use Rattle.setup_policy_file.proofs.expanded.add_uses_of.Given as goal

abbrev pub invariant-loop-of : goal.invariant-loop-of
invariant-loop-of l =
    let each = use_by (use_lists l.table) l.place l.group in
    map use_view l.uses.items ++ map each (map word_view (drop l.of-index l.endpoints))
    ≡ map use_view l.initial.uses.items ++ map each (map word_view l.endpoints)
