use Rattle.std.proofs.Common.{◌≡◌, ◌++◌, drop, map}
use Rattle.setup_policy_file.specs.Files.{take_view}
use Rattle.setup_policy_file.specs.Lists.{take_between}
use Rattle.setup_policy_file.specs.Private.{pair_view}
use Rattle.setup_policy_file.proofs.expanded.add_takes.Given as goal

abbrev pub invariant-loop-pair : goal.invariant-loop-pair
invariant-loop-pair l =
    map take_view l.takes.items ++ map take_between (map pair_view (drop l.pair-index l.made))
    ≡ map take_view l.initial.takes.items ++ map take_between (map pair_view l.made)
