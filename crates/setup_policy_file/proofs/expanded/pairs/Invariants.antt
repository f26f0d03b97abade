use Rattle.std.proofs.Common.{◌≡◌, ℕ, List, ◌++◌, drop, map, string_bytes}
use Rattle.std.specs.List.{enumerate_from, flat_map}
use Rattle.setup_policy_file.specs.Lists as lists
use Rattle.setup_policy_file.specs.Private.{pair_view}
use Rattle.setup_policy_file.proofs.expanded.pairs.Given as goal

abbrev pub invariant-loop-place : goal.invariant-loop-place
invariant-loop-place l =
    let to = map string_bytes l.to in
    map pair_view l.pairs.items
    ++ flat_map (λ (f : ℕ × List ℕ). flat_map (lists.pairs_between l.version l.both f.0 f.1) to) (enumerate_from l.place (map string_bytes (drop l.place l.from)))
    ≡ lists.pairs l.version l.both (map string_bytes l.from) to
