use Rattle.std.proofs.Common.{◌≡◌, ℕ, List, ◌++◌, drop, map, string_bytes}
use Rattle.std.specs.List.{enumerate_from, flat_map}
use Rattle.setup_policy_file.specs.Files.{use_view}
use Rattle.setup_policy_file.specs.Lists.{use_by}
use Rattle.setup_policy_file.specs.Private.{use_lists}
use Rattle.setup_policy_file.proofs.expanded.add_uses.Given as goal

abbrev pub invariant-loop-place : goal.invariant-loop-place
invariant-loop-place l =
    let lists = use_lists l.table in
    let of_each = λ (g : ℕ × List ℕ). map (use_by lists g.0 g.1) lists.of in
    map use_view l.uses.items ++ flat_map of_each (enumerate_from l.place (map string_bytes (drop l.place l.groups)))
    ≡ map use_view l.initial.uses.items ++ flat_map of_each (enumerate_from 0 (map string_bytes l.groups))
