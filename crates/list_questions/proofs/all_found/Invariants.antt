use Rattle.std.proofs.Common.{◌≡◌, ◌++◌, drop}
use Rattle.std.specs.List.{filter_map}
use Rattle.list_questions.proofs.all_found.Given as goal

abbrev pub invariant-loop-item : goal.invariant-loop-item
invariant-loop-item g l = l.all.items ++ filter_map (g.F.Finds.found l.finder) (drop l.item-index l.items) ≡ filter_map (g.F.Finds.found l.finder) l.items
