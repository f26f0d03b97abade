use Rattle.std.proofs.Common.{◌≡◌, take}
use Rattle.std.specs.List.{count_by}
use Rattle.list_questions.proofs.count.Given as goal

abbrev pub invariant-loop-item : goal.invariant-loop-item
invariant-loop-item g l = l.count ≡ count_by (g.Q.Asks.holds l.question) (take l.item-index l.items)
