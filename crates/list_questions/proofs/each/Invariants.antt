use Rattle.std.proofs.Common.{◌≡◌, take, map}
use Rattle.list_questions.proofs.each.Given as goal

abbrev pub invariant-loop-item : goal.invariant-loop-item
invariant-loop-item g l = l.all.items ≡ map (g.M.Makes.made l.maker) (take l.item-index l.items)
