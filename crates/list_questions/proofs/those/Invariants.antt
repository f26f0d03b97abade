use Rattle.std.proofs.Common.{◌≡◌, take, filter}
use Rattle.list_questions.proofs.those.Given as goal

abbrev pub invariant-loop-item : goal.invariant-loop-item
invariant-loop-item g l = l.those.items ≡ filter (g.Q.Asks.holds l.question) (take l.item-index l.items)
