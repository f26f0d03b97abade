use Rattle.std.proofs.Common.{◌≡◌, drop}
use Rattle.std.specs.Prelude.{find}
use Rattle.list_questions.proofs.first.Given as goal

abbrev pub invariant-loop-item : goal.invariant-loop-item
invariant-loop-item g l = find (g.Q.Asks.holds l.question) (drop l.item-index l.items) ≡ find (g.Q.Asks.holds l.question) l.items
