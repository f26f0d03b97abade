-- What is read after each round, below the limit.
use Rattle.std.proofs.Common.{length, ◌-◌}
use Rattle.command_core.proofs.Progress.{HasRead}
use Rattle.command_core.proofs.streams.read_below.Given as goal

abbrev pub invariant-loop-piece : goal.invariant-loop-piece
invariant-loop-piece g l = HasRead l.limit l.bytes.items (g.S.Source.left l.fn.source) (g.S.Source.left l.source) (g.S.Source.given l.fn.source) (g.S.Source.given l.source) (g.S.Source.failed l.fn.source) (g.S.Source.failed l.source)

abbrev pub decreases-loop-piece : goal.decreases-loop-piece
decreases-loop-piece g l = l.limit - length l.bytes.items
