-- What is written after each round, and what is left.
use Rattle.std.proofs.Common.{length}
use Rattle.command_core.proofs.Progress.{HasWritten}
use Rattle.command_core.proofs.streams.write_all.Given as goal

abbrev pub invariant-loop-rest : goal.invariant-loop-rest
invariant-loop-rest g l = HasWritten l.text l.rest (g.K.Sink.taken l.fn.sink) (g.K.Sink.taken l.sink) (g.K.Sink.written l.fn.sink) (g.K.Sink.written l.sink) (g.K.Sink.failed l.fn.sink) (g.K.Sink.failed l.sink)

abbrev pub decreases-loop-rest : goal.decreases-loop-rest
decreases-loop-rest g l = length l.rest
