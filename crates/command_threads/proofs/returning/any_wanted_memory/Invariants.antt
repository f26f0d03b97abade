use Rattle.std.proofs.Common.{All, take}
use Rattle.kernel_shared.specs.declared.driving.Driven.{Driven}
use Rattle.command_threads.specs.Private.Settled.{HadMemory}
use Rattle.command_threads.proofs.returning.any_wanted_memory.Given as goal

abbrev pub invariant-loop-driven : goal.invariant-loop-driven
invariant-loop-driven g l = All (λ (d : Driven g.row.N.Denot g.row.T.Denot). HadMemory d.stopped) (take l.driven-index l.all)
