use Rattle.std.proofs.Common.{◌≡◌, All, None, length, map, vec_len, vec_capacity}
use Rattle.kernel_shared.specs.declared.driving.Driven.{Driven}
use Rattle.kernel_shared.specs.ClientStates.{ClientState}
use Rattle.command_threads.specs.Private.Settled.{IsFinished}
use Rattle.command_threads.proofs.returning.clients_after.Given as goal

abbrev pub invariant-loop-driven : goal.invariant-loop-driven
invariant-loop-driven g l = record {
  len : length l.clients.items ≡ length l.yielded;
  room : vec_capacity l.clients ≡ vec_len l.fn.all;
  same : l.clients.items ≡ map (λ (d : Driven g.row.N.Denot g.row.T.Denot). d.client) l.yielded;
  whole : All (λ (t : ClientState). t.stray ≡ None) l.clients.items;
  finished : All (λ (d : Driven g.row.N.Denot g.row.T.Denot). IsFinished d.stopped) l.yielded;
}
