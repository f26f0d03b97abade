use Rattle.std.proofs.Common.{◌≡◌, ◌+◌, ◌++◌, take}
use Rattle.kernel_shared.specs.Fronts.{StartsWith}
use Rattle.kernel_shared.specs.ClientStates.{client_calls_made}
use Rattle.kernel_shared.proofs.driving.work.Given as goal

abbrev pub invariant-loop-call : goal.invariant-loop-call
invariant-loop-call g l = record {
  id : l.client.id ≡ l.fn.client.id;
  done : l.client.done ≡ l.fn.client.done + l.call-index;
  stray : l.client.stray ≡ l.fn.client.stray;
  later : StartsWith l.client.front l.fn.client.front;
  grown : client_calls_made l.client ≡ client_calls_made l.fn.client ++ take l.call-index l.calls;
}
