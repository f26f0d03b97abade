use Rattle.std.proofs.Common.{ℕ, ◌≡◌, Some, drop, length, slice_get}
use Rattle.command_threads.specs.SharedRuns.{client_calls}
use Rattle.command_threads.proofs.client_calls.calls_of_clients.Given as goal

abbrev pub invariant-loop-client : goal.invariant-loop-client
invariant-loop-client l = record {
  len : length l.lists.items ≡ l.client;
  each : (i : ℕ) (own : _) → slice_get l.lists.items i ≡ Some own → own.items ≡ client_calls i (drop l.made l.setup.calls);
}
