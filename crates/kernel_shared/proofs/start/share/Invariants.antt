use Rattle.std.proofs.Common.{ℕ, ◌≡◌, ◌+◌, [], None, Some, slice_get, length, vec_capacity}
use Rattle.kernel_shared.specs.ClientStates.{ClientState, client_state}
use Rattle.kernel_shared.proofs.start.share.Given as goal

abbrev pub invariant-loop-id : goal.invariant-loop-id
invariant-loop-id g l = record {
  parts : l.rest.parts + l.id ≡ l.clients;
  amount : l.rest.amount ≡ 0;
  len : length l.all.items ≡ l.id;
  room : vec_capacity l.all ≡ l.clients;
  each : (i : ℕ) (c : ClientState) → slice_get l.all.items i ≡ Some c → c ≡ client_state i 0 [] None;
}
